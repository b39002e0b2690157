use Rattle.std.proofs.Common.{refl, w64, arith}
use Rattle.std.proofs.lemmas.Int.{to_z_pos}
use Rattle.ep_gen_unit.proofs.ProgramForms.{makes_one}
use Rattle.ep_gen_unit.proofs.program.make_result.Goals as goal

pub returns-in_ok-emit-in-Some : goal.returns-in_ok-emit-in-Some
returns-in_ok-emit-in-Some c =
    let slot = to_z_pos w64 c.in_ok-slot.slot (omega arith) in
    makes_one c.args.code.now c.args.routine.now c.items.result.now _ c.in-Some.result c.in_ok-slot.slot c.in_ok-behind-in-Some.behind c.items.ensures refl c.in-Some.is c.in_ok-slot.ensures.0 c.in_ok-elaborate-in-Some.ensures (rw slot at c.in_ok-emit-in-Some.ensures) c.in_ok-behind-in-Some.ensures
