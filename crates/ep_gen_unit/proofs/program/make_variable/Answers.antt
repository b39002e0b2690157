use Rattle.std.proofs.Common.{w64, arith}
use Rattle.std.proofs.lemmas.Int.{to_z_pos}
use Rattle.ep_gen_code.proofs.public.Growing.{on_ok}
use Rattle.ep_gen_unit.proofs.ProgramForms.{makes_variable}
use Rattle.ep_gen_unit.proofs.program.make_variable.Goals as goal

pub returns : goal.returns
returns c =
    let slot = to_z_pos w64 c.args.slot (omega (arith, c.ranges.slot.fits)) in
    on_ok c.emit.result (makes_variable c.args.code.now c.args.variable.now c.args.slot c.in_ok-elaborate.ensures) (rw slot at c.emit.ensures)
