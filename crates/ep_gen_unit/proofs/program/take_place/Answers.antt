use Rattle.std.proofs.Common.{w64, arith}
use Rattle.std.proofs.lemmas.Int.{to_z_pos}
use Rattle.ep_gen_code.proofs.public.Growing.{on_ok}
use Rattle.ep_gen_unit.proofs.ProgramForms.{grows_place}
use Rattle.ep_gen_unit.proofs.program.take_place.Goals as goal

pub returns : goal.returns
returns c =
    let slot = to_z_pos w64 c.args.slot (omega (arith, c.ranges.slot.fits)) in
    on_ok c.emit-2.result (grows_place c.args.slot (rw slot at c.in_ok-emit.ensures)) (rw slot at c.emit-2.ensures)
