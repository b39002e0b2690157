use Rattle.std.proofs.Common.{w64, arith}
use Rattle.std.proofs.lemmas.Int.{to_z_pos}
use Rattle.ep_gen_code.proofs.public.Growing.{on_ok}
use Rattle.ep_gen_unit.proofs.ProgramForms.{grows_value}
use Rattle.ep_gen_unit.proofs.program.take_value.Goals as goal

pub returns : goal.returns
returns c =
    let slot = to_z_pos w64 c.args.slot (omega (arith, c.ranges.slot.fits)) in
    on_ok c.emit-4.result (grows_value c.args.slot c.args.formal.now c.in_ok-elaborate.ensures (rw slot at c.in_ok-emit.ensures) (rw slot at c.in_ok-emit-2.ensures) (rw slot at c.in_ok-emit-3.ensures)) c.emit-4.ensures
