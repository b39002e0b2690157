use Rattle.std.proofs.Common.{◌+◌, w64, arith}
use Rattle.std.proofs.lemmas.Int.{to_z_pos}
use Rattle.ep_gen_code.proofs.public.Growing.{on_ok}
use Rattle.ep_gen_unit.proofs.ProgramForms.{grows_result}
use Rattle.ep_gen_unit.proofs.program.give_result.Goals as goal

pub returns : goal.returns
returns c =
    let slot = to_z_pos w64 c.args.number (omega (arith, c.ranges.number.fits)) in
    let target = to_z_pos w64 (c.in_ok-jump.jump + 3) (omega (arith, c.in_ok-jump.ensures.small)) in
    on_ok c.emit-7.result (grows_result c.args.number c.in_ok-jump.jump (rw slot at c.in_ok-emit.ensures) c.in_ok-emit-2.ensures c.in_ok-emit-3.ensures c.in_ok-jump.ensures (rw target at c.in_ok-emit-4.ensures) c.in_ok-emit-5.ensures c.in_ok-emit-6.ensures) c.emit-7.ensures
