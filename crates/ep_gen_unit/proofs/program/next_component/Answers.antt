use Rattle.std.proofs.Common.{◌+◌, w64, arith}
use Rattle.std.proofs.lemmas.Int.{to_z_pos}
use Rattle.ep_gen_code.proofs.public.Growing.{on_ok}
use Rattle.ep_gen_unit.proofs.ProgramForms.{grows_next}
use Rattle.ep_gen_unit.proofs.program.next_component.Goals as goal

pub returns : goal.returns
returns c =
    let end = to_z_pos w64 (c.args.entry + 19) (omega (arith, c.ranges.entry.fits)) in
    let head = to_z_pos w64 (c.args.entry + 3) (omega (arith, c.ranges.entry.fits)) in
    on_ok c.emit-8.result (grows_next c.args.entry c.in_ok-emit.ensures c.in_ok-emit-2.ensures c.in_ok-apply_binary.ensures (rw end at c.in_ok-emit-3.ensures) c.in_ok-emit-4.ensures c.in_ok-emit-5.ensures (rw head at c.in_ok-emit-6.ensures) c.in_ok-emit-7.ensures) c.emit-8.ensures
