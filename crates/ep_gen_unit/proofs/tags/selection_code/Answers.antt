use Rattle.std.proofs.Common.{◌+◌, ◌*◌, ◌<◌, ◌≡◌, length, w64, arith}
use Rattle.std.proofs.lemmas.Bool.Decides.{nat_tests}
use Rattle.std.proofs.lemmas.Int.{to_z_pos}
use Rattle.ep_gen_code.proofs.public.Growing.{on_ok}
use Rattle.ep_gen_unit.proofs.TagForms.{grows_selection}
use Rattle.ep_gen_unit.proofs.tags.selection_code.Goals as goal

pub returns : goal.returns
returns c =
    let some : 0 < length c.args.ranges.now = grind (arith, nat_tests, c.is_empty.ensures, c.if-is_empty.false) in
    let body : c.in_ok-body.body ≡ c.in_ok-start.start + 6 * length c.args.ranges.now + 1 = omega (arith, c.in_ok-body.ensures.0, c.in_ok-count.ensures.0) in
    let over = to_z_pos w64 (c.in_ok-body.body + 3) (omega (arith, c.in_ok-body.ensures.1)) in
    let number = to_z_pos w64 c.args.number (omega (arith, c.ranges.number.fits)) in
    let leave = to_z_pos w64 c.args.leave (omega (arith, c.ranges.leave.fits)) in
    on_ok c.emit-4.result (grows_selection c.args.leave c.args.number c.in_ok-body.body c.in_ok-start.start c.args.ranges.now some body c.in_ok-start.ensures c.in_ok-tests_code.ensures (rw over at c.in_ok-emit.ensures) c.in_ok-emit-2.ensures (rw number at c.in_ok-emit-3.ensures)) (rw leave at c.emit-4.ensures)
