use Rattle.std.proofs.Common.{◌+◌, w64, arith}
use Rattle.std.proofs.lemmas.Int.{to_z_pos, to_z-of_z}
use Rattle.ep_gen_code.proofs.public.Growing.{on_ok}
use Rattle.ep_gen_expr.proofs.RangeForms.{appends_test}
use Rattle.ep_gen_expr.proofs.ranges.test_code.Goals as goal

pub returns : goal.returns
returns c =
    let low = to_z-of_z w64 c.args.low c.ranges.low in
    let high = to_z-of_z w64 c.args.high c.ranges.high in
    let next = to_z_pos w64 (c.in_ok-start.start + 6) (omega (arith, c.in_ok-start.ensures.small)) in
    let body = to_z_pos w64 c.args.body (omega (arith, c.ranges.body.fits)) in
    on_ok c.emit-6.result (appends_test c.args.body c.in_ok-start.start (record { low = c.args.low; high = c.args.high }) c.in_ok-start.ensures c.in_ok-emit.ensures (rw low at c.in_ok-emit-2.ensures) (rw high at c.in_ok-emit-3.ensures) c.in_ok-emit-4.ensures (rw next at c.in_ok-emit-5.ensures)) (rw body at c.emit-6.ensures)
