use Rattle.std.proofs.Common.{w64}
use Rattle.std.proofs.lemmas.Int.{to_z-of_z}
use Rattle.ep_gen_code.proofs.public.Growing.{on_ok}
use Rattle.ep_gen_expr.proofs.StructuredForms.{grows_range}
use Rattle.ep_gen_expr.proofs.structured.fill_range.Goals as goal

pub returns : goal.returns
returns c =
    let from = to_z-of_z w64 c.args.from c.ranges.from in
    let low = to_z-of_z w64 c.args.low c.ranges.low in
    let high = to_z-of_z w64 c.args.high c.ranges.high in
    on_ok c.emit-5.result (grows_range c.args.from (record { low = c.args.low; high = c.args.high }) c.in_ok-emit.ensures (rw from at c.in_ok-emit-2.ensures) (rw low at c.in_ok-emit-3.ensures) (rw high at c.in_ok-emit-4.ensures)) c.emit-5.ensures
