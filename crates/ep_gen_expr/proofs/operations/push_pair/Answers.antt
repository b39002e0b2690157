use Rattle.std.proofs.Common.{w64}
use Rattle.std.proofs.lemmas.Int.{to_z-of_z}
use Rattle.ep_gen_code.proofs.public.Growing.{on_ok, grows_pair}
use Rattle.ep_gen_expr.proofs.operations.push_pair.Goals as goal

pub returns : goal.returns
returns c =
    let low = to_z-of_z w64 c.args.low c.ranges.low in
    let high = to_z-of_z w64 c.args.high c.ranges.high in
    on_ok c.emit-2.result (grows_pair c.args.low c.args.high (rw low at c.in_ok-emit.ensures)) (rw high at c.emit-2.ensures)
