use Rattle.std.proofs.Common.{w64}
use Rattle.std.proofs.lemmas.Int.{to_z-of_z}
use Rattle.ep_gen_code.proofs.public.Growing.{on_ok}
use Rattle.ep_gen_expr.proofs.Forms.{grows_step}
use Rattle.ep_gen_expr.proofs.operations.apply_step.Goals as goal

pub returns : goal.returns
returns c =
    let low = to_z-of_z w64 c.args.low c.ranges.low in
    let high = to_z-of_z w64 c.args.high c.ranges.high in
    on_ok c.emit.result (grows_step c.args.down c.args.low c.args.high c.in_ok-negate_if.ensures (rw (low, high) at c.in_ok-push_pair.ensures)) c.emit.ensures
