use Rattle.std.proofs.Common.{drop}
use Rattle.ep_check_expr.specs.StructuredConstants.{AreSettled}
use Rattle.ep_check_expr.proofs.structured_constants.+settled.Given as goal

abbrev pub invariant-are_settled-loop-one : goal.invariant-are_settled-loop-one
invariant-are_settled-loop-one l = AreSettled (drop l.one-index l.all) → AreSettled l.all
