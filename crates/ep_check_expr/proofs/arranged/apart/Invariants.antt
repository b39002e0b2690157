use Rattle.std.proofs.Common.{◌≡◌, ◌++◌, drop, true}
use Rattle.ep_check_expr.specs.StructuredValues.{are_apart}
use Rattle.ep_check_expr.proofs.arranged.apart.Given as goal

abbrev pub invariant-loop-range : goal.invariant-loop-range
invariant-loop-range l = (l.apart ++ drop l.range-index l.ranges ≡ l.fn.ranges) × (are_apart l.apart ≡ true)
