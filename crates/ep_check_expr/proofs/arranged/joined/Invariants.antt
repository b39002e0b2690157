use Rattle.std.proofs.Common.{◌≡◌, ◌++◌, drop}
use Rattle.ep_check_expr.proofs.arranged.joined.Given as goal

abbrev pub invariant-loop-range : goal.invariant-loop-range
invariant-loop-range l = l.ranges ++ drop l.range-index l.more ≡ l.fn.ranges ++ l.more
