use Rattle.std.proofs.Common.{length, take}
use Rattle.ep_gen_expr.specs.ExprCode.{tests_code}
use Rattle.ep_gen_code.specs.Growth.{Grows}
use Rattle.ep_gen_expr.proofs.ranges.tests_code.Given as goal

abbrev pub invariant-loop-range : goal.invariant-loop-range
invariant-loop-range l = Grows l.fn.code l.code (tests_code l.fn.code.line l.body (length l.fn.code.instructions) (take l.range-index l.ranges))
