use Rattle.std.proofs.Common.{take}
use Rattle.ep_gen_code.specs.Growth.{Grows}
use Rattle.ep_gen_expr.specs.ExprCode.{ranges_code}
use Rattle.ep_gen_expr.proofs.structured.fill_ranges.Given as goal

abbrev pub invariant-loop-range : goal.invariant-loop-range
invariant-loop-range l = Grows l.fn.code l.code (ranges_code l.fn.code.line l.from (take l.range-index l.ranges))
