use Rattle.std.proofs.Common.{length}
use Rattle.ep_gen_code.specs.Growth.{Grows}
use Rattle.ep_gen_expr.specs.ExprCode.{spreads_code}
use Rattle.ep_gen_expr.proofs.structured.spread_values.Given as goal

abbrev pub invariant-loop-range : goal.invariant-loop-range
invariant-loop-range l = Grows l.fn.code l.code (spreads_code l.fn.code.line (length l.fn.code.instructions) l._range)
