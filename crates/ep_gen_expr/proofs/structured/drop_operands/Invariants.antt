use Rattle.ep_gen_code.specs.Growth.{Grows}
use Rattle.ep_gen_expr.specs.ExprCode.{drops_code}
use Rattle.ep_gen_expr.proofs.structured.drop_operands.Given as goal

abbrev pub invariant-loop-operand : goal.invariant-loop-operand
invariant-loop-operand l = Grows l.fn.code l.code (drops_code l.fn.code.line l._operand)
