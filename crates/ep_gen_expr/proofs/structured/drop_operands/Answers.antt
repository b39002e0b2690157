use Rattle.ep_gen_expr.proofs.RangeIndexes.{grows_drop}
use Rattle.ep_gen_expr.proofs.structured.drop_operands.Goals as goal

pub loop-operand-preserved : goal.loop-operand-preserved
loop-operand-preserved c = grows_drop c.loop-operand._operand c.loop-operand.invariant c.in_ok-emit.ensures
