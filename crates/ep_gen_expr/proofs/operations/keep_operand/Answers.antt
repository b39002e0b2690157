use Rattle.ep_gen_expr.proofs.Forms.{keeps_operand}
use Rattle.ep_gen_expr.proofs.operations.keep_operand.Goals as goal

pub returns : goal.returns
returns c = keeps_operand c.args.operation c.in_ok-hole.hole c.in_ok-twice.ensures c.in_ok-hole.ensures c.in_ok-emit.ensures
