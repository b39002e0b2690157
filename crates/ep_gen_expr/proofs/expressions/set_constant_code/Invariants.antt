use Rattle.std.proofs.Common.{take}
use Rattle.ep_typed.specs.Trees.{SetConstant}
use Rattle.ep_gen_expr.specs.Growth.{AppendsExpr}
use Rattle.ep_gen_expr.proofs.expressions.set_constant_code.Given as goal

abbrev pub invariant-loop-member : goal.invariant-loop-member
invariant-loop-member l = AppendsExpr l.fn.code l.code (SetConstant (take l.member-index l.members))
