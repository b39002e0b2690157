use Rattle.std.proofs.Common.{take}
use Rattle.ep_gen_code.specs.Growth.{Grows}
use Rattle.ep_gen_expr.specs.ExprCode.{steps_code}
use Rattle.ep_gen_expr.proofs.structured.follow_steps.Given as goal

abbrev pub invariant-loop-number : goal.invariant-loop-number
invariant-loop-number l = Grows l.fn.code l.code (steps_code l.fn.code.line (take l.number-index l.steps))
