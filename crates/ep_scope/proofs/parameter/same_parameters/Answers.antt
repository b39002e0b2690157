use Rattle.std.proofs.Common.{rules}
use Rattle.ep_scope.proofs.Parameters.{other_length}
use Rattle.ep_scope.proofs.parameter.same_parameters.Goals as goal

pub returns-then-left-right : goal.returns-then-left-right
returns-then-left-right c = other_length c.args.left.now c.args.right.now (λ e. grind (rules, e, c.if-left-right))
