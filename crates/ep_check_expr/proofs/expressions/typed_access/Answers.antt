use Rattle.ep_check_expr.proofs.Reading.{access-answers}
use Rattle.ep_check_expr.proofs.expressions.typed_access.Goals as goal

pub returns-clause-read : goal.returns-clause-read
returns-clause-read c = access-answers c.args.scopes.now c.args.tree.now c.access.result c.access.ensures
