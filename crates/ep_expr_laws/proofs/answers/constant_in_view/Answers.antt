use Rattle.ep_expr_laws.proofs.Lawful.{constant_expressions_are_sound}
use Rattle.ep_expr_laws.proofs.answers.constant_in_view.Goals as goal

pub returns-then-form-clause-valid : goal.returns-then-form-clause-valid
returns-then-form-clause-valid c form accepted = constant_expressions_are_sound c.args.scopes.now c.args.tree.now form accepted
