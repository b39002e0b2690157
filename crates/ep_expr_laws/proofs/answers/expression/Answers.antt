use Rattle.ep_expr_laws.proofs.answers.expression.Goals as goal

pub returns-clause-valid : goal.returns-clause-valid
returns-clause-valid c = rw c.of.ensures at c.expression_in_view.ensures.valid
