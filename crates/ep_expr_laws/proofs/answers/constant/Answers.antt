use Rattle.ep_expr_laws.proofs.answers.constant.Goals as goal

pub returns-clause-judged : goal.returns-clause-judged
returns-clause-judged c = rw c.of.ensures at c.constant_in_view.ensures.judged

pub returns-clause-valid : goal.returns-clause-valid
returns-clause-valid c = rw c.of.ensures at c.constant_in_view.ensures.valid
