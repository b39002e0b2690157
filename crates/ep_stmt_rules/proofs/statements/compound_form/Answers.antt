use Rattle.ep_stmt_rules.proofs.Compounds.{compound_passes}
use Rattle.ep_stmt_rules.proofs.statements.compound_form.Goals as goal

pub returns-in_ok-form-in-Passes : goal.returns-in_ok-form-in-Passes
returns-in_ok-form-in-Passes c x h = rw c.in_ok-form-in-Passes.ensures (compound_passes c.in-Passes.all x (rw (c.in_ok-all.was, c.in-Passes.is) at h))
