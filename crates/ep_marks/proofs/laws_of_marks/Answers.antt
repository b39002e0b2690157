-- The laws of marks.
use Rattle.ep_marks.proofs.Texts.{styles-fit, each-is-marked}
use Rattle.ep_marks.proofs.laws_of_marks.Goals as goal

pub returns-clause-fit : goal.returns-clause-fit
returns-clause-fit c = styles-fit

pub returns-clause-each : goal.returns-clause-each
returns-clause-each c = each-is-marked
