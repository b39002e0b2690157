use Rattle.ep_scope.proofs.Opened.{structure_within_all}
use Rattle.ep_scope.proofs.view.structure_of.Goals as goal

pub returns : goal.returns
returns c = rw (← c.view.view_is, structure_within_all) c.structure_among.ensures
