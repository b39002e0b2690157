use Rattle.ep_levels.proofs.Knot.{levels_are_nesting}
use Rattle.ep_levels.proofs.laws_of_levels.Goals as goal

pub returns : goal.returns
returns c = levels_are_nesting
