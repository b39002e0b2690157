use Rattle.ep_grammar.specs.Declarations.{constants}
use Rattle.ep_marker.proofs.Walks.{gives, lines, ◌▸◌, ◌▹◌}
use Rattle.ep_marker.proofs.declarations.constants.Goals as goal

pub returns : goal.returns
unfolding constants
returns c = gives ▸ lines ▹ (c.word.ensures _) ▸ c.constant_definitions.ensures
