use Rattle.ep_grammar.specs.Units.{implementation_rest}
use Rattle.ep_marker.proofs.Walks.{gives, ◌▸◌, ◌▹◌}
use Rattle.ep_marker.proofs.components.implementation_rest.Goals as goal

pub returns : goal.returns
unfolding implementation_rest
returns c = gives ▹ c.implementation.ensures ▹ (c.symbol.ensures _) ▸ c.block.ensures
