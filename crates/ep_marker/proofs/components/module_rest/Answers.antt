use Rattle.ep_grammar.specs.Units.{module_rest}
use Rattle.ep_marker.proofs.Walks.{gives, ◌▸◌, ◌▹◌}
use Rattle.ep_marker.proofs.components.module_rest.Goals as goal

pub returns : goal.returns
unfolding module_rest
returns c = gives ▸ c.heading_rest.ensures ▹ (c.symbol.ensures _) ▸ c.block.ensures
