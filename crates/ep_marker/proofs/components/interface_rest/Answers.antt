use Rattle.ep_grammar.specs.Units.{interface_rest}
use Rattle.ep_marker.proofs.Walks.{gives, ◌▸◌, ◌▹◌}
use Rattle.ep_marker.proofs.components.interface_rest.Goals as goal

pub returns : goal.returns
unfolding interface_rest
returns c = gives ▹ c.interface.ensures ▸ c.heading_rest.ensures
