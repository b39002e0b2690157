use Rattle.ep_grammar.specs.Units.{heading_rest}
use Rattle.ep_marker.proofs.Walks.{gives, ◌▸◌, ◌▹◌}
use Rattle.ep_marker.proofs.components.heading_rest.Goals as goal

pub returns : goal.returns
unfolding heading_rest
returns c = gives ▸ c.parameters.ensures ▹ (c.symbol.ensures _) ▸ c.exports.ensures ▸ c.imports.ensures ▸ c.heading_parts.ensures ▹ (c.new_line.ensures _)
