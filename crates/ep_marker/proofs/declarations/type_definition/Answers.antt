use Rattle.ep_grammar.specs.Declarations.{type_definition}
use Rattle.ep_marker.proofs.Walks.{gives, levels, lines, ◌▸◌, ◌▹◌}
use Rattle.ep_marker.proofs.declarations.type_definition.Goals as goal

pub returns : goal.returns
unfolding type_definition
returns c = levels c.open.ensures (gives ▸ lines ▸ c.name.ensures ▸ c.discriminants.ensures ▹ (c.symbol.ensures _) ▸ c.type_denoter.ensures ▹ (c.symbol-2.ensures _))
