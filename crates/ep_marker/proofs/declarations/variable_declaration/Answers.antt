use Rattle.ep_grammar.specs.Declarations.{variable_declaration}
use Rattle.ep_marker.proofs.Walks.{gives, levels, lines, ◌▸◌, ◌▹◌}
use Rattle.ep_marker.proofs.declarations.variable_declaration.Goals as goal

pub returns : goal.returns
unfolding variable_declaration
returns c = levels c.open.ensures (gives ▸ lines ▸ c.names.ensures ▹ (c.symbol.ensures _) ▸ c.type_denoter.ensures ▹ (c.symbol-2.ensures _))
