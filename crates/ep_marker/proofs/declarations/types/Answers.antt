use Rattle.ep_grammar.specs.Declarations.{types}
use Rattle.ep_marker.proofs.Walks.{gives, levels, lines, ◌▸◌, ◌▹◌}
use Rattle.ep_marker.proofs.declarations.types.Goals as goal

pub returns : goal.returns
unfolding types
returns c = levels c.open.ensures (gives ▸ lines ▹ (c.word.ensures _) ▸ c.type_definitions.ensures)
