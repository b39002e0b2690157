use Rattle.ep_grammar.specs.Declarations.{variables}
use Rattle.ep_marker.proofs.Walks.{gives, levels, lines, ◌▸◌, ◌▹◌}
use Rattle.ep_marker.proofs.declarations.variables.Goals as goal

pub returns : goal.returns
unfolding variables
returns c = levels c.open.ensures (gives ▸ lines ▹ (c.word.ensures _) ▸ c.variable_declarations.ensures)
