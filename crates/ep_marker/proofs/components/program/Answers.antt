use Rattle.ep_grammar.specs.Units.{program}
use Rattle.ep_marker.proofs.Walks.{gives, lines, ◌▸◌, ◌▹◌}
use Rattle.ep_marker.proofs.components.program.Goals as goal

pub returns : goal.returns
unfolding program
returns c = gives ▸ lines ▹ (c.word.ensures _) ▸ c.name.ensures ▸ c.parameters.ensures ▹ (c.symbol.ensures _) ▸ c.imports.ensures ▸ c.parts.ensures ▸ c.compound.ensures
