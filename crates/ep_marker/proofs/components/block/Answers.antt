use Rattle.ep_grammar.specs.Units.{block}
use Rattle.ep_marker.proofs.Walks.{gives, lines, started, ◌▸◌, ◌▹◌}
use Rattle.ep_marker.proofs.components.block.Goals as goal

pub returns : goal.returns
unfolding block
returns c = started c.len-first.ensures (gives ▸ lines ▸ c.imports.ensures ▸ c.parts.ensures ▸ c.actions.ensures ▹ (c.new_line.ensures _)) c.start.ensures
