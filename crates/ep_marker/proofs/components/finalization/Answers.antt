use Rattle.ep_grammar.specs.Units.{finalization}
use Rattle.ep_marker.proofs.Walks.{gives, levels, ◌▸◌, ◌▹◌}
use Rattle.ep_marker.proofs.components.finalization.Goals as goal

pub returns : goal.returns
unfolding finalization
returns c = levels c.open.ensures (gives ▹ (c.new_line.ensures _) ▹ (c.word.ensures _) ▸ c.action.ensures)
