use Rattle.ep_grammar.specs.Units.{component}
use Rattle.ep_marker.proofs.Walks.{gives, started, ◌▸◌, ◌▹◌}
use Rattle.ep_marker.proofs.components.component.Goals as goal

pub returns : goal.returns
unfolding component
returns c = started c.len-first.ensures (gives ▸ c.unit.ensures ▹ (c.symbol.ensures _)) c.start.ensures
