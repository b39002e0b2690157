use Rattle.ep_grammar.specs.Units.{exports}
use Rattle.ep_marker.proofs.Walks.{gives, started, ◌▸◌, ◌▹◌}
use Rattle.ep_marker.proofs.components.exports.Goals as goal

pub returns : goal.returns
unfolding exports
returns c = started c.len-first.ensures (gives ▹ (c.word.ensures _) ▸ c.export_parts.ensures) c.start.ensures
