use Rattle.ep_grammar.specs.Units.{end_action}
use Rattle.ep_marker.proofs.Walks.{gives, ◌▸◌, ◌▹◌}
use Rattle.ep_marker.proofs.components.end_action.Goals as goal

pub returns : goal.returns
unfolding end_action
returns c = gives ▹ (c.word.ensures _) ▸ c.action.ensures
