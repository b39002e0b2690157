use Rattle.ep_grammar.specs.Units.{action}
use Rattle.ep_marker.proofs.Walks.{gives, ◌▸◌, ◌▹◌}
use Rattle.ep_marker.proofs.components.action.Goals as goal

pub returns : goal.returns
unfolding action
returns c = gives ▹ (c.word.ensures _) ▸ c.inner_statement.ensures ▹ (c.symbol.ensures _)
