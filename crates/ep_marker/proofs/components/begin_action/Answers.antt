use Rattle.ep_grammar.specs.Units.{begin_action}
use Rattle.ep_marker.proofs.Forms.{alone}
use Rattle.ep_marker.proofs.Walks.{firsts, gives, seconds, ◌▸◌, ◌▹◌}
use Rattle.ep_marker.proofs.components.begin_action.Goals as goal

pub returns-then-not-sees_word : goal.returns-then-not-sees_word
unfolding begin_action
returns-then-not-sees_word c = gives ▹ (c.word.ensures _) ▸ c.action.ensures ▸ seconds (alone c.if-not-sees_word.ensures) gives

pub returns : goal.returns
unfolding begin_action
returns c = gives ▹ (c.word.ensures _) ▸ c.action.ensures ▸ firsts (alone c.if-not-sees_word.ensures) (gives ▸ c.finalization.ensures)
