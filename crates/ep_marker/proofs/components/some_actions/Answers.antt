use Rattle.ep_grammar.specs.Units.{some_actions}
use Rattle.ep_marker.proofs.Forms.{alone}
use Rattle.ep_marker.proofs.Walks.{firsts, gives, levels, seconds, ◌▸◌, ◌▹◌}
use Rattle.ep_marker.proofs.components.some_actions.Goals as goal

pub returns-then-sees_word : goal.returns-then-sees_word
unfolding some_actions
returns-then-sees_word c = levels c.open.ensures (gives ▹ (c.new_line.ensures _) ▸ firsts (alone c.if-sees_word.ensures) c.begin_action.ensures)

pub returns : goal.returns
unfolding some_actions
returns c = levels c.open.ensures (gives ▹ (c.new_line.ensures _) ▸ seconds (alone c.if-sees_word.ensures) c.end_action.ensures)
