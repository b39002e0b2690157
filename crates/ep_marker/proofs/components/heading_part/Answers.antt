use Rattle.ep_grammar.specs.Units.{heading_part}
use Rattle.ep_marker.proofs.Forms.{alone}
use Rattle.ep_marker.proofs.Walks.{firsts, gives, seconds, ◌▸◌}
use Rattle.ep_marker.proofs.components.heading_part.Goals as goal

pub returns-then-sees_word : goal.returns-then-sees_word
unfolding heading_part
returns-then-sees_word c = firsts (alone c.if-sees_word.ensures) (gives ▸ c.constants.ensures)

pub returns-then-sees_word-2 : goal.returns-then-sees_word-2
unfolding heading_part
returns-then-sees_word-2 c = seconds (alone c.if-sees_word.ensures) (firsts (alone c.if-sees_word-2.ensures) (gives ▸ c.types.ensures))

pub returns-then-sees_word-3 : goal.returns-then-sees_word-3
unfolding heading_part
returns-then-sees_word-3 c = seconds (alone c.if-sees_word.ensures) (seconds (alone c.if-sees_word-2.ensures) (firsts (alone c.if-sees_word-3.ensures) (gives ▸ c.variables.ensures)))

pub returns : goal.returns
unfolding heading_part
returns c = seconds (alone c.if-sees_word.ensures) (seconds (alone c.if-sees_word-2.ensures) (seconds (alone c.if-sees_word-3.ensures) c.heading_routine.ensures))
