use Rattle.ep_grammar.specs.Units.{actions}
use Rattle.ep_marker.proofs.Forms.{alone}
use Rattle.ep_marker.proofs.Walks.{firsts, gives, seconds}
use Rattle.ep_marker.proofs.components.actions.Goals as goal

pub returns-then-sees_word : goal.returns-then-sees_word
unfolding actions
returns-then-sees_word c = firsts (alone c.if-sees_word.ensures) c.some_actions.ensures

pub returns : goal.returns
unfolding actions
returns c = seconds (alone c.if-sees_word.ensures) gives
