use Rattle.ep_grammar.specs.Units.{program_component, unit}
use Rattle.ep_marker.proofs.Forms.{alone}
use Rattle.ep_marker.proofs.Walks.{firsts, gives, seconds, ◌▸◌}
use Rattle.ep_marker.proofs.components.unit.Goals as goal

pub returns-then-sees_word : goal.returns-then-sees_word
unfolding unit program_component
returns-then-sees_word c = firsts (alone c.if-sees_word.ensures) (gives ▸ c.program.ensures)

pub returns : goal.returns
unfolding unit
returns c = seconds (alone c.if-sees_word.ensures) c.module_component.ensures
