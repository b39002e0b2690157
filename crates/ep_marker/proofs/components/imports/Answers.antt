use Rattle.ep_grammar.specs.Units.{imports}
use Rattle.ep_marker.proofs.Forms.{alone}
use Rattle.ep_marker.proofs.Walks.{firsts, gives, seconds, started, ◌▸◌, ◌▹◌}
use Rattle.ep_marker.proofs.components.imports.Goals as goal

pub returns-then-not-sees_word : goal.returns-then-not-sees_word
unfolding imports
returns-then-not-sees_word c = seconds (alone c.if-not-sees_word.ensures) gives

pub returns : goal.returns
unfolding imports
returns c = firsts (alone c.if-not-sees_word.ensures) (started c.len-first.ensures (gives ▹ (c.word.ensures _) ▸ c.import_specifications.ensures) c.start.ensures)
