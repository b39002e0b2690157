use Rattle.ep_grammar.specs.Units.{module_component}
use Rattle.ep_marker.proofs.Walks.{gives, lines, ◌▸◌, ◌▹◌}
use Rattle.ep_marker.proofs.components.module_component.Goals as goal

pub returns : goal.returns
unfolding module_component
returns c = gives ▸ lines ▹ (c.word.ensures _) ▸ c.name.ensures ▸ c.any_rest.ensures
