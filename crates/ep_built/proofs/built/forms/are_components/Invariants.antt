use Rattle.std.proofs.Common.{◌≡◌, drop, map}
use Rattle.std.specs.List.{list_all}
use Rattle.ep_built.specs.Built.{is_component, selector_form}
use Rattle.ep_built.proofs.built.forms.are_components.Given as goal

abbrev pub invariant-loop-s : goal.invariant-loop-s
invariant-loop-s l = list_all is_component (map selector_form (drop l.s-index l.selectors)) ≡ list_all is_component (map selector_form l.selectors)
