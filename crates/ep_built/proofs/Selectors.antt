-- What the walk is told of the forms of selectors, for `access_is_built`.
use Rattle.std.proofs.Common.{◌≡◌, List, map, [], ◌∷◌, refl, rules}
use Rattle.ep_built.specs.Built.{Found, Placed, Belonging, Selecting, form_told, selector_belonging, selector_form, at_component_value, at_element, at_factor, at_selector, at_access, at_addend, at_argument, at_comparison, at_expression, at_label, at_multiplier, at_simple, at_term, at_values}
use Rattle.ep_tree.specs.declared.expression.ComponentValue.TheFolds.{fold_out-Selector}
use Rattle.ep_tree.specs.declared.expression.Selector.{Selector}

-- what an access is told of a selector is its form
pub form_told-is : (s : Selector) → form_told (selector_belonging s) ≡ selector_form s
form_told-is s = grind (rules, fold_out-Selector Found Found Found Selecting Placed Belonging Found Belonging Found Found Belonging Found Found Found at_component_value at_element at_factor at_selector at_access at_addend at_argument at_comparison at_expression at_label at_multiplier at_simple at_term at_values s)

-- and so of all its selectors
pub forms_told : (ss : List Selector) → map form_told (map selector_belonging ss) ≡ map selector_form ss
forms_told [] = refl
forms_told (s ∷ ss) = let e = form_told-is s in let es = forms_told ss in cc
