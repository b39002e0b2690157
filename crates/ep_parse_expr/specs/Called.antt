-- What follows the name of a factor: selectors, or a structured value.
use Rattle.std.specs.Prelude.{◌≡◌, ◌≢◌, ℕ, List, [], ◌∷◌, ◌++◌, Option, Some, None, Result, Ok, Err}
use Rattle.ep_token.specs.declared.token.Token.{Token}
use Rattle.ep_tree.specs.declared.expression.Factor.{Factor}
use Rattle.ep_tree.specs.declared.expression.Factor.TheVariants as factor_is
use Rattle.ep_tree.specs.declared.expression.Selector.{Selector}
use Rattle.ep_tree.specs.declared.expression.Selector.TheVariants as selector_is
use Rattle.ep_tree.specs.declared.expression.Values.{Values}
use Rattle.ep_tree.specs.Nodes.{access_node, qualified_node}
use Rattle.ep_grammar.specs.declared.stop.Stop.{Stop}
use Rattle.ep_grammar.specs.declared.stop.Stop.TheVariants as stop
use Rattle.ep_grammar.specs.Expressions.{Called, accessed, structured}
use Rattle.ep_grammar.specs.Reading.{ReadOutcome}

-- the name that a selector of a field takes
abbrev pub name_in : Selector → Option (List ℕ)
name_in (selector_is.Field line name) = Some name
name_in _ = None

-- the name that the last of these selectors takes
abbrev pub last_field : List Selector → Option (List ℕ)
last_field [] = None
last_field (s ∷ []) = name_in s
last_field (s ∷ t ∷ more) = last_field (t ∷ more)

-- a factor of its name, its selectors and the values of a structured value; the selectors are then the second name
abbrev pub factor_with : ℕ → List ℕ → List Selector → Option Values → Factor
factor_with at name selectors None = factor_is.Access (access_node at name selectors)
factor_with at name selectors (Some values) =
    factor_is.Structured at (qualified_node at name (last_field selectors)) values

-- the selectors begin with those that were there before, and a structured value has no more
abbrev pub RestIs : List Selector → ReadOutcome Called → List Selector → Option Values → List Token → Type 0
RestIs before outcome selectors None new =
    (more : List Selector) × (outcome ≡ Ok (accessed more, new)) × (selectors ≡ before ++ more)
RestIs before outcome selectors (Some values) new = (outcome ≡ Ok (structured values 0, new)) × (selectors ≡ before)

-- what a function that reads this ensures
abbrev pub ReadsRest :
    List Selector → ReadOutcome Called → Result (List Selector × Option Values) Stop → List Token → Type 0
ReadsRest before outcome (Ok rest) new = RestIs before outcome rest.0 rest.1 new
ReadsRest before outcome (Err e) new = e ≢ stop.NoMemory → outcome ≡ Err (e, new)
