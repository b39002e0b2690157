-- Accesses that are calls, and those with a field behind their name.
use Rattle.std.specs.Prelude.{ℕ, List, [], ◌∷◌, Option, Some, None}
use Rattle.std.specs.Borrow.{Bor}
use Rattle.ep_tree.specs.Shapes.{arguments_in, field_in, when_some}
use Rattle.ep_tree.specs.declared.expression.Argument.{Argument}
use Rattle.ep_tree.specs.declared.expression.Selector.{Selector, out-Selector}

-- the arguments that come first, and the selectors behind them
abbrev pub arguments_first : List Selector → Option (List Argument × List Selector)
arguments_first [] = None
arguments_first (s ∷ more) = when_some (arguments_in (out-Selector s)) (λ given. Some (given, more))

-- the name of a field that comes first, and the selectors behind it
abbrev pub field_first : List Selector → Option (List ℕ × List Selector)
field_first [] = None
field_first (s ∷ more) = when_some (field_in (out-Selector s)) (λ name. Some (name, more))

-- both behind references
abbrev pub split_of : {A : Type 0} → Bor A × Bor (List Selector) → A × List Selector
split_of p = (p.0.now, p.1.now)
