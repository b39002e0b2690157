-- The levels that a text takes.
use Rattle.std.specs.Prelude.{ℕ, ◌≤◌, ◌↔◌, List}
use Rattle.std.specs.List.{All}
use Rattle.ep_token.specs.declared.token.Token.{Token}
use Rattle.ep_tree.specs.declared.component.Component.{Component}
use Rattle.ep_tree.specs.Nesting.{component_nesting}
use Rattle.ep_grammar.specs.Rules.{Grammar}

-- With k levels these tokens derive these components exactly where they do with some number of levels and no component
-- nests deeper than k.
abbrev pub LevelsAreNesting : Type 0
LevelsAreNesting =
    (k : ℕ) (ts : List Token) (cs : List Component) →
    Grammar k ts cs ↔ (((m : ℕ) × Grammar m ts cs) × All (λ c. component_nesting c ≤ k) cs)
