-- What may stand one level deeper: the productions, by the number of levels that are left.
use Rattle.std.specs.Prelude.{◌≡◌, ℕ, zero, suc, Bool, List, [], ◌++◌, Option, Some, None, Result, Ok, Err}
use Rattle.ep_grammar.specs.declared.stop.Stop.{Stop}
use Rattle.ep_grammar.specs.Descriptions.{Nonterminal, Node, expressions, factors, component_values, elements}
use Rattle.ep_grammar.specs.Descriptions.{bracketed_values, plains, field_lists, statements, routines, Syntax}
use Rattle.ep_token.specs.declared.token.Token.{Token}
use Rattle.ep_tree.specs.declared.component.Component.{Component}
use Rattle.ep_grammar.specs.Derived.{derives}
use Rattle.ep_grammar.specs.Reading.{Inside, Parser, read, cause}
use Rattle.ep_grammar.specs.Expressions.{expression, factor, component_value, element, values}
use Rattle.ep_grammar.specs.Types.{plain, fields}
use Rattle.ep_grammar.specs.Statements.{statement}
use Rattle.ep_grammar.specs.Declarations.{routine}
use Rattle.ep_grammar.specs.Units.{components}

abbrev pub rule : (n : Nonterminal) → Syntax (Node n)
rule expressions = expression
rule factors = factor
rule component_values = component_value
rule elements = element
rule bracketed_values = values
rule plains = plain
rule field_lists = fields
rule statements = statement
rule routines = routine

-- what stands one level deeper, where this many levels are left
unfoldable pub derived_at : ℕ → (n : Nonterminal) → List Token → List Token → Node n → Type 0
derived_at zero n a b x = ⊥
derived_at (suc k) n a b x = derives (derived_at k) (rule n) a b x

-- These tokens derive this list of components, in which at most k levels nest.
abbrev pub Grammar : ℕ → List Token → List Component → Type 0
Grammar k ts cs = derives (derived_at k) components ts [] cs

-- These tokens begin the tokens of some list of components in which at most k levels nest.
abbrev pub Begins : ℕ → List Token → Type 0
Begins k ts = (more : List Token) × (cs : List Component) × Grammar k (ts ++ more) cs

unfoldable pub inside_at : ℕ → Option Inside
inside_at zero = None
inside_at (suc k) = Some (λ n. read (inside_at k) (rule n))

-- what may stand one level deeper, where this many levels are left there
abbrev pub inside_with : ℕ → Option Inside
inside_with k = Some (λ n. read (inside_at k) (rule n))

-- what a test of the levels that are left ensures: how many are left inside
abbrev pub Deepens : Option Inside → Bool → Result ℕ Stop → Type 0
Deepens here begins (Ok k) = here ≡ inside_with k
Deepens here begins (Err e) = (here ≡ None) × (e ≡ cause begins)

-- what a parser answers to a whole text
abbrev pub read_components : ℕ → Parser (List Component)
read_components k = read (inside_at k) components
