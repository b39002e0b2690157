-- Which texts have trees, which are built, and which typed program a text is.
use Rattle.std.specs.Prelude.{◌≡◌, ℕ, ◌<◌, ◌≤◌, min, List, [], ◌∷◌, Option, Some, None}
use Rattle.std.specs.Option.{option_or}
use Rattle.ep_token.specs.Tokens.{Tokens}
use Rattle.ep_token.specs.declared.token.Token.{Token}
use Rattle.ep_tree.specs.declared.component.Component.{Component}
use Rattle.ep_built.specs.Built.{component_line, component_unbuilt}
use Rattle.ep_grammar.specs.Rules.{Grammar}
use Rattle.ep_grammar.specs.declared.stop.TheConstants.{MAX_NESTING}
use Rattle.ep_typed.specs.Nodes.{unit_nodes}
use Rattle.ep_typed.specs.declared.unit.Unit.{Unit as TypedUnit}
use Rattle.ep_check_unit.specs.Units.{IsTyped}

-- the text has tokens, which derive one component, all of whose nodes are built, and this holds of it
pub record HasBuilt (text : List ℕ) (P : Component → Type 0) : Type 0 where
  pub tokens : List Token
  pub are_tokens : Tokens text tokens
  pub component : Component
  pub derived : Grammar MAX_NESTING tokens (component ∷ [])
  pub built : component_unbuilt component ≡ None
  pub holds : P component

-- the most typed nodes of a unit
abbrev pub node_limit : ℕ
node_limit = 65536

-- the unit is the typed form of the component by the static rules, and no larger than a unit may be
pub record IsProgram (component : Component) (unit : TypedUnit) : Type 0 where
  pub typed : IsTyped component unit
  pub small : unit_nodes unit ≤ node_limit

-- the typed form of the component has this name and more nodes than a unit may have, which are told as far as a number
-- of 64 bits goes
pub record IsTooLarge (component : Component) (name : List ℕ) (nodes : ℕ) : Type 0 where
  pub unit : TypedUnit
  pub typed : IsTyped component unit
  pub named : name ≡ unit.name
  pub large : node_limit < unit_nodes unit
  pub told : nodes ≡ min (unit_nodes unit) 18446744073709551615

-- the text is a component all of whose nodes are built, and the unit is its typed program
abbrev pub IsProgramText : List ℕ → TypedUnit → Type 0
IsProgramText text unit = HasBuilt text (λ component. IsProgram component unit)

-- the text is some program
abbrev pub IsSound : List ℕ → Type 0
IsSound text = (unit : TypedUnit) × IsProgramText text unit

-- the text has tokens, which derive these components
pub record HasComponents (text : List ℕ) (components : List Component) : Type 0 where
  pub tokens : List Token
  pub are_tokens : Tokens text tokens
  pub derived : Grammar MAX_NESTING tokens components

-- a second component is a node that is not built, whatever it is
abbrev pub second_line : List Component → Option ℕ
second_line [] = None
second_line (component ∷ components) = Some (component_line component)

-- the line of the first node of a text's components that is not built, if there is one
abbrev pub components_unbuilt : List Component → Option ℕ
components_unbuilt [] = None
components_unbuilt (component ∷ components) = option_or (component_unbuilt component) (second_line components)

-- the text has tokens, which derive components, and this is the line of their first node that is not built, if there
-- is one
pub record HasUnbuilt (text : List ℕ) (line : Option ℕ) : Type 0 where
  pub tokens : List Token
  pub are_tokens : Tokens text tokens
  pub components : List Component
  pub derived : Grammar MAX_NESTING tokens components
  pub unbuilt : components_unbuilt components ≡ line

-- the text has tokens, which derive components
abbrev pub HasTree : List ℕ → Type 0
HasTree text = (line : Option ℕ) × HasUnbuilt text line

-- all nodes of the text are built
abbrev pub IsBuilt : List ℕ → Type 0
IsBuilt text = HasUnbuilt text None

-- the texts join to these units: so far there is one text, which is that of a program
abbrev pub Joins : List (List ℕ) → List TypedUnit → Type 0
Joins (text ∷ []) (unit ∷ []) = IsProgramText text unit
Joins _ _ = ⊥
