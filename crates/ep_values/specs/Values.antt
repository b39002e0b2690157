-- The values of variables (ISO 10206, 6.2.3.2 and 6.6): what a new variable of a type has, and the components of a
-- value.
use Rattle.std.specs.Prelude.{ℕ, ℤ, zero, suc, List, [], ◌∷◌, Option, Some, None}
use Rattle.ep_values.specs.TypeValues.{TypeValue, Ordinal, Text, Array, ComponentTypes, Start, Starts, no_component}
use Rattle.ep_values.specs.TypeValues.{next_component, undefined_start, simple_start, set_start, parts_start, no_start}
use Rattle.ep_values.specs.TypeValues.{next_start}
use Rattle.ep_values.specs.TypeValues as type

-- A value, which is undefined as a whole, the ordinal number of a simple value, the values of components by their
-- numbers, or the members of a set in rising order. What is behind the last component does not count.
pub data Value : Type 0 where
  Undefined : Value
  Word : (number : ℤ) → Value
  Components : (of : ℕ → Value) → Value
  Members : (of : List ℕ) → Value

abbrev mutual
  -- the value that an initial state is
  pub started_as : Start → Value
  started_as (undefined_start size) = Undefined
  started_as (simple_start w) = Word w
  started_as (set_start ms) = Members ms
  started_as (parts_start ss) = Components (started_each ss)

  -- those that the ones of components are, by their numbers
  pub started_each : Starts → ℕ → Value
  started_each no_start k = Undefined
  started_each (next_start s ss) zero = started_as s
  started_each (next_start s ss) (suc k) = started_each ss k

abbrev mutual
  -- The value that a new variable of a type has (ISO 10206, 6.6): the initial state of the type, where that has one,
  -- and else
  -- those of its components; what is given no initial state begins undefined.
  pub start_of : TypeValue → Value
  start_of (Ordinal low high) = Undefined
  start_of Text = Undefined
  start_of (Array low high of) = Components (λ k. start_of of)
  start_of (type.Record ts) = Components (starts_of ts)
  start_of (type.Set low high) = Undefined
  start_of (type.Initial of start) = started_as start

  -- those of components, by their numbers
  pub starts_of : ComponentTypes → ℕ → Value
  starts_of no_component k = Undefined
  starts_of (next_component t ts) zero = start_of t
  starts_of (next_component t ts) (suc k) = starts_of ts k

-- the value of a component; each one of an undefined value is undefined
abbrev pub component_of : Value → ℕ → Value
component_of (Components of) k = of k
component_of Undefined k = Undefined
component_of (Word w) k = Undefined
component_of (Members ms) k = Undefined

-- these values by number, with another one for this number
abbrev pub values_with : (ℕ → Value) → ℕ → Value → ℕ → Value
values_with of zero value zero = value
values_with of zero value (suc i) = of (suc i)
values_with of (suc k) value zero = of zero
values_with of (suc k) value (suc i) = values_with (λ j. of (suc j)) k value i

-- the value with another one for a component
abbrev pub with_component : Value → ℕ → Value → Value
with_component v k value = Components (values_with (component_of v) k value)

-- the value at a path
abbrev pub value_along : Value → List ℕ → Value
value_along v [] = v
value_along v (k ∷ path) = value_along (component_of v k) path

-- the value with another one at a path
abbrev pub value_with : Value → List ℕ → Value → Value
value_with v [] value = value
value_with v (k ∷ path) value = with_component v k (value_with (component_of v k) path value)

abbrev pub word_of : Value → Option ℤ
word_of Undefined = None
word_of (Word w) = Some w
word_of (Components of) = None
word_of (Members ms) = None

abbrev pub set_of : Value → Option (List ℕ)
set_of Undefined = None
set_of (Word w) = None
set_of (Components of) = None
set_of (Members ms) = Some ms
