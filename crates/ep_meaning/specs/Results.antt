-- Results of expressions as values of variables.
use Rattle.std.specs.Prelude.{ℕ, ℤ, zero, suc, Bool, false, List, length, Option, Some, None, option_map}
use Rattle.ep_values.specs.Bounds.{count_of}
use Rattle.ep_values.specs.Printing.{Result, Number, Bytes, Structure, Members}
use Rattle.ep_values.specs.Sets.{are_between}
use Rattle.ep_meaning.specs.Steps.{Component, State, component_number, is_among, type_at, value_at}
use Rattle.ep_values.specs.Values.{Value, Word, Undefined, component_of, word_of, set_of}
use Rattle.ep_meaning.specs.Steps as value
use Rattle.ep_values.specs.TypeValues.{ComponentTypes, Start, Starts, TypeValue, bare_of, bare_each, component_type}
use Rattle.ep_values.specs.TypeValues.{no_component, next_component, no_start, next_start, parts_start, same_type}
use Rattle.ep_values.specs.TypeValues.{set_size, set_start, simple_start, size_of, undefined_start}
use Rattle.ep_values.specs.TypeValues as type
use Rattle.ep_values.specs.declared.run_error.TheConstants as run_error

-- the steps that a result spends besides the one of its node: a text has its length, an array or a record its words,
-- and a
-- number or a set none
abbrev pub weight_of : Result → ℕ
weight_of (Number z) = 0
weight_of (Bytes bytes) = length bytes
weight_of (Structure t v) = size_of t
weight_of (Members ms) = 0

-- What a variable of a type gives that has this value, where it is defined: an array or a record gives all that its
-- components have, each defined or not, a set its members, and any other one a number (ISO 10206, 6.8.1). The type of
-- what is
-- given has no initial states, which say only how variables begin.
abbrev pub given_as : TypeValue → Value → Option Result
given_as (type.Ordinal low high) v = option_map Number (word_of v)
given_as type.Text v = option_map Number (word_of v)
given_as (type.Array low high of) v = Some (Structure (type.Array low high (bare_of of)) v)
given_as (type.Record ts) v = Some (Structure (type.Record (bare_each ts)) v)
given_as (type.Set low high) v = option_map Members (set_of v)
given_as (type.Initial of start) v = given_as of v

-- what has no type gives a number
abbrev pub given_by : Option TypeValue → Value → Option Result
given_by None v = option_map Number (word_of v)
given_by (Some t) v = given_as t v

abbrev pub result_of : Component → State → Option Result
result_of c s = given_by (type_at c s) (value_at c s)

-- what the component with this number of an array or a record gives that is a result itself
abbrev pub part_of : Result → ℕ → Option Result
part_of (Number z) k = None
part_of (Bytes bytes) k = None
part_of (Structure t v) k = given_by (component_type t k) (component_of v k)
part_of (Members ms) k = None

-- the number of the component with this index, where the result is an array and the index is within its bounds
abbrev pub part_at : Result → ℤ → Option ℕ
part_at (Number n) z = None
part_at (Bytes bytes) z = None
part_at (Structure t v) z = component_number (Some t) z
part_at (Members ms) z = None

-- Whether a type is this one, which has no initial states: those of the type play no part in it (own). What has no
-- type is of none.
abbrev pub is_type : Option TypeValue → TypeValue → Bool
is_type None u = false
is_type (Some t) u = same_type (bare_of t) u

-- whether all members are of the base type, where the type is that of a set (ISO 10206, 6.4.6)
abbrev pub has_base : TypeValue → List ℕ → Bool
has_base (type.Ordinal low high) ms = false
has_base type.Text ms = false
has_base (type.Array low high of) ms = false
has_base (type.Record ts) ms = false
has_base (type.Set low high) ms = are_between low high ms
has_base (type.Initial of start) ms = has_base of ms

abbrev pub has_base_for : Option TypeValue → List ℕ → Bool
has_base_for None ms = false
has_base_for (Some t) ms = has_base t ms

-- whether a variable of a type may have the result as its value; a text is of none so far
abbrev pub suits : Option TypeValue → Result → Bool
suits t (Number z) = is_among t z
suits t (Bytes bytes) = false
suits t (Structure u v) = is_type t u
suits t (Members ms) = has_base_for t ms

-- the error where it may not
abbrev pub misfit : Result → ℕ
misfit (Number z) = run_error.OUTSIDE_TYPE
misfit (Bytes bytes) = run_error.TUPLES_DIFFER
misfit (Structure u v) = run_error.TUPLES_DIFFER
misfit (Members ms) = run_error.SET_MEMBER

-- the error where a function ends and its result, a variable of this type, gives none
abbrev pub unresulting_of : TypeValue → ℕ
unresulting_of (type.Ordinal low high) = run_error.RESULT_UNDEFINED
unresulting_of type.Text = run_error.RESULT_UNDEFINED
unresulting_of (type.Array low high of) = run_error.RESULT_UNDEFINED
unresulting_of (type.Record ts) = run_error.RESULT_UNDEFINED
unresulting_of (type.Set low high) = run_error.UNDEFINED_VALUE
unresulting_of (type.Initial of start) = unresulting_of of

abbrev pub unresulting : Option TypeValue → ℕ
unresulting None = run_error.RESULT_UNDEFINED
unresulting (Some t) = unresulting_of t

-- the value that it then has
abbrev pub value_of : Result → Value
value_of (Number z) = Word z
value_of (Bytes bytes) = Undefined
value_of (Structure u v) = v
value_of (Members ms) = value.Members ms

-- ---- results as initial states (ISO 10206, 6.6)

-- the one that a word is, and the one that a set is, where they are defined
abbrev pub word_start : Option ℤ → Start
word_start None = undefined_start 1
word_start (Some w) = simple_start w

abbrev pub members_start : Option (List ℕ) → Start
members_start None = undefined_start set_size
members_start (Some ms) = set_start ms

-- those of so many components, by their numbers
abbrev pub all_starts : ℕ → (ℕ → Start) → Starts
all_starts zero of = no_start
all_starts (suc n) of = next_start (of 0) (all_starts n (λ k. of (suc k)))

abbrev mutual
  -- the one that a value of a type is
  pub start_in : TypeValue → Value → Start
  start_in (type.Ordinal low high) v = word_start (word_of v)
  start_in type.Text v = undefined_start 1
  start_in (type.Array low high of) v =
      parts_start (all_starts (count_of low high) (λ k. start_in of (component_of v k)))
  start_in (type.Record ts) v = parts_start (starts_in ts (component_of v))
  start_in (type.Set low high) v = members_start (set_of v)
  start_in (type.Initial of start) v = start_in of v

  -- those of components of these types
  pub starts_in : ComponentTypes → (ℕ → Value) → Starts
  starts_in no_component of = no_start
  starts_in (next_component t ts) of = next_start (start_in t (of 0)) (starts_in ts (λ k. of (suc k)))

-- the one that a result is; a text is none so far
abbrev pub start_from : Result → Option Start
start_from (Number z) = Some (simple_start z)
start_from (Bytes bytes) = None
start_from (Structure t v) = Some (start_in t v)
start_from (Members ms) = Some (set_start ms)
