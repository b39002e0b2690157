-- Type values: types with all bounds as numbers.
use Rattle.std.specs.Prelude.{ℕ, ℤ, zero, suc, ◌+◌, ◌*◌, Bool, true, false, ◌&&◌, ◌||◌, List, Option, Some, None, cond}
use Rattle.std.specs.Prelude.{int_le, ltb, nat_eq}
use Rattle.std.specs.Str.{bytes_eq}
use Rattle.ep_values.specs.Bounds.{count_of}

mutual
  -- An initial state (ISO 10206, 6.6): undefined, of so many words, the ordinal number of a simple value, the members
  -- of a set in
  -- rising order, or those of components.
  pub data Start : Type 0 where
    undefined_start : (size : ℕ) → Start
    simple_start : (number : ℤ) → Start
    set_start : (members : List ℕ) → Start
    parts_start : (parts : Starts) → Start

  -- those of components, in order
  pub data Starts : Type 0 where
    no_start : Starts
    next_start : (first : Start) (rest : Starts) → Starts

mutual
  pub data TypeValue : Type 0 where
    -- an ordinal type with its least and its greatest value (ISO 10206, 6.4.2)
    Ordinal : (low high : ℤ) → TypeValue
    -- the type of text files (ISO 10206, 6.4.3.6)
    Text : TypeValue
    -- an array type with the bounds of its index type, and the type of its components (ISO 10206, 6.4.3.2)
    Array : (low high : ℤ) (of : TypeValue) → TypeValue
    -- a record type with the types of its components in order (ISO 10206, 6.4.3.4)
    Record : (components : ComponentTypes) → TypeValue
    -- a set type with the bounds of its base type (ISO 10206, 6.4.3.5)
    Set : (low high : ℤ) → TypeValue
    -- a type with the initial state that every variable of it begins in (ISO 10206, 6.6)
    Initial : (of : TypeValue) (start : Start) → TypeValue

  -- the types of components, in order
  pub data ComponentTypes : Type 0 where
    no_component : ComponentTypes
    next_component : (first : TypeValue) (rest : ComponentTypes) → ComponentTypes

-- the type of this number among those of components
abbrev pub type_among : ComponentTypes → ℕ → Option TypeValue
type_among no_component k = None
type_among (next_component t ts) zero = Some t
type_among (next_component t ts) (suc k) = type_among ts k

-- the type of a component of this number, where the type has one
abbrev pub component_type : TypeValue → ℕ → Option TypeValue
component_type (Ordinal low high) k = None
component_type Text k = None
component_type (Array low high of) k = cond (ltb k (count_of low high)) (Some of) None
component_type (Record ts) k = type_among ts k
component_type (Set low high) k = None
component_type (Initial of start) k = component_type of k

-- whether a word is a value of a type
abbrev pub is_within : TypeValue → ℤ → Bool
is_within (Ordinal low high) w = int_le low w && int_le w high
is_within Text w = false
is_within (Array low high of) w = false
is_within (Record ts) w = false
is_within (Set low high) w = false
is_within (Initial of start) w = is_within of w

-- the words of a variable of a set type
abbrev pub set_size : ℕ
set_size = 8

abbrev mutual
  -- the words of a variable of a type
  pub size_of : TypeValue → ℕ
  size_of (Ordinal low high) = 1
  size_of Text = 1
  size_of (Array low high of) = count_of low high * size_of of
  size_of (Record ts) = sizes_of ts
  size_of (Set low high) = set_size
  size_of (Initial of start) = size_of of

  -- those of all components
  pub sizes_of : ComponentTypes → ℕ
  sizes_of no_component = 0
  sizes_of (next_component t ts) = size_of t + sizes_of ts

-- ---- types without initial states

abbrev mutual
  -- The bare form of a type: the same type without initial states. Two types whose bare forms are the same are the
  -- same
  -- types, since initial states play no part in that (own).
  pub bare_of : TypeValue → TypeValue
  bare_of (Ordinal low high) = Ordinal low high
  bare_of Text = Text
  bare_of (Array low high of) = Array low high (bare_of of)
  bare_of (Record ts) = Record (bare_each ts)
  bare_of (Set low high) = Set low high
  bare_of (Initial of start) = bare_of of

  -- those of all components
  pub bare_each : ComponentTypes → ComponentTypes
  bare_each no_component = no_component
  bare_each (next_component t ts) = next_component (bare_of t) (bare_each ts)

abbrev mutual
  -- whether an initial state is given to it or to a type that it is made of
  pub is_started : TypeValue → Bool
  is_started (Ordinal low high) = false
  is_started Text = false
  is_started (Array low high of) = is_started of
  is_started (Record ts) = are_started ts
  is_started (Set low high) = false
  is_started (Initial of start) = true

  -- whether one is given to one of the components
  pub are_started : ComponentTypes → Bool
  are_started no_component = false
  are_started (next_component t ts) = is_started t || are_started ts

-- ---- which type values are the same, with their initial states

-- whether two pairs of bounds are the same
abbrev pub same_bounds : ℤ → ℤ → ℤ → ℤ → Bool
same_bounds l h m k = (int_le l m && int_le m l) && (int_le h k && int_le k h)

abbrev mutual
  -- whether two initial states are the same
  pub same_start : Start → Start → Bool
  same_start (undefined_start m) (undefined_start n) = nat_eq m n
  same_start (undefined_start m) (simple_start z) = false
  same_start (undefined_start m) (set_start ns) = false
  same_start (undefined_start m) (parts_start ts) = false
  same_start (simple_start w) (undefined_start n) = false
  same_start (simple_start w) (simple_start z) = int_le w z && int_le z w
  same_start (simple_start w) (set_start ns) = false
  same_start (simple_start w) (parts_start ts) = false
  same_start (set_start ms) (undefined_start n) = false
  same_start (set_start ms) (simple_start z) = false
  same_start (set_start ms) (set_start ns) = bytes_eq ms ns
  same_start (set_start ms) (parts_start ts) = false
  same_start (parts_start ss) (undefined_start n) = false
  same_start (parts_start ss) (simple_start z) = false
  same_start (parts_start ss) (set_start ns) = false
  same_start (parts_start ss) (parts_start ts) = same_starts ss ts

  -- whether those of components are, one for one
  pub same_starts : Starts → Starts → Bool
  same_starts no_start no_start = true
  same_starts no_start (next_start t ts) = false
  same_starts (next_start s ss) no_start = false
  same_starts (next_start s ss) (next_start t ts) = same_start s t && same_starts ss ts

abbrev mutual
  -- whether two type values are the same
  pub same_type : TypeValue → TypeValue → Bool
  same_type (Ordinal l h) (Ordinal m k) = same_bounds l h m k
  same_type (Ordinal l h) Text = false
  same_type (Ordinal l h) (Array m k other) = false
  same_type (Ordinal l h) (Record us) = false
  same_type (Ordinal l h) (Set m k) = false
  same_type (Ordinal l h) (Initial other another) = false
  same_type Text (Ordinal m k) = false
  same_type Text Text = true
  same_type Text (Array m k other) = false
  same_type Text (Record us) = false
  same_type Text (Set m k) = false
  same_type Text (Initial other another) = false
  same_type (Array l h of) (Ordinal m k) = false
  same_type (Array l h of) Text = false
  same_type (Array l h of) (Array m k other) = same_bounds l h m k && same_type of other
  same_type (Array l h of) (Record us) = false
  same_type (Array l h of) (Set m k) = false
  same_type (Array l h of) (Initial other another) = false
  same_type (Record ts) (Ordinal m k) = false
  same_type (Record ts) Text = false
  same_type (Record ts) (Array m k other) = false
  same_type (Record ts) (Record us) = same_types ts us
  same_type (Record ts) (Set m k) = false
  same_type (Record ts) (Initial other another) = false
  same_type (Set l h) (Ordinal m k) = false
  same_type (Set l h) Text = false
  same_type (Set l h) (Array m k other) = false
  same_type (Set l h) (Record us) = false
  same_type (Set l h) (Set m k) = same_bounds l h m k
  same_type (Set l h) (Initial other another) = false
  same_type (Initial of start) (Ordinal m k) = false
  same_type (Initial of start) Text = false
  same_type (Initial of start) (Array m k other) = false
  same_type (Initial of start) (Record us) = false
  same_type (Initial of start) (Set m k) = false
  same_type (Initial of start) (Initial other another) = same_type of other && same_start start another

  -- whether components have the same types, one for one
  pub same_types : ComponentTypes → ComponentTypes → Bool
  same_types no_component no_component = true
  same_types no_component (next_component u us) = false
  same_types (next_component t ts) no_component = false
  same_types (next_component t ts) (next_component u us) = same_type t u && same_types ts us

-- how many components there are
abbrev pub components_of : ComponentTypes → ℕ
components_of no_component = 0
components_of (next_component t ts) = suc (components_of ts)

-- how many types a type value is made of: a component of an array, and the components of a record
abbrev pub parts_of : TypeValue → ℕ
parts_of (Ordinal low high) = 0
parts_of Text = 0
parts_of (Array low high of) = 1
parts_of (Record ts) = components_of ts
parts_of (Set low high) = 0
parts_of (Initial of start) = parts_of of

-- How many words the initial state of a type value takes that it keeps: none where it begins undefined, and else as
-- many as a
-- variable of it.
abbrev pub start_size : TypeValue → ℕ
start_size t = cond (is_started t) (size_of t) 0
