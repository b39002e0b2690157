-- Which type value and which host a denoter has, under the list of types in which it names.
use Rattle.std.specs.Prelude.{◌≡◌, ℕ, ℤ, pos, neg_ℤ, zero, suc, List, [], ◌∷◌, length, slice_get, Option, Some, None}
use Rattle.std.specs.Prelude.{option_map}
use Rattle.ep_typed.specs.Hosts as host
use Rattle.ep_typed.specs.Hosts.{Host}
use Rattle.ep_values.specs.Operations.{maxint, last_char}
use Rattle.ep_typed.specs.Trees.{Bound, Expr, Fixed, Denoter, Required, Named, Subrange, Enumeration, Array, Record}
use Rattle.ep_typed.specs.Trees.{Denoters, no_denoter, next_denoter, Set, Initial}
use Rattle.ep_typed.specs.Viewed.{denoter_of}
use Rattle.ep_typed.specs.declared.denoter.RequiredType.{RequiredType}
use Rattle.ep_typed.specs.declared.denoter.RequiredType.TheVariants as simple
use Rattle.ep_typed.specs.declared.unit.UnitType.{UnitType}
use Rattle.ep_values.specs.TypeValues as type
use Rattle.ep_values.specs.TypeValues.{TypeValue, ComponentTypes, Ordinal, Text, no_component, next_component, bare_of}

-- the type value of a required type (ISO 10206, 6.4.2.2)
abbrev pub required_type : RequiredType → TypeValue
required_type simple.Integer = Ordinal (neg_ℤ (pos maxint)) (pos maxint)
required_type simple.Char = Ordinal (pos 0) (pos last_char)
required_type simple.Boolean = Ordinal (pos 0) (pos 1)

-- the denoter of a type in the list
abbrev pub definition_of : UnitType → Denoter
definition_of t = denoter_of t.entry.denoter

-- The denoter has the type value, which has no initial states: a required type its own, a name that of what it is
-- defined as, a
-- subrange its bounds, an enumeration of one name or more the ordinal numbers of its constants, an array that of its
-- index type
-- and its components, a record those of its components, a set the bounds of its base type, and a type with an initial
-- state that
-- type. What a variable begins with is found when its type is elaborated.
mutual
  pub data IsInstance (types : List UnitType) : Denoter → TypeValue → Type 0 where
    required : (r : RequiredType) → IsInstance types (Required r) (required_type r)
    named : (index : ℕ) (t : UnitType) {v : TypeValue} → slice_get types index ≡ Some t
        → IsInstance types (definition_of t) v → IsInstance types (Named index []) v
    subrange : (host : Denoter) (low high : ℤ)
        → IsInstance types (Subrange host (Fixed low) (Fixed high)) (Ordinal low high)
    enumeration : (first : List ℕ) (others : List (List ℕ))
        → IsInstance types (Enumeration (first ∷ others)) (Ordinal (pos 0) (pos (length others)))
    array : (index component : Denoter) (i : TypeValue) (low high : ℤ) (of : TypeValue) → IsInstance types index i
        → bare_of i ≡ Ordinal low high
        → IsInstance types component of → IsInstance types (Array index component) (type.Array low high of)
    components : (ds : Denoters) (ts : ComponentTypes) → AreInstances types ds ts
        → IsInstance types (Record ds) (type.Record ts)
    set : (base : Denoter) (b : TypeValue) (low high : ℤ) → IsInstance types base b → bare_of b ≡ Ordinal low high
        → IsInstance types (Set base) (type.Set low high)
    initial : (of : Denoter) (value : Expr) (t : TypeValue) → IsInstance types of t
        → IsInstance types (Initial of value) t

  -- one for one
  pub data AreInstances (types : List UnitType) : Denoters → ComponentTypes → Type 0 where
    none : AreInstances types no_denoter no_component
    one_more : (d : Denoter) (ds : Denoters) (t : TypeValue) (ts : ComponentTypes) → IsInstance types d t
        → AreInstances types ds ts
        → AreInstances types (next_denoter d ds) (next_component t ts)

-- the type value of a subrange whose bounds are constants
abbrev pub subrange_type : Bound → Bound → Option TypeValue
subrange_type (Fixed low) (Fixed high) = Some (Ordinal low high)

-- the type value and the host of an enumeration, which has a name
abbrev pub enumeration_type : List (List ℕ) → Option TypeValue
enumeration_type [] = None
enumeration_type (first ∷ others) = Some (Ordinal (pos 0) (pos (length others)))

abbrev pub enumeration_host : List (List ℕ) → Option Host
enumeration_host [] = None
enumeration_host (first ∷ others) = Some (host.Enumeration (length others))

-- the type value of an array, whose index type is ordinal; an initial state that the index type is elaborated with
-- does not matter
abbrev pub array_over : Option TypeValue → Option TypeValue → Option TypeValue
array_over (Some (Ordinal low high)) (Some of) = Some (type.Array low high of)
array_over _ _ = None

abbrev pub array_type : Option TypeValue → Option TypeValue → Option TypeValue
array_type index of = array_over (option_map bare_of index) of

-- the type value of a set, whose base type is ordinal, alike
abbrev pub set_over : Option TypeValue → Option TypeValue
set_over (Some (Ordinal low high)) = Some (type.Set low high)
set_over _ = None

abbrev pub set_type : Option TypeValue → Option TypeValue
set_type base = set_over (option_map bare_of base)

-- the type value of a record
abbrev pub record_type : Option ComponentTypes → Option TypeValue
record_type None = None
record_type (Some ts) = Some (type.Record ts)

-- types of one component more
abbrev pub next_type : Option TypeValue → Option ComponentTypes → Option ComponentTypes
next_type (Some t) (Some ts) = Some (next_component t ts)
next_type _ _ = None

-- what is found of the definition of a name, where the list has it
abbrev pub found_of : {A : Type 0} → (Denoter → Option A) → Option UnitType → Option A
found_of find None = None
found_of find (Some t) = find (definition_of t)

-- the index type and the type of the components of an array
pub record ArrayParts : Type 0 where
  pub index : Denoter
  pub component : Denoter

-- the denoter of this number
abbrev pub denoter_at : Denoters → ℕ → Option Denoter
denoter_at no_denoter k = None
denoter_at (next_denoter d ds) zero = Some d
denoter_at (next_denoter d ds) (suc k) = denoter_at ds k

-- how many there are
abbrev pub denoters_count : Denoters → ℕ
denoters_count no_denoter = 0
denoters_count (next_denoter d ds) = suc (denoters_count ds)

module _ (types : List UnitType) where
  -- the parts of a denoter of an array, by those of the definition where it is a name
  abbrev pub array_step : (Denoter → Option ArrayParts) → Denoter → Option ArrayParts
  array_step find (Array index component) = Some (record { index = index; component = component })
  array_step find (Initial of value) = array_step find of
  array_step find (Named index []) = found_of find (slice_get types index)
  array_step find _ = None

  abbrev pub array_within : ℕ → Denoter → Option ArrayParts
  array_within zero d = None
  array_within (suc n) d = array_step (array_within n) d

  -- the parts of an array, by its denoter
  abbrev pub array_of : Denoter → Option ArrayParts
  array_of = array_within (suc (length types))

  -- the components of a denoter of a record, alike
  abbrev pub record_step : (Denoter → Option Denoters) → Denoter → Option Denoters
  record_step find (Record ds) = Some ds
  record_step find (Initial of value) = record_step find of
  record_step find (Named index []) = found_of find (slice_get types index)
  record_step find _ = None

  abbrev pub record_within : ℕ → Denoter → Option Denoters
  record_within zero d = None
  record_within (suc n) d = record_step (record_within n) d

  -- the components of a record, by its denoter
  abbrev pub record_of : Denoter → Option Denoters
  record_of = record_within (suc (length types))

  -- the base type of a denoter of a set, alike
  abbrev pub base_step : (Denoter → Option Denoter) → Denoter → Option Denoter
  base_step find (Set base) = Some base
  base_step find (Initial of value) = base_step find of
  base_step find (Named index []) = found_of find (slice_get types index)
  base_step find _ = None

  abbrev pub base_within : ℕ → Denoter → Option Denoter
  base_within zero d = None
  base_within (suc n) d = base_step (base_within n) d

  -- the base type of a set, by its denoter
  abbrev pub base_of : Denoter → Option Denoter
  base_of = base_within (suc (length types))

  abbrev mutual
    -- the type value of a denoter, by that of the definition where it is a name
    pub type_step : (Denoter → Option TypeValue) → Denoter → Option TypeValue
    type_step find (Required r) = Some (required_type r)
    type_step find (Named index []) = found_of find (slice_get types index)
    type_step find (Named index (b ∷ bs)) = None
    type_step find (Subrange host low high) = subrange_type low high
    type_step find (Enumeration names) = enumeration_type names
    type_step find (Array index component) = array_type (type_step find index) (type_step find component)
    type_step find (Record ds) = record_type (types_step find ds)
    type_step find (Set base) = set_type (type_step find base)
    type_step find (Initial of value) = type_step find of

    -- those of all of them
    pub types_step : (Denoter → Option TypeValue) → Denoters → Option ComponentTypes
    types_step find no_denoter = Some no_component
    types_step find (next_denoter d ds) = next_type (type_step find d) (types_step find ds)

  -- the host of a denoter, likewise; what is not ordinal has none
  abbrev pub host_step : (Denoter → Option Host) → Denoter → Option Host
  host_step find (Required simple.Integer) = Some host.Integer
  host_step find (Required simple.Char) = Some host.Char
  host_step find (Required simple.Boolean) = Some host.Boolean
  host_step find (Named index []) = found_of find (slice_get types index)
  host_step find (Named index (b ∷ bs)) = None
  host_step find (Subrange of low high) = host_step find of
  host_step find (Enumeration names) = enumeration_host names
  host_step find (Array index component) = None
  host_step find (Record ds) = None
  host_step find (Set base) = None
  host_step find (Initial of value) = host_step find of

  -- at most so many names are followed, each but the first one in the definition of the one before it
  abbrev pub type_within : ℕ → Denoter → Option TypeValue
  type_within zero d = None
  type_within (suc n) d = type_step (type_within n) d

  abbrev pub host_within : ℕ → Denoter → Option Host
  host_within zero d = None
  host_within (suc n) d = host_step (host_within n) d

  -- the type value of a denoter, without initial states, where it has one; names that lead back to themselves have
  -- none
  abbrev pub type_of : Denoter → Option TypeValue
  type_of = type_within (suc (length types))

  -- the host of a denoter, where it has one
  abbrev pub host_of : Denoter → Option Host
  host_of = host_within (suc (length types))

  -- the bare form of a denoter's type value, where it has one: the type that its variables are of, whatever they begin
  -- with
  abbrev pub bare_type_of : Denoter → Option TypeValue
  bare_type_of d = option_map bare_of (type_of d)
