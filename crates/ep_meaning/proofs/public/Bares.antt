-- Types without initial states: what a variable of a type has and gives is what one of its bare form does.
use Rattle.std.proofs.Common.{◌≡◌, ℕ, ℤ, zero, suc, ◌+◌, ◌*◌, true, false, Bool, cond, List, [], ◌∷◌, Option, Some, None, option_map, refl, ap, ◌∙◌}
use Rattle.std.specs.Prelude.{ltb, ◌||◌}
use Rattle.ep_values.specs.Bounds.{count_of}
use Rattle.ep_values.specs.Printing.{Structure}
use Rattle.ep_meaning.specs.Results.{given_as, given_by, has_base, has_base_for, is_type, unresulting, unresulting_of}
use Rattle.ep_values.specs.Values.{Value}
use Rattle.ep_meaning.specs.Steps.{component_number, is_among, number_at, type_along}
use Rattle.ep_values.specs.TypeValues.{is_within}
use Rattle.ep_values.specs.TypeValues as type
use Rattle.ep_values.specs.TypeValues.{ComponentTypes, TypeValue, are_started, bare_each, bare_of, component_type, is_started, same_type, size_of, sizes_of, type_among}
use Rattle.ep_meaning.specs.Valid.{AreTypeValues, IsTypeValue}

mutual
  -- a bare form is its own
  pub bare_twice : (t : TypeValue) → bare_of (bare_of t) ≡ bare_of t
  bare_twice (type.Ordinal low high) = refl
  bare_twice type.Text = refl
  bare_twice (type.Array low high of) = ap (type.Array low high) (bare_twice of)
  bare_twice (type.Record ts) = ap type.Record (bare_each-twice ts)
  bare_twice (type.Set low high) = refl
  bare_twice (type.Initial of start) = bare_twice of

  pub bare_each-twice : (ts : ComponentTypes) → bare_each (bare_each ts) ≡ bare_each ts
  bare_each-twice type.no_component = refl
  bare_each-twice (type.next_component t ts) =
      let first = bare_twice t in
      let rest = bare_each-twice ts in
      λ i. type.next_component (first i) (rest i)

pub neither : (a b : Bool) → a || b ≡ false → (a ≡ false) × (b ≡ false)
neither true b h = cc
neither false b h = (refl, h)

mutual
  -- what has no initial states is its own bare form
  pub bare_is : (t : TypeValue) → is_started t ≡ false → bare_of t ≡ t
  bare_is (type.Ordinal low high) h = refl
  bare_is type.Text h = refl
  bare_is (type.Array low high of) h = ap (type.Array low high) (bare_is of h)
  bare_is (type.Record ts) h = ap type.Record (bare_each-is ts h)
  bare_is (type.Set low high) h = refl
  bare_is (type.Initial of start) h = cc

  pub bare_each-is : (ts : ComponentTypes) → are_started ts ≡ false → bare_each ts ≡ ts
  bare_each-is type.no_component h = refl
  bare_each-is (type.next_component t ts) h =
      let p = neither (is_started t) (are_started ts) h in
      let first = bare_is t p.0 in
      let rest = bare_each-is ts p.1 in
      λ i. type.next_component (first i) (rest i)

mutual
  -- and a bare form has none
  pub bare_unstarted : (t : TypeValue) → is_started (bare_of t) ≡ false
  bare_unstarted (type.Ordinal low high) = refl
  bare_unstarted type.Text = refl
  bare_unstarted (type.Array low high of) = bare_unstarted of
  bare_unstarted (type.Record ts) = bare_each-unstarted ts
  bare_unstarted (type.Set low high) = refl
  bare_unstarted (type.Initial of start) = bare_unstarted of

  pub bare_each-unstarted : (ts : ComponentTypes) → are_started (bare_each ts) ≡ false
  bare_each-unstarted type.no_component = refl
  bare_each-unstarted (type.next_component t ts) = ap (λ b. b || are_started (bare_each ts)) (bare_unstarted t) ∙ bare_each-unstarted ts

mutual
  -- it has the same size
  pub bare_size : (t : TypeValue) → size_of (bare_of t) ≡ size_of t
  bare_size (type.Ordinal low high) = refl
  bare_size type.Text = refl
  bare_size (type.Array low high of) = ap (λ n. count_of low high * n) (bare_size of)
  bare_size (type.Record ts) = bare_sizes ts
  bare_size (type.Set low high) = refl
  bare_size (type.Initial of start) = bare_size of

  pub bare_sizes : (ts : ComponentTypes) → sizes_of (bare_each ts) ≡ sizes_of ts
  bare_sizes type.no_component = refl
  bare_sizes (type.next_component t ts) =
      let first = bare_size t in
      let rest = bare_sizes ts in
      λ i. first i + rest i

mutual
  -- it is not empty either
  pub bare_value : (t : TypeValue) → IsTypeValue t → IsTypeValue (bare_of t)
  bare_value (type.Ordinal low high) h = h
  bare_value type.Text h = h
  bare_value (type.Array low high of) h = (h.0, bare_value of h.1)
  bare_value (type.Record ts) h = bare_values ts h
  bare_value (type.Set low high) h = h
  bare_value (type.Initial of start) h = bare_value of h

  pub bare_values : (ts : ComponentTypes) → AreTypeValues ts → AreTypeValues (bare_each ts)
  bare_values type.no_component h = tt
  bare_values (type.next_component t ts) h = (bare_value t h.0, bare_values ts h.1)

mutual
  -- and a type is not empty whose bare form is none
  pub value_bare : (t : TypeValue) → IsTypeValue (bare_of t) → IsTypeValue t
  value_bare (type.Ordinal low high) h = h
  value_bare type.Text h = h
  value_bare (type.Array low high of) h = (h.0, value_bare of h.1)
  value_bare (type.Record ts) h = values_bare ts h
  value_bare (type.Set low high) h = h
  value_bare (type.Initial of start) h = value_bare of h

  pub values_bare : (ts : ComponentTypes) → AreTypeValues (bare_each ts) → AreTypeValues ts
  values_bare type.no_component h = tt
  values_bare (type.next_component t ts) h = (value_bare t h.0, values_bare ts h.1)

-- its components are the bare forms of the components
pub bare_among : (ts : ComponentTypes) (k : ℕ) → type_among (bare_each ts) k ≡ option_map bare_of (type_among ts k)
bare_among type.no_component k = refl
bare_among (type.next_component t ts) zero = refl
bare_among (type.next_component t ts) (suc k) = bare_among ts k

pub bare_component : (t : TypeValue) (k : ℕ) → component_type (bare_of t) k ≡ option_map bare_of (component_type t k)
bare_component (type.Ordinal low high) k = refl
bare_component type.Text k = refl
bare_component (type.Array low high of) k = go (ltb k (count_of low high))
  where
    go : (b : Bool) → ◌≡◌ {A = Option TypeValue} (cond b (Some (bare_of of)) None) (option_map bare_of (cond b (Some of) None))
    go true = refl
    go false = refl
bare_component (type.Record ts) k = bare_among ts k
bare_component (type.Set low high) k = refl
bare_component (type.Initial of start) k = bare_component of k

-- so it is along a path
pub bare_along : (o : Option TypeValue) (path : List ℕ) → type_along (option_map bare_of o) path ≡ option_map bare_of (type_along o path)
bare_along o [] = refl
bare_along None (k ∷ path) = refl
bare_along (Some t) (k ∷ path) = ap (λ o. type_along o path) (bare_component t k) ∙ bare_along (component_type t k) path

-- ---- what a variable may have and gives

bare_within : (t : TypeValue) (w : ℤ) → is_within (bare_of t) w ≡ is_within t w
bare_within (type.Ordinal low high) w = refl
bare_within type.Text w = refl
bare_within (type.Array low high of) w = refl
bare_within (type.Record ts) w = refl
bare_within (type.Set low high) w = refl
bare_within (type.Initial of start) w = bare_within of w

pub bare_among_values : (o : Option TypeValue) (w : ℤ) → is_among (option_map bare_of o) w ≡ is_among o w
bare_among_values None w = refl
bare_among_values (Some t) w = bare_within t w

bare_given_as : (t : TypeValue) (v : Value) → given_as (bare_of t) v ≡ given_as t v
bare_given_as (type.Ordinal low high) v = refl
bare_given_as type.Text v = refl
bare_given_as (type.Array low high of) v = ap (λ c. Some (Structure (type.Array low high c) v)) (bare_twice of)
bare_given_as (type.Record ts) v = ap (λ cs. Some (Structure (type.Record cs) v)) (bare_each-twice ts)
bare_given_as (type.Set low high) v = refl
bare_given_as (type.Initial of start) v = bare_given_as of v

pub bare_given : (o : Option TypeValue) (v : Value) → given_by (option_map bare_of o) v ≡ given_by o v
bare_given None v = refl
bare_given (Some t) v = bare_given_as t v

bare_number_at : (t : TypeValue) (z : ℤ) → number_at (bare_of t) z ≡ number_at t z
bare_number_at (type.Ordinal low high) z = refl
bare_number_at type.Text z = refl
bare_number_at (type.Array low high of) z = refl
bare_number_at (type.Record ts) z = refl
bare_number_at (type.Set low high) z = refl
bare_number_at (type.Initial of start) z = bare_number_at of z

pub bare_number : (o : Option TypeValue) (z : ℤ) → component_number (option_map bare_of o) z ≡ component_number o z
bare_number None z = refl
bare_number (Some t) z = bare_number_at t z

bare_has_base : (t : TypeValue) (ms : List ℕ) → has_base (bare_of t) ms ≡ has_base t ms
bare_has_base (type.Ordinal low high) ms = refl
bare_has_base type.Text ms = refl
bare_has_base (type.Array low high of) ms = refl
bare_has_base (type.Record ts) ms = refl
bare_has_base (type.Set low high) ms = refl
bare_has_base (type.Initial of start) ms = bare_has_base of ms

pub bare_base : (o : Option TypeValue) (ms : List ℕ) → has_base_for (option_map bare_of o) ms ≡ has_base_for o ms
bare_base None ms = refl
bare_base (Some t) ms = bare_has_base t ms

pub bare_type : (o : Option TypeValue) (u : TypeValue) → is_type (option_map bare_of o) u ≡ is_type o u
bare_type None u = refl
bare_type (Some t) u = ap (λ x. same_type x u) (bare_twice t)

bare_unresulting_of : (t : TypeValue) → unresulting_of (bare_of t) ≡ unresulting_of t
bare_unresulting_of (type.Ordinal low high) = refl
bare_unresulting_of type.Text = refl
bare_unresulting_of (type.Array low high of) = refl
bare_unresulting_of (type.Record ts) = refl
bare_unresulting_of (type.Set low high) = refl
bare_unresulting_of (type.Initial of start) = bare_unresulting_of of

pub bare_unresulting : (o : Option TypeValue) → unresulting (option_map bare_of o) ≡ unresulting o
bare_unresulting None = refl
bare_unresulting (Some t) = bare_unresulting_of t
