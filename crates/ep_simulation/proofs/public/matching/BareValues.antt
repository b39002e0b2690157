-- Words that hold a value of a type hold it as one of its bare form, and the other way.
use Rattle.std.proofs.Common.{◌≡◌, ℕ, suc, ◌+◌, ◌*◌, List, Option, None, Some, option_map, refl, sym, ap, ◌∙◌, subst}
use Rattle.std.proofs.lemmas.Option.{same_Some}
use Rattle.ep_simulation.specs.Matching.{HasAt, HaveAt, Injection, TypePart, Words, all_of, part_along}
use Rattle.ep_simulation.proofs.matching.Words.{AreSameBut, has_with}
use Rattle.ep_meaning.proofs.public.Bares.{bare_among_values, bare_base, bare_given, bare_size, bare_twice, bare_type}
use Rattle.ep_meaning.specs.Results.{given_by, result_of, suits}
use Rattle.ep_values.specs.Printing.{Bytes, Members, Number, Result, Structure}
use Rattle.ep_meaning.specs.Steps.{Component, State, type_at, value_at}
use Rattle.ep_values.specs.Values.{Value, component_of, value_with}
use Rattle.ep_values.specs.TypeValues as type
use Rattle.ep_values.specs.TypeValues.{ComponentTypes, TypeValue, bare_each, bare_of, size_of}
use Rattle.ep_meaning.specs.Valid.{IsStructured}

mutual
  pub has_bare : (injection : Injection) (t : TypeValue) (value : Value) (words : Words) (offset : ℕ)
      → HasAt injection t value words offset → HasAt injection (bare_of t) value words offset
  has_bare injection (type.Ordinal low high) value words offset h = h
  has_bare injection type.Text value words offset h = h
  has_bare injection (type.Array low high of) value words offset h =
      λ k less. subst (λ size. HasAt injection (bare_of of) (component_of value k) words (offset + k * size)) (sym (bare_size of)) (has_bare injection of (component_of value k) words (offset + k * size_of of) (h k less))
  has_bare injection (type.Record ts) value words offset h = have_bare injection ts (component_of value) words offset h
  has_bare injection (type.Set low high) value words offset h = h
  has_bare injection (type.Initial of start) value words offset h = has_bare injection of value words offset h

  have_bare : (injection : Injection) (ts : ComponentTypes) (values : ℕ → Value) (words : Words) (offset : ℕ)
      → HaveAt injection ts values words offset → HaveAt injection (bare_each ts) values words offset
  have_bare injection type.no_component values words offset h = tt
  have_bare injection (type.next_component t ts) values words offset h = (
    has_bare injection t (values 0) words offset h.0,
    subst (λ size. HaveAt injection (bare_each ts) (λ k. values (suc k)) words (offset + size)) (sym (bare_size t)) (have_bare injection ts (λ k. values (suc k)) words (offset + size_of t) h.1),
  )

mutual
  pub has_full : (injection : Injection) (t : TypeValue) (value : Value) (words : Words) (offset : ℕ)
      → HasAt injection (bare_of t) value words offset → HasAt injection t value words offset
  has_full injection (type.Ordinal low high) value words offset h = h
  has_full injection type.Text value words offset h = h
  has_full injection (type.Array low high of) value words offset h =
      λ k less. has_full injection of (component_of value k) words (offset + k * size_of of) (subst (λ size. HasAt injection (bare_of of) (component_of value k) words (offset + k * size)) (bare_size of) (h k less))
  has_full injection (type.Record ts) value words offset h = have_full injection ts (component_of value) words offset h
  has_full injection (type.Set low high) value words offset h = h
  has_full injection (type.Initial of start) value words offset h = has_full injection of value words offset h

  have_full : (injection : Injection) (ts : ComponentTypes) (values : ℕ → Value) (words : Words) (offset : ℕ)
      → HaveAt injection (bare_each ts) values words offset → HaveAt injection ts values words offset
  have_full injection type.no_component values words offset h = tt
  have_full injection (type.next_component t ts) values words offset h = (
    has_full injection t (values 0) words offset h.0,
    have_full injection ts (λ k. values (suc k)) words (offset + size_of t) (subst (λ size. HaveAt injection (bare_each ts) (λ k. values (suc k)) words (offset + size)) (bare_size t) h.1),
  )

-- where words are put that hold another value of a part, which is found in the bare form, all of them hold the value with that one
pub has_with-bare : (injection : Injection) (t : TypeValue) (path : List ℕ) (value other : Value) (words later : Words) (p : TypePart)
    → part_along (Some (all_of (bare_of t))) path ≡ Some p → AreSameBut words later p → HasAt injection t value words 0
    → HasAt injection p.type_value other later p.offset
    → HasAt injection t (value_with value path other) later 0
has_with-bare injection t path value other words later p leads same h new =
    has_full injection t (value_with value path other) later 0 (has_with injection (bare_of t) path value other words later p leads same (has_bare injection t value words 0 h) new)

-- ---- what a variable gives, by the bare form of its type

pub result_by : (t : TypeValue) (v : Component) (s : State) → option_map bare_of (type_at v s) ≡ Some t → result_of v s ≡ given_by (Some t) (value_at v s)
result_by t v s is = sym (bare_given (type_at v s) (value_at v s)) ∙ ap (λ o. given_by o (value_at v s)) is

-- which has no initial states
pub own_bare : (t : TypeValue) (o : Option TypeValue) → option_map bare_of o ≡ Some t → bare_of t ≡ t
own_bare t o is = go o is
  where
    go : (p : Option TypeValue) → option_map bare_of p ≡ Some t → bare_of t ≡ t
    go None e = cc
    go (Some u) e = let same : bare_of u ≡ t = same_Some (bare_of u) t e in ap bare_of (sym same) ∙ (bare_twice u ∙ same)

-- what an array or a record gives is of its bare form
pub structure_given : (t : TypeValue) (value : Value) → IsStructured t → given_by (Some t) value ≡ Some (Structure (bare_of t) value)
structure_given (type.Ordinal low high) value structured = absurd structured
structure_given type.Text value structured = absurd structured
structure_given (type.Array low high of) value structured = refl
structure_given (type.Record ts) value structured = refl
structure_given (type.Set low high) value structured = absurd structured
structure_given (type.Initial of start) value structured = absurd structured

-- ---- what a variable may have, by the bare form of its type

pub suits_bare : (o : Option TypeValue) (r : Result) → suits (option_map bare_of o) r ≡ suits o r
suits_bare o (Number z) = bare_among_values o z
suits_bare o (Bytes bytes) = refl
suits_bare o (Structure u v) = bare_type o u
suits_bare o (Members ms) = bare_base o ms
