-- What is found for a denoter is its type value, and a denoter has at most one.
use Rattle.std.proofs.Common.{◌≡◌, ℕ, ℤ, pos, zero, suc, List, [], ◌∷◌, length, Option, Some, None, slice_get, refl, sym, ap, ◌∙◌, subst}
use Rattle.std.proofs.lemmas.Option.{same_Some}
use Rattle.ep_typed.specs.Denoters.{AreInstances, IsInstance, required, named, subrange, enumeration, array, components, set, initial, none, one_more, required_type, definition_of, array_over, array_type, set_over, set_type, record_type, next_type, found_of, type_step, types_step, type_within}
use Rattle.ep_typed.specs.Laws.{TypesAreInstances, InstancesAreOne}
use Rattle.ep_typed.specs.Trees.{Fixed, Denoter, Denoters, Required, Named, Subrange, Enumeration, Array, Record, Set, Initial, no_denoter, next_denoter}
use Rattle.ep_typed.specs.declared.unit.UnitType.{UnitType}
use Rattle.ep_values.specs.TypeValues as type
use Rattle.ep_values.specs.TypeValues.{ComponentTypes, TypeValue, Ordinal, bare_of}

-- the type value of an array comes from that of its index type, which is ordinal, and that of its components
over_index : (b : TypeValue) (p : Option TypeValue) (v : TypeValue) → array_over (Some b) p ≡ Some v
    → (low high : ℤ) × (of : TypeValue) × (b ≡ Ordinal low high) × (p ≡ Some of) × (v ≡ type.Array low high of)
over_index (Ordinal low high) None v e = cc
over_index (Ordinal low high) (Some of) v e = (low, high, of, refl, refl, same_Some v (type.Array low high of) (sym e))
over_index type.Text p v e = cc
over_index (type.Array l h t) p v e = cc
over_index (type.Record ts) p v e = cc
over_index (type.Set l h) p v e = cc
over_index (type.Initial t s) p v e = cc

pub of_array : (o p : Option TypeValue) (v : TypeValue) → array_type o p ≡ Some v
    → (i : TypeValue) × (low high : ℤ) × (of : TypeValue) × (o ≡ Some i) × (bare_of i ≡ Ordinal low high) × (p ≡ Some of) × (v ≡ type.Array low high of)
of_array None p v e = cc
of_array (Some i) p v e = let x = over_index (bare_of i) p v e in (i, x.0, x.1, x.2, refl, x.3, x.4, x.5)

-- and that of a set from that of its base type, alike
over_base : (b v : TypeValue) → set_over (Some b) ≡ Some v → (low high : ℤ) × (b ≡ Ordinal low high) × (v ≡ type.Set low high)
over_base (Ordinal low high) v e = (low, high, refl, same_Some v (type.Set low high) (sym e))
over_base type.Text v e = cc
over_base (type.Array l h t) v e = cc
over_base (type.Record ts) v e = cc
over_base (type.Set l h) v e = cc
over_base (type.Initial t s) v e = cc

pub of_set : (o : Option TypeValue) (v : TypeValue) → set_type o ≡ Some v
    → (b : TypeValue) × (low high : ℤ) × (o ≡ Some b) × (bare_of b ≡ Ordinal low high) × (v ≡ type.Set low high)
of_set None v e = cc
of_set (Some b) v e = let x = over_base (bare_of b) v e in (b, x.0, x.1, refl, x.2, x.3)

-- that of a record comes from those of its components
pub of_record : (o : Option ComponentTypes) (v : TypeValue) → record_type o ≡ Some v → (ts : ComponentTypes) × (o ≡ Some ts) × (v ≡ type.Record ts)
of_record None v e = cc
of_record (Some ts) v e = (ts, refl, same_Some v (type.Record ts) (sym e))

pub of_next : (o : Option TypeValue) (p : Option ComponentTypes) (ts : ComponentTypes) → next_type o p ≡ Some ts
    → (u : TypeValue) × (us : ComponentTypes) × (o ≡ Some u) × (p ≡ Some us) × (ts ≡ type.next_component u us)
of_next None p ts e = cc
of_next (Some u) None ts e = cc
of_next (Some u) (Some us) ts e = (u, us, refl, refl, same_Some ts (type.next_component u us) (sym e))

module _ (types : List UnitType) where
  mutual
    -- what is found of a denoter is its type value, where that is so of definitions
    instance_step : (find : Denoter → Option TypeValue) → ((d : Denoter) (v : TypeValue) → find d ≡ Some v → IsInstance types d v) → (d : Denoter) (v : TypeValue) → type_step types find d ≡ Some v → IsInstance types d v
    instance_step find h (Required r) v e = subst (λ w. IsInstance types (Required r) w) (same_Some (required_type r) v e) (required r)
    instance_step find h (Named index []) v e = go (slice_get types index) refl e
      where
        go : (o : Option UnitType) → slice_get types index ≡ o → found_of find o ≡ Some v → IsInstance types (Named index []) v
        go None at f = cc
        go (Some t) at f = named index t at (h (definition_of t) v f)
    instance_step find h (Named index (b ∷ bs)) v e = cc
    instance_step find h (Subrange host (Fixed low) (Fixed high)) v e = subst (λ w. IsInstance types (Subrange host (Fixed low) (Fixed high)) w) (same_Some (Ordinal low high) v e) (subrange host low high)
    instance_step find h (Enumeration []) v e = cc
    instance_step find h (Enumeration (first ∷ others)) v e = subst (λ w. IsInstance types (Enumeration (first ∷ others)) w) (same_Some _ v e) (enumeration first others)
    instance_step find h (Array index component) v e =
        let p = of_array (type_step types find index) (type_step types find component) v e in
        subst (λ w. IsInstance types (Array index component) w) (sym p.7)
        (array index component p.0 p.1 p.2 p.3 (instance_step find h index p.0 p.4) p.5 (instance_step find h component p.3 p.6))
    instance_step find h (Record ds) v e =
        let p = of_record (types_step types find ds) v e in
        subst (λ w. IsInstance types (Record ds) w) (sym p.2) (components ds p.0 (instances_step find h ds p.0 p.1))
    instance_step find h (Set base) v e =
        let p = of_set (type_step types find base) v e in
        subst (λ w. IsInstance types (Set base) w) (sym p.5) (set base p.0 p.1 p.2 (instance_step find h base p.0 p.3) p.4)
    instance_step find h (Initial of value) v e = initial of value v (instance_step find h of v e)

    instances_step : (find : Denoter → Option TypeValue) → ((d : Denoter) (v : TypeValue) → find d ≡ Some v → IsInstance types d v) → (ds : Denoters) (ts : ComponentTypes) → types_step types find ds ≡ Some ts → AreInstances types ds ts
    instances_step find h no_denoter ts e = subst (AreInstances types no_denoter) (same_Some type.no_component ts e) none
    instances_step find h (next_denoter d ds) ts e =
        let p = of_next (type_step types find d) (types_step types find ds) ts e in
        subst (AreInstances types (next_denoter d ds)) (sym p.4) (one_more d ds p.0 p.1 (instance_step find h d p.0 p.2) (instances_step find h ds p.1 p.3))

  -- however many denoters are looked at
  instance_within : (n : ℕ) (d : Denoter) (v : TypeValue) → type_within types n d ≡ Some v → IsInstance types d v
  instance_within zero d v e = cc
  instance_within (suc n) d v e = instance_step (type_within types n) (instance_within n) d v e

-- what is found for a denoter is its type value
pub types_are_instances : TypesAreInstances
types_are_instances types d v e = instance_within types (suc (length types)) d v e

same_ordinal : (l h m k : ℤ) → Ordinal l h ≡ Ordinal m k → (l ≡ m) × (h ≡ k)
same_ordinal l h m k e = (cc, cc)

module _ (types : List UnitType) where
  -- what a type value of a denoter of each form comes from
  abbrev pub IsOf : Denoter → TypeValue → Type 0
  IsOf (Required r) v = required_type r ≡ v
  IsOf (Named index []) v = (t : UnitType) × (slice_get types index ≡ Some t) × IsInstance types (definition_of t) v
  IsOf (Named index (b ∷ bs)) v = ⊥
  IsOf (Subrange host (Fixed low) (Fixed high)) v = Ordinal low high ≡ v
  IsOf (Enumeration []) v = ⊥
  IsOf (Enumeration (first ∷ others)) v = Ordinal (pos 0) (pos (length others)) ≡ v
  IsOf (Array index component) v =
      (i : TypeValue) × (low high : ℤ) × (of : TypeValue) × (type.Array low high of ≡ v) × IsInstance types index i × (bare_of i ≡ Ordinal low high) × IsInstance types component of
  IsOf (Record ds) v = (ts : ComponentTypes) × (type.Record ts ≡ v) × AreInstances types ds ts
  IsOf (Set base) v = (b : TypeValue) × (low high : ℤ) × (type.Set low high ≡ v) × IsInstance types base b × (bare_of b ≡ Ordinal low high)
  IsOf (Initial of value) v = IsInstance types of v

  -- and alike those of components
  abbrev AreOf : Denoters → ComponentTypes → Type 0
  AreOf no_denoter ts = type.no_component ≡ ts
  AreOf (next_denoter d ds) ts = (u : TypeValue) × (us : ComponentTypes) × (type.next_component u us ≡ ts) × IsInstance types d u × AreInstances types ds us

  pub is_of : (d : Denoter) (v : TypeValue) → IsInstance types d v → IsOf d v
  is_of d v (required r) = refl
  is_of d v (named index t at h) = (t, at, h)
  is_of d v (subrange host low high) = refl
  is_of d v (enumeration first others) = refl
  is_of d v (array index component j low high of i over c) = (j, low, high, of, refl, i, over, c)
  is_of d v (components ds ts all) = (ts, refl, all)
  is_of d v (set base b low high i over) = (b, low, high, refl, i, over)
  is_of d v (initial of value t i) = i

  are_of : (ds : Denoters) (ts : ComponentTypes) → AreInstances types ds ts → AreOf ds ts
  are_of ds ts none = refl
  are_of ds ts (one_more e es u us i is) = (u, us, refl, i, is)

  mutual
    -- a denoter has at most one type value
    instance_one : (d : Denoter) (v w : TypeValue) → IsInstance types d v → IsInstance types d w → v ≡ w
    instance_one d v w (required r) other = is_of (Required r) w other
    instance_one d v w (named index t at h) other =
        let x = is_of (Named index []) w other in
        let same : x.0 ≡ t = same_Some x.0 t (sym x.1 ∙ at) in
        instance_one (definition_of t) v w h (subst (λ u. IsInstance types (definition_of u) w) same x.2)
    instance_one d v w (subrange host low high) other = is_of (Subrange host (Fixed low) (Fixed high)) w other
    instance_one d v w (enumeration first others) other = is_of (Enumeration (first ∷ others)) w other
    instance_one d v w (array index component j low high of i over c) other =
        let x = is_of (Array index component) w other in
        let bounds = same_ordinal low high x.1 x.2 (sym over ∙ (ap bare_of (instance_one index j x.0 i x.5) ∙ x.6)) in
        let of_same : of ≡ x.3 = instance_one component of x.3 c x.7 in
        (λ k. type.Array (bounds.0 k) (bounds.1 k) (of_same k)) ∙ x.4
    instance_one d v w (components ds ts all) other =
        let x = is_of (Record ds) w other in
        ap type.Record (instances_one ds ts x.0 all x.2) ∙ x.1
    instance_one d v w (set base b low high i over) other =
        let x = is_of (Set base) w other in
        let bounds = same_ordinal low high x.1 x.2 (sym over ∙ (ap bare_of (instance_one base b x.0 i x.4) ∙ x.5)) in
        (λ k. type.Set (bounds.0 k) (bounds.1 k)) ∙ x.3
    instance_one d v w (initial of value t i) other = instance_one of t w i (is_of (Initial of value) w other)

    instances_one : (ds : Denoters) (ts us : ComponentTypes) → AreInstances types ds ts → AreInstances types ds us → ts ≡ us
    instances_one ds ts us none other = are_of no_denoter us other
    instances_one ds ts us (one_more e es t rest i is) other =
        let x = are_of (next_denoter e es) us other in
        let first : t ≡ x.0 = instance_one e t x.0 i x.3 in
        let others : rest ≡ x.1 = instances_one es rest x.1 is x.4 in
        (λ k. type.next_component (first k) (others k)) ∙ x.2

-- a denoter has at most one type value
pub instances_are_one : InstancesAreOne
instances_are_one types d v w p q = instance_one types d v w p q
