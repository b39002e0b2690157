-- The kind of a denoter's values.
use Rattle.std.proofs.Common.{◌≡◌, ℕ, zero, suc, List, [], ◌∷◌, length, Option, Some, None, option_map, slice_get, refl, sym, ap, ◌∙◌, subst}
use Rattle.std.proofs.lemmas.Option.{same_Some}
use Rattle.ep_typed.proofs.public.Denoters.{instances_are_one, of_set, types_are_instances}
use Rattle.ep_meaning.proofs.public.Typed.{typed_instance, typed_of_host, typed_set}
use Rattle.ep_typed.specs.Denoters.{bare_type_of, base_within, definition_of, found_of, host_of, host_within, type_of, type_step, type_within}
use Rattle.ep_typed.specs.Hosts.{Host}
use Rattle.ep_typed.specs.Trees.{Fixed, Denoter, Required, Named, Subrange, Enumeration, Array, Record, Set, Initial}
use Rattle.ep_values.specs.TypeValues.{TypeValue, bare_of}
use Rattle.ep_meaning.specs.Valid as kind
use Rattle.ep_meaning.specs.Valid.{IsOfKind, IsStructured, IsTyped, IsTypeOfKind, ValueKind}
use Rattle.ep_typed.specs.declared.denoter.RequiredType.TheVariants as simple
use Rattle.ep_typed.specs.declared.unit.UnitType.{UnitType}

-- a type value that is known is not that of an array or a record
plain : {t u : TypeValue} → (IsStructured (bare_of u) → ⊥) → ◌≡◌ {A = Option TypeValue} (Some u) (Some t) → IsStructured (bare_of t) → ⊥
plain {t = t} {u = u} not e structured = not (subst (λ v. IsStructured (bare_of v)) (sym (same_Some u t e)) structured)

module _ (types : List UnitType) where
  found_hosted : (n : ℕ) (o : Option UnitType) (h : Host) (t : TypeValue) → ((d : Denoter) → host_within types n d ≡ Some h → type_within types n d ≡ Some t → ⊥)
      → found_of (host_within types n) o ≡ Some h → found_of (type_within types n) o ≡ Some t → ⊥
  found_hosted n None h t never e f = cc
  found_hosted n (Some u) h t never e f = never (definition_of u) e f

  -- what has a host is no array and no record
  hosted_within : (n : ℕ) (d : Denoter) (h : Host) (t : TypeValue) → host_within types n d ≡ Some h → type_within types n d ≡ Some t → IsStructured (bare_of t) → ⊥
  hosted_within zero d h t has is structured = cc
  hosted_within (suc n) (Required simple.Integer) h t has is structured = plain (λ x. x) is structured
  hosted_within (suc n) (Required simple.Char) h t has is structured = plain (λ x. x) is structured
  hosted_within (suc n) (Required simple.Boolean) h t has is structured = plain (λ x. x) is structured
  hosted_within (suc n) (Named index []) h t has is structured = found_hosted n (slice_get types index) h t (λ d e f. hosted_within n d h t e f structured) has is
  hosted_within (suc n) (Named index (b ∷ bs)) h t has is structured = cc
  hosted_within (suc n) (Subrange of (Fixed low) (Fixed high)) h t has is structured = plain (λ x. x) is structured
  hosted_within (suc n) (Enumeration []) h t has is structured = cc
  hosted_within (suc n) (Enumeration (first ∷ others)) h t has is structured = plain (λ x. x) is structured
  hosted_within (suc n) (Array index component) h t has is structured = cc
  hosted_within (suc n) (Record ds) h t has is structured = cc
  hosted_within (suc n) (Set base) h t has is structured = cc
  hosted_within (suc n) (Initial of value) h t has is structured =
      hosted_within (suc n) of h t has is structured

  found_based : (n : ℕ) (o : Option UnitType) (b : Denoter) (h : Host) → ((d : Denoter) → base_within types n d ≡ Some b → host_within types n d ≡ Some h → ⊥)
      → found_of (base_within types n) o ≡ Some b → found_of (host_within types n) o ≡ Some h → ⊥
  found_based n None b h never e f = cc
  found_based n (Some u) b h never e f = never (definition_of u) e f

  -- what has a base type has no host
  based_within : (n : ℕ) (d b : Denoter) (h : Host) → base_within types n d ≡ Some b → host_within types n d ≡ Some h → ⊥
  based_within zero d b h has is = cc
  based_within (suc n) (Required r) b h has is = cc
  based_within (suc n) (Named index []) b h has is = found_based n (slice_get types index) b h (λ d e f. based_within n d b h e f) has is
  based_within (suc n) (Named index (c ∷ cs)) b h has is = cc
  based_within (suc n) (Subrange of low high) b h has is = cc
  based_within (suc n) (Enumeration names) b h has is = cc
  based_within (suc n) (Array index component) b h has is = cc
  based_within (suc n) (Record ds) b h has is = cc
  based_within (suc n) (Set base) b h has is = cc
  based_within (suc n) (Initial of value) b h has is = based_within (suc n) of b h has is

  found_formed : (n : ℕ) (o : Option UnitType) (b : Denoter) (t : TypeValue) → ((d : Denoter) → base_within types n d ≡ Some b → type_within types n d ≡ Some t → ⊥)
      → found_of (base_within types n) o ≡ Some b → found_of (type_within types n) o ≡ Some t → ⊥
  found_formed n None b t never e f = cc
  found_formed n (Some u) b t never e f = never (definition_of u) e f

  -- and is no array and no record
  formed_within : (n : ℕ) (d b : Denoter) (t : TypeValue) → base_within types n d ≡ Some b → type_within types n d ≡ Some t → IsStructured (bare_of t) → ⊥
  formed_within zero d b t has is structured = cc
  formed_within (suc n) (Required r) b t has is structured = cc
  formed_within (suc n) (Named index []) b t has is structured = found_formed n (slice_get types index) b t (λ d e f. formed_within n d b t e f structured) has is
  formed_within (suc n) (Named index (c ∷ cs)) b t has is structured = cc
  formed_within (suc n) (Subrange of low high) b t has is structured = cc
  formed_within (suc n) (Enumeration names) b t has is structured = cc
  formed_within (suc n) (Array index component) b t has is structured = cc
  formed_within (suc n) (Record ds) b t has is structured = cc
  formed_within (suc n) (Set base) b t has is structured = let p = of_set (type_step types (type_within types n) base) t is in subst (λ v. IsStructured (bare_of v)) p.5 structured
  formed_within (suc n) (Initial of value) b t has is structured =
      formed_within (suc n) of b t has is structured

  -- what has a bare form has a type value
  with_bare : (d : Denoter) (t : TypeValue) → bare_type_of types d ≡ Some t → IsStructured t → (u : TypeValue) × (type_of types d ≡ Some u) × (bare_of u ≡ t) × IsStructured (bare_of u)
  with_bare d t e structured = go (type_of types d) refl e
    where
      go : (o : Option TypeValue) → type_of types d ≡ o → option_map bare_of o ≡ Some t → (u : TypeValue) × (type_of types d ≡ Some u) × (bare_of u ≡ t) × IsStructured (bare_of u)
      go None is f = cc
      go (Some u) is f = let same = same_Some (bare_of u) t f in (u, is, same, subst IsStructured (sym same) structured)

  -- a denoter's values are of one kind
  pub kinds_are_one : (d : Denoter) (k l : ValueKind) → IsOfKind k types d → IsOfKind l types d → k ≡ l
  kinds_are_one d (kind.Ordinal h) (kind.Ordinal i) p q = ap kind.Ordinal (same_Some h i (sym p ∙ q))
  kinds_are_one d (kind.Ordinal h) kind.Bytes p q = absurd q
  kinds_are_one d (kind.Ordinal h) (kind.Structured t) p q = (let u = with_bare d t q.0 q.1 in absurd (hosted_within (suc (length types)) d h u.0 p u.1 u.3))
  kinds_are_one d (kind.Ordinal h) (kind.Set i) p q = absurd (based_within (suc (length types)) d q.0 h q.1 p)
  kinds_are_one d kind.Bytes l p q = absurd p
  kinds_are_one d (kind.Structured t) (kind.Ordinal h) p q = (let u = with_bare d t p.0 p.1 in absurd (hosted_within (suc (length types)) d h u.0 q u.1 u.3))
  kinds_are_one d (kind.Structured t) kind.Bytes p q = absurd q
  kinds_are_one d (kind.Structured t) (kind.Set h) p q = (let u = with_bare d t p.0 p.1 in absurd (formed_within (suc (length types)) d q.0 u.0 q.1 u.1 u.3))
  kinds_are_one d (kind.Set h) (kind.Ordinal i) p q = absurd (based_within (suc (length types)) d p.0 i p.1 q)
  kinds_are_one d (kind.Set h) kind.Bytes p q = absurd q
  kinds_are_one d (kind.Set h) (kind.Structured t) p q = (let u = with_bare d t q.0 q.1 in absurd (formed_within (suc (length types)) d p.0 u.0 p.1 u.1 u.3))
  kinds_are_one d (kind.Set h) (kind.Set i) p q =
      let same : p.0 ≡ q.0 = same_Some p.0 q.0 (sym p.1 ∙ q.1) in
      ap kind.Set (same_Some h i (sym p.2 ∙ (ap (host_of types) same ∙ q.2)))
  kinds_are_one d (kind.Structured t) (kind.Structured u) p q = ap kind.Structured (same_Some t u (sym p.0 ∙ q.0))

  -- and so are those of its type value, where it is valid, but for initial states
  pub typed_of_kind : (d : Denoter) (t : TypeValue) (k : ValueKind) → IsTyped types d t → IsOfKind k types d → IsTypeOfKind k (bare_of t)
  typed_of_kind d t (kind.Ordinal h) typed of_kind = typed_of_host types d t h typed of_kind
  typed_of_kind d t kind.Bytes typed of_kind = of_kind
  typed_of_kind d t (kind.Set h) typed of_kind = typed_set types d t of_kind.0 h typed of_kind.1 of_kind.2
  typed_of_kind d t (kind.Structured u) typed of_kind =
      let x = with_bare d u of_kind.0 of_kind.1 in
      (sym x.2 ∙ ap bare_of (instances_are_one types d x.0 t (types_are_instances types d x.0 x.1) (typed_instance types d t typed)), of_kind.1)
