-- What holds of the type values of valid denoters.
use Rattle.std.proofs.Common.{◌≡◌, ℕ, ℤ, pos, zero, suc, ◌+◌, IsTrue, List, [], ◌∷◌, length, Option, Some, None, slice_get, refl, sym, ap, ◌∙◌, subst, arith}
use Rattle.std.specs.Prelude.{int_le}
use Rattle.std.proofs.lemmas.Bool.Decides.{nat_tests}
use Rattle.std.proofs.lemmas.Option.{same_Some}
use Rattle.ep_typed.specs.Denoters.{ArrayParts, AreInstances, IsInstance, array_step, array_of, array_within, base_of, base_within, definition_of, denoter_at, found_of, host_of, host_step, host_within, enumeration_host, record_of, record_within, required_type}
use Rattle.ep_typed.specs.Denoters as instance
use Rattle.ep_meaning.proofs.public.Bares.{bare_value}
use Rattle.ep_typed.specs.Hosts.{Host, is_of_host}
use Rattle.ep_typed.specs.Hosts as host
use Rattle.ep_typed.specs.Trees.{Denoter, Denoters, Required, Named, Subrange, Enumeration, Array, Record, Set, Initial}
use Rattle.ep_values.specs.TypeValues as type
use Rattle.ep_values.specs.TypeValues.{ComponentTypes, TypeValue, bare_each, bare_of, type_among}
use Rattle.ep_meaning.specs.Valid.{AreTyped, IsTyped, required, named, subrange, enumeration, array, components, set, initial, none_typed, next_typed, AreTypeValues, IsSetOf, IsTypeOf, IsTypeValue}
use Rattle.ep_typed.specs.declared.denoter.RequiredType.TheVariants as simple
use Rattle.ep_typed.specs.declared.unit.UnitType.{UnitType}

from_zero : (n : ℕ) → IsTrue (int_le (pos 0) (pos n))
from_zero n = grind (arith, nat_tests)

-- the first and the last constant of an enumeration are of its host
first_of : (n : ℕ) → IsTrue (is_of_host (host.Enumeration n) (pos 0))
first_of n = grind (arith, nat_tests)

last_of : (n : ℕ) → IsTrue (is_of_host (host.Enumeration n) (pos n))
last_of n = grind (arith, nat_tests)

module _ (types : List UnitType) where
  mutual
    -- a valid denoter has its type value
    pub typed_instance : (d : Denoter) (v : TypeValue) → IsTyped types d v → IsInstance types d v
    typed_instance d v (required r) = instance.required r
    typed_instance d v (named index t at h) = instance.named index t at (typed_instance (definition_of t) v h)
    typed_instance d v (subrange of low high h has within) = instance.subrange of low high
    typed_instance d v (enumeration first others fits) = instance.enumeration first others
    typed_instance d v (array index component j low high of i over c) =
        instance.array index component j low high of (typed_instance index j i) over (typed_instance component of c)
    typed_instance d v (components ds ts all) = instance.components ds ts (typed_instances ds ts all)
    typed_instance d v (set base b low high i over from to) = instance.set base b low high (typed_instance base b i) over
    typed_instance d v (initial of value t x fits) = instance.initial of value t (typed_instance of t x)

    typed_instances : (ds : Denoters) (ts : ComponentTypes) → AreTyped types ds ts → AreInstances types ds ts
    typed_instances ds ts none_typed = instance.none
    typed_instances ds ts (next_typed e es u us x xs) = instance.one_more e es u us (typed_instance e u x) (typed_instances es us xs)

  mutual
    -- that has no initial states
    pub typed_bare : (d : Denoter) (v : TypeValue) → IsTyped types d v → bare_of v ≡ v
    typed_bare d v (required simple.Integer) = refl
    typed_bare d v (required simple.Char) = refl
    typed_bare d v (required simple.Boolean) = refl
    typed_bare d v (named index t at h) = typed_bare (definition_of t) v h
    typed_bare d v (subrange of low high h has within) = refl
    typed_bare d v (enumeration first others fits) = refl
    typed_bare d v (array index component j low high of i over c) = ap (type.Array low high) (typed_bare component of c)
    typed_bare d v (components ds ts all) = ap type.Record (typed_bares ds ts all)
    typed_bare d v (set base b low high i over from to) = refl
    typed_bare d v (initial of value t x fits) = typed_bare of t x

    pub typed_bares : (ds : Denoters) (ts : ComponentTypes) → AreTyped types ds ts → bare_each ts ≡ ts
    typed_bares ds ts none_typed = refl
    typed_bares ds ts (next_typed e es u us x xs) =
        let first = typed_bare e u x in
        let rest = typed_bares es us xs in
        λ i. type.next_component (first i) (rest i)

  mutual
    -- and that is not empty, and has bounds that are integers
    pub typed_value : (d : Denoter) (v : TypeValue) → IsTyped types d v → IsTypeValue v
    typed_value d v (required simple.Integer) = (refl, refl, refl)
    typed_value d v (required simple.Char) = (refl, refl, refl)
    typed_value d v (required simple.Boolean) = (refl, refl, refl)
    typed_value d v (named index t at h) = typed_value (definition_of t) v h
    typed_value d v (subrange of low high h has within) = (within.0, within.3, within.4)
    typed_value d v (enumeration first others fits) = (from_zero (length others), refl, fits)
    typed_value d v (array index component j low high of i over c) = (subst IsTypeValue over (bare_value j (typed_value index j i)), typed_value component of c)
    typed_value d v (components ds ts all) = typed_values ds ts all
    typed_value d v (set base b low high i over from to) = (subst IsTypeValue over (bare_value b (typed_value base b i)), from, to)
    typed_value d v (initial of value t x fits) = typed_value of t x

    typed_values : (ds : Denoters) (ts : ComponentTypes) → AreTyped types ds ts → AreTypeValues ts
    typed_values ds ts none_typed = tt
    typed_values ds ts (next_typed e es u us x xs) = (typed_value e u x, typed_values es us xs)

  -- the host that is found where so many names are followed is found where more are
  host_found-more : (find more : Denoter → Option Host) → ((d : Denoter) (h : Host) → find d ≡ Some h → more d ≡ Some h)
      → (o : Option UnitType) (h : Host) → found_of find o ≡ Some h → found_of more o ≡ Some h
  host_found-more find more keeps None h e = e
  host_found-more find more keeps (Some t) h e = keeps (definition_of t) h e

  host_step-more : (find more : Denoter → Option Host) → ((d : Denoter) (h : Host) → find d ≡ Some h → more d ≡ Some h)
      → (d : Denoter) (h : Host) → host_step types find d ≡ Some h → host_step types more d ≡ Some h
  host_step-more find more keeps (Required simple.Integer) h e = e
  host_step-more find more keeps (Required simple.Char) h e = e
  host_step-more find more keeps (Required simple.Boolean) h e = e
  host_step-more find more keeps (Named index []) h e = host_found-more find more keeps (slice_get types index) h e
  host_step-more find more keeps (Named index (b ∷ bs)) h e = e
  host_step-more find more keeps (Subrange of low high) h e = host_step-more find more keeps of h e
  host_step-more find more keeps (Enumeration names) h e = e
  host_step-more find more keeps (Array index component) h e = e
  host_step-more find more keeps (Record ds) h e = e
  host_step-more find more keeps (Set base) h e = e
  host_step-more find more keeps (Initial of value) h e = host_step-more find more keeps of h e

  host_within-more : (n : ℕ) (d : Denoter) (h : Host) → host_within types n d ≡ Some h → host_within types (suc n) d ≡ Some h
  host_within-more zero d h e = cc
  host_within-more (suc n) d h e = host_step-more (host_within types n) (host_within types (suc n)) (host_within-more n) d h e

  host_within-so_many : (k m n : ℕ) (d : Denoter) (h : Host) → m ≡ k + n → host_within types n d ≡ Some h → host_within types m d ≡ Some h
  host_within-so_many zero m n d h is e = ap (λ i. host_within types i d) (omega (arith, is)) ∙ e
  host_within-so_many (suc k) zero n d h is e = absurd (omega (arith, is))
  host_within-so_many (suc k) (suc m) n d h is e = host_within-more m d h (host_within-so_many k m n d h (omega (arith, is)) e)

  -- however many names are followed, at most one host is found
  one_host : (m n : ℕ) (d : Denoter) (g h : Host) → host_within types m d ≡ Some g → host_within types n d ≡ Some h → g ≡ h
  one_host m n d g h a b =
      same_Some g h (sym (host_within-so_many n (m + n) m d g (omega arith) a) ∙ host_within-so_many m (m + n) n d h refl b)

  -- the type value of a valid denoter is a type of its host, where it has one, but for initial states
  typed_of_within : (n : ℕ) (d : Denoter) (v : TypeValue) (h : Host) → IsTyped types d v → host_within types n d ≡ Some h → IsTypeOf h (bare_of v)
  typed_of_within zero d v h x e = cc
  typed_of_within (suc n) d v h (required simple.Integer) e = subst (λ k. IsTypeOf k (required_type simple.Integer)) (same_Some host.Integer h e) (refl, refl, refl, refl, refl)
  typed_of_within (suc n) d v h (required simple.Char) e = subst (λ k. IsTypeOf k (required_type simple.Char)) (same_Some host.Char h e) (refl, refl, refl, refl, refl)
  typed_of_within (suc n) d v h (required simple.Boolean) e = subst (λ k. IsTypeOf k (required_type simple.Boolean)) (same_Some host.Boolean h e) (refl, refl, refl, refl, refl)
  typed_of_within (suc n) d v h (named index t at x) e = typed_of_within n (definition_of t) v h x (sym (ap (found_of (host_within types n)) at) ∙ e)
  typed_of_within (suc n) d v h (subrange of low high g has within) e =
      subst (λ k. IsTypeOf k (type.Ordinal low high)) (one_host (suc (length types)) (suc n) of g h has e) within
  typed_of_within (suc n) d v h (enumeration first others fits) e =
      subst (λ k. IsTypeOf k (type.Ordinal (pos 0) (pos (length others)))) (same_Some (host.Enumeration (length others)) h e) (from_zero (length others), first_of (length others), last_of (length others), refl, fits)
  typed_of_within (suc n) d v h (array index component j low high of i over c) e = cc
  typed_of_within (suc n) d v h (components ds ts all) e = cc
  typed_of_within (suc n) d v h (set base b low high i over from to) e = cc
  typed_of_within (suc n) d v h (initial of value t x fits) e = typed_of_within (suc n) of t h x e

  pub typed_of_host : (d : Denoter) (v : TypeValue) (h : Host) → IsTyped types d v → host_of types d ≡ Some h → IsTypeOf h (bare_of v)
  typed_of_host d v h x e = typed_of_within (suc (length types)) d v h x e

  -- the parts of a valid denoter of an array are valid, and its type value is that of an array of them, but for initial states
  pub record HasParts (a : ArrayParts) (v : TypeValue) : Type 0 where
    pub over : TypeValue
    pub low : ℤ
    pub high : ℤ
    pub of : TypeValue
    pub is : bare_of v ≡ type.Array low high (bare_of of)
    pub index : IsTyped types a.index over
    pub bounds : bare_of over ≡ type.Ordinal low high
    pub component : IsTyped types a.component of

  parts_within : (n : ℕ) (d : Denoter) (v : TypeValue) (a : ArrayParts) → IsTyped types d v → array_within types n d ≡ Some a → HasParts a v
  parts_within zero d v a x e = cc
  parts_within (suc n) d v a (required r) e = cc
  parts_within (suc n) d v a (named index t at x) e = parts_within n (definition_of t) v a x (sym (ap (found_of (array_within types n)) at) ∙ e)
  parts_within (suc n) d v a (subrange of low high g has within) e = cc
  parts_within (suc n) d v a (enumeration first others fits) e = cc
  parts_within (suc n) d v a (components ds ts all) e = cc
  parts_within (suc n) d v a (set base b low high i over from to) e = cc
  parts_within (suc n) d v a (initial of value t x fits) e =
      let p = parts_within (suc n) of t a x e in
      record { over = p.over; low = p.low; high = p.high; of = p.of; is = p.is; index = p.index; bounds = p.bounds; component = p.component }
  parts_within (suc n) d v a (array index component j low high of i over c) e =
      subst (λ (b : ArrayParts). HasParts b (type.Array low high of)) (same_Some (record { index = index; component = component }) a e)
      (record { over = j; low = low; high = high; of = of; is = refl; index = i; bounds = over; component = c })

  pub typed_parts : (d : Denoter) (v : TypeValue) (a : ArrayParts) → IsTyped types d v → array_of types d ≡ Some a → HasParts a v
  typed_parts d v a x e = parts_within (suc (length types)) d v a x e

  -- the components of a valid denoter of a record are valid, and its type value is that of a record of them, but for initial states
  pub record HasComponents (ds : Denoters) (v : TypeValue) : Type 0 where
    pub types_of : ComponentTypes
    pub is : bare_of v ≡ type.Record (bare_each types_of)
    pub all : AreTyped types ds types_of

  components_within : (n : ℕ) (d : Denoter) (v : TypeValue) (ds : Denoters) → IsTyped types d v → record_within types n d ≡ Some ds → HasComponents ds v
  components_within zero d v ds x e = cc
  components_within (suc n) d v ds (required r) e = cc
  components_within (suc n) d v ds (named index t at x) e = components_within n (definition_of t) v ds x (sym (ap (found_of (record_within types n)) at) ∙ e)
  components_within (suc n) d v ds (subrange of low high g has within) e = cc
  components_within (suc n) d v ds (enumeration first others fits) e = cc
  components_within (suc n) d v ds (array index component j low high of i over c) e = cc
  components_within (suc n) d v ds (set base b low high i over from to) e = cc
  components_within (suc n) d v ds (initial of value t x fits) e =
      let p = components_within (suc n) of t ds x e in record { types_of = p.types_of; is = p.is; all = p.all }
  components_within (suc n) d v ds (components es ts all) e = subst (λ (fs : Denoters). HasComponents fs (type.Record ts)) (same_Some es ds e) (record { types_of = ts; is = refl; all = all })

  pub typed_components : (d : Denoter) (v : TypeValue) (ds : Denoters) → IsTyped types d v → record_of types d ≡ Some ds → HasComponents ds v
  typed_components d v ds x e = components_within (suc (length types)) d v ds x e

  -- the type value of a valid denoter is that of sets over the host of its base type, where it has one, but for initial states
  set_within : (n : ℕ) (d : Denoter) (v : TypeValue) (base : Denoter) (h : Host) → IsTyped types d v → base_within types n d ≡ Some base → host_of types base ≡ Some h → IsSetOf h (bare_of v)
  set_within zero d v base h x e has = cc
  set_within (suc n) d v base h (required r) e has = cc
  set_within (suc n) d v base h (named index t at x) e has = set_within n (definition_of t) v base h x (sym (ap (found_of (base_within types n)) at) ∙ e) has
  set_within (suc n) d v base h (subrange of low high g x within) e has = cc
  set_within (suc n) d v base h (enumeration first others fits) e has = cc
  set_within (suc n) d v base h (array index component j low high of i over c) e has = cc
  set_within (suc n) d v base h (components es ts all) e has = cc
  set_within (suc n) d v base h (initial of value t x fits) e has = set_within (suc n) of t base h x e has
  set_within (suc n) d v base h (set own b low high i over from to) e has =
      (subst (IsTypeOf h) over (typed_of_host own b h i (ap (host_of types) (same_Some own base e) ∙ has)), from, to)

  pub typed_set : (d : Denoter) (v : TypeValue) (base : Denoter) (h : Host) → IsTyped types d v → base_of types d ≡ Some base → host_of types base ≡ Some h → IsSetOf h (bare_of v)
  typed_set d v base h x e has = set_within (suc (length types)) d v base h x e has

  -- the one of a number has its type
  pub typed_among : (ds : Denoters) (ts : ComponentTypes) (k : ℕ) (d : Denoter) → AreTyped types ds ts → denoter_at ds k ≡ Some d → (t : TypeValue) × (type_among ts k ≡ Some t) × IsTyped types d t
  typed_among ds ts k d none_typed e = cc
  typed_among ds ts zero d (next_typed f fs u us x xs) e = (u, refl, subst (λ g. IsTyped types g u) (same_Some f d e) x)
  typed_among ds ts (suc k) d (next_typed f fs u us x xs) e = typed_among fs us k d xs e
