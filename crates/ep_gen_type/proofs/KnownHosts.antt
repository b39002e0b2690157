-- What decides whether a denoter is that of an ordinal type, and what is known of the types of a list (specs/Ordinals.antt).
use Rattle.std.proofs.Common.{◌≡◌, ◌∙◌, ℕ, zero, suc, ◌+◌, ◌<◌, ◌≤◌, Bool, true, false, ltb, List, [], ◌∷◌, ◌++◌, length, get_or, slice_get, Option, Some, None, ◌⊎◌, inl, inr, refl, sym, ap, subst, arith, rules}
use Rattle.std.specs.Prelude.{is_some}
use Rattle.std.proofs.lemmas.Option.{same_Some, slice_get_past, slice_get_read, slice_get_within}
use Rattle.ep_typed.specs.Denoters.{definition_of, found_of, host_step, host_within}
use Rattle.ep_typed.specs.Hosts.{Host}
use Rattle.ep_typed.specs.Trees as tree
use Rattle.ep_typed.specs.declared.denoter.RequiredType.TheVariants as simple
use Rattle.ep_typed.specs.declared.unit.UnitType.{UnitType}
use Rattle.ep_gen_type.specs.Ordinals.{AreKnown, deciding, known_at, known_of}
use Rattle.ep_gen_type.specs.declared.ordinals.Decisive.{Decisive}
use Rattle.ep_gen_type.specs.declared.ordinals.Decisive.TheVariants.{Itself, ByType}

-- what stands in a list with one more is that one or stands in the list
get_last : {X : Type 0} (xs : List X) (y x : X) (k : ℕ) → slice_get (xs ++ y ∷ []) k ≡ Some x → (slice_get xs k ≡ Some x) ⊎ ((k ≡ length xs) × (y ≡ x))
get_last [] y x zero at = inr (refl, same_Some y x at)
get_last [] y x (suc k) at = cc
get_last (z ∷ zs) y x zero at = inl at
get_last (z ∷ zs) y x (suc k) at = elim (get_last zs y x k at) [ inl w ↦ inl w | inr w ↦ inr (ap suc w.0, w.1) ]

pub counted_more : {X : Type 0} (xs : List X) (y : X) (n : ℕ) → length xs ≡ n → length (xs ++ y ∷ []) ≡ n + 1
counted_more [] y n e = omega (arith, e)
counted_more (x ∷ xs) y n e =
    let more = counted_more xs y (length xs) refl in
    omega (arith, e, more)

-- what is known of a type of the list
known_there : (o : Option (Option Bool)) (is : Bool) → known_at o ≡ Some is → o ≡ Some (Some is)
known_there None is e = cc
known_there (Some known) is e = ap Some e

module _ (types : List UnitType) where
  -- by what is found of a name
  abbrev decides : (tree.Denoter → Option Host) → Decisive → Bool
  decides find (Itself is) = is
  decides find (ByType index) = is_some (found_of find (slice_get types index))

  decided : (find : tree.Denoter → Option Host) (d : tree.Denoter) → is_some (host_step types find d) ≡ decides find (deciding d)
  decided find (tree.Required simple.Integer) = refl
  decided find (tree.Required simple.Char) = refl
  decided find (tree.Required simple.Boolean) = refl
  decided find (tree.Named index []) = refl
  decided find (tree.Named index (b ∷ bs)) = refl
  decided find (tree.Subrange of low high) = decided find of
  decided find (tree.Enumeration []) = refl
  decided find (tree.Enumeration (first ∷ others)) = refl
  decided find (tree.Array index component) = refl
  decided find (tree.Record ds) = refl
  decided find (tree.Set base) = refl
  decided find (tree.Initial of value) = decided find of

  -- at each step what decides it of the denoter
  step_of : (n k : ℕ) (d : tree.Denoter) (w : Decisive) (b : Bool) → n ≡ suc k → w ≡ deciding d → is_some (host_within types n d) ≡ b → decides (host_within types k) w ≡ b
  step_of n k d w b e g h =
      ap (decides (host_within types k)) g ∙ sym (decided (host_within types k) d) ∙ subst (λ m. is_some (host_within types m d) ≡ b) e h

  -- where the denoter itself does
  pub by_itself : (n k : ℕ) (d : tree.Denoter) (is b : Bool) → n ≡ suc k → Itself is ≡ deciding d → is_some (host_within types n d) ≡ b → is ≡ b
  by_itself n k d is b e g h = step_of n k d (Itself is) b e g h

  -- where it names nothing
  pub by_nothing : (n k : ℕ) (d : tree.Denoter) (index : ℕ) (b : Bool) → n ≡ suc k → ByType index ≡ deciding d → is_some (host_within types n d) ≡ b → false ≡ ltb index (length types) → false ≡ b
  by_nothing n k d index b e g h past =
      let behind : length types ≤ index = search rules in
      sym (ap (λ o. is_some (found_of (host_within types k) o)) (slice_get_past types index behind)) ∙ step_of n k d (ByType index) b e g h

  -- where it names a type
  pub by_type : (n k : ℕ) (d : tree.Denoter) (index : ℕ) (t : UnitType) (b : Bool) → n ≡ suc k → ByType index ≡ deciding d → is_some (host_within types n d) ≡ b → true ≡ ltb index (length types) → t ≡ get_or types index t
      → is_some (host_within types k (definition_of t)) ≡ b
  by_type n k d index t b e g h less there =
      let within : index < length types = search rules in
      sym (ap (λ o. is_some (found_of (host_within types k) o)) (slice_get_read types (length types) index t refl within there)) ∙ step_of n k d (ByType index) b e g h

  by_known : (known : List (Option Bool)) (w : Decisive) (m : ℕ) (is : Bool) → AreKnown types known → Some is ≡ known_of known w → length known ≤ m → is ≡ decides (host_within types m) w
  by_known known (Itself b) m is all e le = same_Some is b e
  by_known known (ByType index) m is all e le =
      let at : slice_get known index ≡ Some (Some is) = known_there (slice_get known index) is (sym e) in
      let within = slice_get_within known index (Some is) at in
      all index (suc m) is at (omega (arith, within, le))

  -- what is known of a denoter by the types before it, where more names may be followed than there are
  pub known_so : (known : List (Option Bool)) (d : tree.Denoter) (n : ℕ) (is : Bool) → AreKnown types known → Some is ≡ known_of known (deciding d) → suc (length known) ≤ n → is ≡ is_some (host_within types n d)
  known_so known d zero is all e le = absurd (omega (arith, le))
  known_so known d (suc m) is all e le = by_known known (deciding d) m is all e (omega (arith, le)) ∙ sym (decided (host_within types m) d)

  -- of no type
  pub none_known : AreKnown types []
  none_known index n is at le = cc

  last_known : (known : List (Option Bool)) (t : UnitType) (n : ℕ) (is : Bool) → AreKnown types known → slice_get types (length known) ≡ Some t → Some is ≡ known_of known (deciding (definition_of t)) → suc (suc (length known)) ≤ n
      → is ≡ is_some (host_within types n (tree.Named (length known) []))
  last_known known t zero is all there e le = absurd (omega (arith, le))
  last_known known t (suc m) is all there e le =
      known_so known (definition_of t) m is all e (omega (arith, le)) ∙ sym (ap (λ o. is_some (found_of (host_within types m) o)) there)

  -- of one type more
  known_more : (known : List (Option Bool)) (t : UnitType) (o : Option Bool) → AreKnown types known → slice_get types (length known) ≡ Some t → o ≡ known_of known (deciding (definition_of t)) → AreKnown types (known ++ o ∷ [])
  known_more known t o all there e index n is at le =
      elim (get_last known o (Some is) index at) [
        | inl w ↦ all index n is w le
        | inr w ↦ subst (λ k. is ≡ is_some (host_within types n (tree.Named k []))) (sym w.0) (last_known known t n is all there (sym w.1 ∙ e) (subst (λ k. suc (suc k) ≤ n) w.0 le))
      ]

  pub known_next : (known : List (Option Bool)) (t : UnitType) (o : Option Bool) (k : ℕ) → AreKnown types known → length known ≡ k → k < length types → t ≡ get_or types k t → o ≡ known_of known (deciding (definition_of t)) → AreKnown types (known ++ o ∷ [])
  known_next known t o k all counted within there e =
      known_more known t o all (subst (λ i. slice_get types i ≡ Some t) (sym counted) (slice_get_read types (length types) k t refl within there)) e

  -- behind all names nothing is found
  pub by_none : (n : ℕ) (d : tree.Denoter) (b : Bool) → n ≡ 0 → is_some (host_within types n d) ≡ b → false ≡ b
  by_none n d b e h = subst (λ m. is_some (host_within types m d) ≡ b) e h
