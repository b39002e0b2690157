-- For `Places`: the flags when one more place is added.
use Rattle.std.proofs.Common.{◌≡◌, ◌≢◌, ℕ, ◌<◌, ◌+◌, Bool, true, false, not, cond, List, [], ◌∷◌, ◌++◌, length, get_or, slice_get, slice_set, Some, ◌⊎◌, inl, inr, refl, sym, subst, ◌∙◌, ap, arith}
use Rattle.std.specs.List.{Contains, count_by}
use Rattle.std.proofs.lemmas.Option.{slice_get-get_or}
use Rattle.std.proofs.lemmas.List.Elements.{Contains-push, Contains-push_cases, Contains-append_left}
use Rattle.std.proofs.lemmas.List.Sums.{sum_by-set}
use Rattle.ep_order.specs.Places.{AreFlagsOf}
use Rattle.ep_order.proofs.Lists.{set_same, set_other, same_or_not}

pub flags_after : (flags : List Bool) (items : List ℕ) (place : ℕ) → AreFlagsOf flags items → place < length flags → AreFlagsOf (slice_set flags place true) (items ++ place ∷ [])
flags_after flags items place told within k = (there (same_or_not k place), back)
  where
    same : k ≡ place → slice_get (slice_set flags place true) k ≡ Some true
    same e = subst (λ j. slice_get (slice_set flags place true) j ≡ Some true) (sym e) (set_same flags place true within)

    there : (k ≡ place) ⊎ (k ≢ place) → slice_get (slice_set flags place true) k ≡ Some true → Contains (items ++ place ∷ []) k
    there (inl e) h = subst (λ j. Contains (items ++ place ∷ []) j) (sym e) (Contains-push items place)
    there (inr n) h = Contains-append_left items (place ∷ []) k ((told k).0 (sym (set_other flags place k true n) ∙ h))

    kept : (k ≡ place) ⊎ (k ≢ place) → Contains items k → slice_get (slice_set flags place true) k ≡ Some true
    kept (inl e) h = same e
    kept (inr n) h = set_other flags place k true n ∙ (told k).1 h

    back : Contains (items ++ place ∷ []) k → slice_get (slice_set flags place true) k ≡ Some true
    back h = elim (Contains-push_cases items place k h) [ inl c ↦ kept (same_or_not k place) c | inr e ↦ same (sym e) ]

pub left_after : (flags : List Bool) (items : List ℕ) (place : ℕ) → AreFlagsOf flags items → place < length flags → (Contains items place → ⊥) → count_by not (slice_set flags place true) + 1 ≡ count_by not flags
left_after flags items place told within new =
    let unset : get_or flags place false ≡ false = value (get_or flags place false) refl in
    omega (arith, rw unset at (sum_by-set (λ b. cond (not b) 1 0) flags place true false within))
  where
    value : (b : Bool) → get_or flags place false ≡ b → b ≡ false
    value true e = absurd (new ((told place).0 (slice_get-get_or flags place false within ∙ ap Some e)))
    value false e = refl
