-- Tables whose items are seen in keys: what a key finds, and what one more key adds.
use Rattle.std.proofs.Common.{◌≡◌, ℕ, zero, suc, ◌+◌, Bool, true, false, true≢false, cond, ◌||◌, if◌then◌else◌, Decides, List, [], ◌∷◌, ◌++◌, map, slice_get, Option, Some, None, MatchOption, refl, sym, ap, subst, ◌∙◌, position, arith}
use Rattle.std.proofs.lemmas.Iterator.Adapters.{position_from-zero}
use Rattle.std.proofs.lemmas.List.{map-append}
use Rattle.std.proofs.lemmas.Option.{same_Some}
use Rattle.std.specs.List.{list_any, position_from}
use Rattle.ep_gen_code.specs.Growth.{IsNowhere}

module _ {K X : Type 0} (f : K → X) where
  module _ (x : X) (test : K → Bool) (decides : (k : K) → Decides (test k) (x ≡ f k)) where
    -- what is found, in a list behind so many others
    abbrev Finds : List K → ℕ → Option ℕ → Type 0
    Finds ks n o = MatchOption o (IsNowhere (map f ks) x) (λ place. (j : ℕ) × (place ≡ n + j) × (slice_get (map f ks) j ≡ Some x))

    finds_from : (ks : List K) (n : ℕ) → Finds ks n (position_from test n ks)
    finds_from [] n = λ k h. cc
    finds_from (k ∷ ks) n = at (test k) refl (finds_from ks (n + 1))
      where
        later : test k ≡ false → (o : Option ℕ) → Finds ks (n + 1) o → Finds (k ∷ ks) n o
        later other None none = nowhere
          where
            nowhere : (j : ℕ) → slice_get (map f (k ∷ ks)) j ≡ Some x → ⊥
            nowhere zero h = true≢false (sym ((decides k).1 (sym (same_Some (f k) x h))) ∙ other)
            nowhere (suc j) h = none j h
        later other (Some place) found = (suc found.0, omega (arith, found.1), found.2)

        at : (b : Bool) → test k ≡ b → Finds ks (n + 1) (position_from test (n + 1) ks) → Finds (k ∷ ks) n (cond b (Some n) (position_from test (n + 1) ks))
        at true is rest = (0, omega arith, ap Some (sym ((decides k).0 is)))
        at false is rest = later is (position_from test (n + 1) ks) rest

    -- a key finds the place of its item, or there is none
    pub found : (ks : List K) (o : Option ℕ) → o ≡ position test ks → MatchOption o (IsNowhere (map f ks) x) (λ place. slice_get (map f ks) place ≡ Some x)
    found ks o is = seen o (subst (Finds ks 0) (sym (is ∙ position_from-zero test ks)) (finds_from ks 0))
      where
        seen : (o : Option ℕ) → Finds ks 0 o → MatchOption o (IsNowhere (map f ks) x) (λ place. slice_get (map f ks) place ≡ Some x)
        seen None none = none
        seen (Some place) there =
            let at : there.0 ≡ place = omega (arith, there.1) in
            subst (λ j. slice_get (map f ks) j ≡ Some x) at there.2

    -- no key of a new item is there
    absent : (ks : List K) → IsNowhere (map f ks) x → list_any test ks ≡ false
    absent [] new = refl
    absent (k ∷ ks) new = at (test k) refl (absent ks (λ j h. new (suc j) h))
      where
        at : (b : Bool) → test k ≡ b → list_any test ks ≡ false → (b || list_any test ks) ≡ false
        at true is rest = absurd (new zero (ap Some (sym ((decides k).0 is))))
        at false is rest = rest

    -- so a key that is inserted goes last
    pub pushed : (ks after : List K) (k : K) → f k ≡ x → IsNowhere (map f ks) x → after ≡ (if list_any test ks then ks else ks ++ k ∷ []) → map f after ≡ map f ks ++ x ∷ []
    pushed ks after k is new inserted =
        let last : after ≡ ks ++ k ∷ [] = inserted ∙ ap (λ (b : Bool). if b then ks else ks ++ k ∷ []) (absent ks new) in
        ap (map f) last ∙ map-append f ks (k ∷ []) ∙ ap (λ y. map f ks ++ y ∷ []) is
