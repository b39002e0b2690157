-- For `apart`: ranges of which no two have an index in common, with one more.
use Rattle.std.proofs.Common.{◌≡◌, ℕ, ◌+◌, ◌<◌, Bool, true, false, ◌&&◌, List, [], ◌∷◌, ◌++◌, drop, get_or, length, refl, sym, ◌∙◌, subst}
use Rattle.std.proofs.lemmas.List.Folds.{list_all-append}
use Rattle.std.specs.List.{list_all}
use Rattle.std.specs.Prelude.{if◌then◌else◌}
use Rattle.ep_typed.specs.CaseRanges.{is_apart}
use Rattle.ep_typed.specs.declared.tree.CaseRange.{CaseRange}
use Rattle.ep_check_expr.specs.StructuredValues.{are_apart}
use Rattle.ep_check_expr.proofs.public.Rows.{pushed_left}

four_tests : (a b c d : Bool) → ((a && (b && true)) && (c && d)) ≡ ((a && c) && (b && d))
four_tests false b c d = refl
four_tests true false true d = refl
four_tests true false false d = refl
four_tests true true c d = refl

no_test : (a : Bool) → (a && false) ≡ false
no_test true = refl
no_test false = refl

-- one more at the end is tried with each
apart-push : (xs : List CaseRange) (r : CaseRange) → are_apart (xs ++ r ∷ []) ≡ (are_apart xs && list_all (λ s. is_apart s r) xs)
apart-push [] r = refl
apart-push (x ∷ xs) r =
    rw (list_all-append (is_apart x) xs (r ∷ []), apart-push xs r)
    (four_tests (list_all (is_apart x) xs) (is_apart x r) (are_apart xs) (list_all (λ s. is_apart s r) xs))

more_fail : (a b c d : Bool) → (a && c) ≡ false → (c ≡ false → d ≡ false) → ((a && b) && d) ≡ false
more_fail false b c d h f = refl
more_fail true b c d h f = rw (f h) (no_test b)

-- what fails of the first ones fails of all
apart-first : (xs ys : List CaseRange) → are_apart xs ≡ false → are_apart (xs ++ ys) ≡ false
apart-first [] ys h = cc
apart-first (x ∷ xs) ys h =
    rw (list_all-append (is_apart x) xs ys)
    (more_fail (list_all (is_apart x) xs) (list_all (is_apart x) ys) (are_apart xs) (are_apart (xs ++ ys)) h (apart-first xs ys))

still_apart : (xs : List CaseRange) (r : CaseRange) → are_apart xs ≡ true → list_all (λ s. is_apart s r) xs ≡ true → are_apart (xs ++ r ∷ []) ≡ true
still_apart xs r h k = rw (apart-push xs r, h, k) refl

module _ (xs ranges : List CaseRange) (i : ℕ) (r : CaseRange) (within : i < length ranges) (is : r ≡ get_or ranges i r) (left : xs ++ drop i ranges ≡ ranges) where
  turned : (xs ++ r ∷ []) ++ drop (i + 1) ranges ≡ ranges
  turned = pushed_left xs ranges i r within is ∙ left

  not_apart : list_all (λ s. is_apart s r) xs ≡ false → are_apart ranges ≡ false
  not_apart h =
      subst (λ ys. are_apart ys ≡ false) turned
      (apart-first (xs ++ r ∷ []) (drop (i + 1) ranges) (rw (apart-push xs r, h) (no_test (are_apart xs))))

-- where a range is not added, and where it is
pub refused : (xs ranges : List CaseRange) (i : ℕ) (r : CaseRange) (added : Bool) → added ≡ list_all (λ s. is_apart s r) xs
    → xs ++ drop i ranges ≡ ranges → added ≡ false → i < length ranges → r ≡ get_or ranges i r → are_apart ranges ≡ false
refused xs ranges i r added told left failed within is = not_apart xs ranges i r within is left (sym told ∙ failed)

pub accepted : (xs ranges now : List CaseRange) (i : ℕ) (r : CaseRange) (added : Bool) → added ≡ list_all (λ s. is_apart s r) xs
    → now ≡ (if added then xs ++ r ∷ [] else xs) → (xs ++ drop i ranges ≡ ranges) × (are_apart xs ≡ true) → added ≡ true
    → i < length ranges → r ≡ get_or ranges i r → (now ++ drop (i + 1) ranges ≡ ranges) × (are_apart now ≡ true)
accepted xs ranges now i r added told pushed before passed within is =
    let more : now ≡ xs ++ r ∷ [] = pushed ∙ rw passed refl in
    rw more (turned xs ranges i r within is before.0, still_apart xs r before.1 (sym told ∙ passed))
