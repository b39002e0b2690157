-- References to routines in a row.
use Rattle.std.proofs.Common.{◌≡◌, ℕ, zero, suc, ◌+◌, ◌-◌, ◌^◌, ◌<◌, ◌⊎◌, inl, inr, List, [], ◌∷◌, ◌++◌, length, length-append, Some, slice_get, refl, sym, ap, ◌∙◌, subst, arith}
use Rattle.std.proofs.lemmas.Option.{same_Some, slice_get_within}
use Rattle.ep_gen_code.specs.Growth.{AreDistinct, IsNowhere, IsTable, in_row}
use Rattle.ep_gen_code.specs.Instructions.{reference}
use Rattle.ep_gen_code.proofs.public.Pushed.{get_last}
use Rattle.ep_object.specs.declared.code.Reference.{Reference}
use Rattle.ep_meaning.proofs.public.Lists.{get_front}

pub length-named : (unit : List ℕ) (first n : ℕ) → length (in_row unit first n) ≡ n
length-named unit first zero = refl
length-named unit first (suc n) = length-append (in_row unit first n) (reference unit (first + n) ∷ []) ∙ omega (arith, length-named unit first n)

-- each stands at its place
pub named_at : (unit : List ℕ) (first n k : ℕ) → k < n → slice_get (in_row unit first n) k ≡ Some (reference unit (first + k))
named_at unit first zero k less = absurd (omega (arith, less))
named_at unit first (suc n) k less = by_place (λ h. named_at unit first n k h) (earlier k n (omega (arith, less)))
  where
    earlier : (k n : ℕ) → k < suc n → (k < n) ⊎ (k ≡ n)
    earlier zero zero h = inr refl
    earlier zero (suc n) h = inl (omega arith)
    earlier (suc k) zero h = absurd (omega (arith, h))
    earlier (suc k) (suc n) h = next (earlier k n (omega (arith, h)))
      where
        next : (k < n) ⊎ (k ≡ n) → (suc k < suc n) ⊎ (suc k ≡ suc n)
        next (inl p) = inl (omega (arith, p))
        next (inr p) = inr (ap suc p)

    by_place : (k < n → slice_get (in_row unit first n) k ≡ Some (reference unit (first + k))) → (k < n) ⊎ (k ≡ n) → slice_get (in_row unit first (suc n)) k ≡ Some (reference unit (first + k))
    by_place before (inl p) = get_front (in_row unit first n) (reference unit (first + n) ∷ []) k (reference unit (first + k)) (before p)
    by_place before (inr p) =
        let last : slice_get (in_row unit first (suc n)) (length (in_row unit first n)) ≡ Some (reference unit (first + n)) = get_last (in_row unit first n) (reference unit (first + n)) in
        subst (λ i. slice_get (in_row unit first (suc n)) i ≡ Some (reference unit (first + i))) {x = n} {y = k} (sym p)
        (subst (λ i. slice_get (in_row unit first (suc n)) i ≡ Some (reference unit (first + n))) (length-named unit first n) last)

-- and none stands twice
pub named_distinct : (unit : List ℕ) (first n : ℕ) → AreDistinct (in_row unit first n)
named_distinct unit first n = λ j k x p q.
    let within_j = subst (λ m. j < m) (length-named unit first n) (slice_get_within (in_row unit first n) j x p) in
    let within_k = subst (λ m. k < m) (length-named unit first n) (slice_get_within (in_row unit first n) k x q) in
    let one : reference unit (first + j) ≡ x = same_Some (reference unit (first + j)) x (sym (named_at unit first n j within_j) ∙ p) in
    let two : reference unit (first + k) ≡ x = same_Some (reference unit (first + k)) x (sym (named_at unit first n k within_k) ∙ q) in
    omega (arith, ap (λ (r : Reference). r.number) (one ∙ sym two))

-- the next one is none of them
pub named_new : (unit : List ℕ) (first n number : ℕ) (xs : List Reference) → xs ≡ in_row unit first n → number ≡ first + n → IsNowhere xs (reference unit number)
named_new unit first n number xs is at = λ k h.
    let there : slice_get (in_row unit first n) k ≡ Some (reference unit number) = subst (λ l. slice_get l k ≡ Some (reference unit number)) is h in
    let within : k < n = subst (λ m. k < m) (length-named unit first n) (slice_get_within (in_row unit first n) k (reference unit number) there) in
    let same : reference unit (first + k) ≡ reference unit number = same_Some (reference unit (first + k)) (reference unit number) (sym (named_at unit first n k within) ∙ there) in
    absurd (omega (arith, within, ap (λ (r : Reference). r.number) same, at))

-- one more behind the first ones, whose number fits a field
pub named_more : (unit : List ℕ) (first n number : ℕ) (xs ys : List Reference) → xs ≡ in_row unit first n → number ≡ first + n → number < 2 ^ 32 - 1
    → ys ≡ xs ++ reference unit number ∷ [] → (ys ≡ in_row unit first (n + 1)) × IsTable ys
named_more unit first n number xs ys old is fits pushed =
    let grown : ys ≡ in_row unit first (suc n) = pushed ∙ (ap (λ l. l ++ reference unit number ∷ []) old ∙ ap (λ k. in_row unit first n ++ reference unit k ∷ []) is) in
    (grown ∙ ap (in_row unit first) {x = suc n} {y = n + 1} (omega arith), omega (arith, ap length grown, length-named unit first (suc n), is, fits))
