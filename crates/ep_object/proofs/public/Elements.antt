-- Elements of lists that grow at the end, and of lists of which one element is replaced.
use Rattle.std.proofs.Common.{◌≡◌, ◌≢◌, ℕ, zero, suc, List, [], ◌∷◌, ◌++◌, length, drop, Some, option_map, slice_get, slice_set, ◌⊎◌, inl, inr, refl, ap, ◌∙◌, ◌+◌, arith}
use Rattle.std.proofs.lemmas.Grind.{common_steps}

-- an element of a longer list is one of the list, or the new one
pub slice_get-push : {A : Type 0} (xs : List A) (x y : A) (i : ℕ) → slice_get (xs ++ x ∷ []) i ≡ Some y
    → (slice_get xs i ≡ Some y) ⊎ ((i ≡ length xs) × (y ≡ x))
slice_get-push [] x y zero h = inr (refl, cc)
slice_get-push [] x y (suc i) h = inl h
slice_get-push (z ∷ xs) x y zero h = inl h
slice_get-push (z ∷ xs) x y (suc i) h = elim (slice_get-push xs x y i h) [ inl k ↦ inl k | inr k ↦ inr (ap suc k.0, k.1) ]

-- and so is what is told of it
pub mapped-push : {A B : Type 0} (f : A → B) (xs : List A) (x : A) (y : B) (i : ℕ)
    → option_map f (slice_get (xs ++ x ∷ []) i) ≡ Some y
    → (option_map f (slice_get xs i) ≡ Some y) ⊎ ((i ≡ length xs) × (y ≡ f x))
mapped-push f [] x y zero h = inr (refl, cc)
mapped-push f [] x y (suc i) h = inl h
mapped-push f (z ∷ xs) x y zero h = inl h
mapped-push f (z ∷ xs) x y (suc i) h = elim (mapped-push f xs x y i h) [ inl k ↦ inl k | inr k ↦ inr (ap suc k.0, k.1) ]

-- the new element stands behind the others
pub slice_get-pushed : {A : Type 0} (xs : List A) (x : A) → slice_get (xs ++ x ∷ []) (length xs) ≡ Some x
slice_get-pushed [] x = refl
slice_get-pushed (z ∷ xs) x = slice_get-pushed xs x

-- the element that is put in a place stands there
pub slice_get-set-same : {A : Type 0} (xs : List A) (i : ℕ) (x y : A) → slice_get xs i ≡ Some y
    → slice_get (slice_set xs i x) i ≡ Some x
slice_get-set-same [] i x y h = cc
slice_get-set-same (z ∷ xs) zero x y h = refl
slice_get-set-same (z ∷ xs) (suc i) x y h = slice_get-set-same xs i x y h

-- and the others stay
pub slice_get-set-other : {A : Type 0} (xs : List A) (i j : ℕ) (x : A) → i ≢ j
    → slice_get (slice_set xs i x) j ≡ slice_get xs j
slice_get-set-other [] i j x n = refl
slice_get-set-other (z ∷ xs) zero zero x n = absurd (n refl)
slice_get-set-other (z ∷ xs) zero (suc j) x n = refl
slice_get-set-other (z ∷ xs) (suc i) zero x n = refl
slice_get-set-other (z ∷ xs) (suc i) (suc j) x n = slice_get-set-other xs i j x (λ e. n (ap suc e))

pub length-set : {A : Type 0} (xs : List A) (i : ℕ) (x : A) → length (slice_set xs i x) ≡ length xs
length-set xs i x = grind (arith, common_steps)

-- what is behind the first elements
pub slice_get-drop : {A : Type 0} (xs : List A) (n k : ℕ) → slice_get (drop n xs) k ≡ slice_get xs (n + k)
slice_get-drop xs zero k = ap (λ i. slice_get xs i) {x = k} {y = 0 + k} (omega arith)
slice_get-drop [] (suc n) k = refl
slice_get-drop (x ∷ xs) (suc n) k = slice_get-drop xs n k ∙ ap (λ i. slice_get (x ∷ xs) i) {x = suc (n + k)} {y = suc n + k} (omega arith)
