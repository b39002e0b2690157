-- What lists have at their places.
use Rattle.std.proofs.Common.{◌≡◌, ◌∙◌, ℕ, zero, suc, ◌+◌, ◌<◌, List, [], ◌∷◌, ◌++◌, length, Some, slice_get, refl, ap, arith}

-- what a list has, a longer one has there too
pub get_front : {A : Type 0} (xs ys : List A) (k : ℕ) (x : A) → slice_get xs k ≡ Some x → slice_get (xs ++ ys) k ≡ Some x
get_front [] ys k x h = cc
get_front (z ∷ zs) ys zero x h = h
get_front (z ∷ zs) ys (suc k) x h = get_front zs ys k x h

-- what stands behind a list
pub get_behind : {A : Type 0} (xs ys : List A) (k : ℕ) → slice_get (xs ++ ys) (length xs + k) ≡ slice_get ys k
get_behind [] ys k = ap (slice_get ys) {x = 0 + k} {y = k} (omega arith)
get_behind (x ∷ xs) ys k = ap (slice_get (x ∷ (xs ++ ys))) {x = suc (length xs) + k} {y = suc (length xs + k)} (omega arith) ∙ get_behind xs ys k

-- at each place of a list is something
pub get_within : {A : Type 0} (xs : List A) (k : ℕ) → k < length xs → (x : A) × (slice_get xs k ≡ Some x)
get_within [] k less = absurd (omega (arith, less))
get_within (x ∷ xs) zero less = (x, refl)
get_within (x ∷ xs) (suc k) less = get_within xs k (omega (arith, less))
