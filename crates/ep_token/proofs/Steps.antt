-- One byte of a list behind another.
use Rattle.std.proofs.Common.{◌≡◌, ℕ, ◌+◌, ◌<◌, ◌≤◌, Bool, true, false, ◌&&◌, ◌||◌, ◌⊎◌, inl, inr, List, [], ◌∷◌, length, take, drop, get_or, refl, add-one, drop-cons, arith}
use Rattle.std.proofs.lemmas.Grind.{common_steps}

pub drop-at : (s : List ℕ) (i : ℕ) → i < length s → drop i s ≡ get_or s i 0 ∷ drop (i + 1) s
drop-at s i h = rw (add-one, drop-cons s i 0) refl

pub drop-end : (s : List ℕ) (i : ℕ) → length s ≤ i → drop i s ≡ []
drop-end s i h = grind (arith, common_steps)

pub truth : (b : Bool) → (b ≡ true) ⊎ (b ≡ false)
truth true = inl refl
truth false = inr refl

pub and-false : (b : Bool) → (b && false) ≡ false
and-false true = refl
and-false false = refl

pub or-true : (b : Bool) → (b || true) ≡ true
or-true true = refl
or-true false = refl

-- both parts of a test that holds
pub and-parts : (a b : Bool) → (a && b) ≡ true → (a ≡ true) × (b ≡ true)
and-parts true b h = (refl, h)
and-parts false b h = absurd cc

pub drop-add : (n m : ℕ) (l : List ℕ) → drop m (drop n l) ≡ drop (n + m) l
drop-add n m l = grind (arith, common_steps)

pub length-take-most : (n : ℕ) (l : List ℕ) → length (take n l) ≤ length l
length-take-most n l = grind (arith, common_steps)
