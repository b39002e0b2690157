-- The walk over a comment, byte by byte, and what stands where no token does.
use Rattle.std.proofs.Common.{◌≡◌, ◌≢◌, ℕ, ◌+◌, ◌<◌, ◌≤◌, Bool, true, false, ◌&&◌, ◌||◌, ◌==◌, List, [], ◌∷◌, length, drop, get_or, Some, None, refl, arith, add-one, drop-cons}
use Rattle.std.proofs.lemmas.Bool.Decides.{nat_tests}
use Rattle.std.proofs.lemmas.Grind.{common_steps}
use Rattle.ep_token.specs.Reading.{comment_end}

drop-at : (s : List ℕ) (i : ℕ) → i < length s → drop i s ≡ get_or s i 0 ∷ drop (i + 1) s
drop-at s i h = rw (add-one, drop-cons s i 0) refl

drop-end : (s : List ℕ) (i : ℕ) → length s ≤ i → drop i s ≡ []
drop-end s i h = grind (arith, common_steps)

and-false : (b : Bool) → (b && false) ≡ false
and-false true = refl
and-false false = refl

or-true : (b : Bool) → (b || true) ≡ true
or-true true = refl
or-true false = refl

brace : (a : Bool) (i b : ℕ) (bs : List ℕ) → (b == 125) ≡ true → comment_end a i (b ∷ bs) ≡ Some (i + 1)
unfolding comment_end
brace a i b bs h = rw h refl

star : (i b : ℕ) (bs : List ℕ) → (b == 41) ≡ true → comment_end true i (b ∷ bs) ≡ Some (i + 1)
unfolding comment_end
star i b bs h = rw (h, or-true (b == 125)) refl

other : (a : Bool) (i b : ℕ) (bs : List ℕ) → (b == 125) ≡ false → (b == 41) ≡ false → comment_end a i (b ∷ bs) ≡ comment_end (b == 42) (i + 1) bs
unfolding comment_end
other a i b bs h p = rw (h, p) refl

plain : (i b : ℕ) (bs : List ℕ) → (b == 125) ≡ false → comment_end false i (b ∷ bs) ≡ comment_end (b == 42) (i + 1) bs
unfolding comment_end
plain i b bs h = rw (and-false (b == 41), h) refl

pub brace-at : (a : Bool) (s : List ℕ) (i : ℕ) → i < length s → get_or s i 0 ≡ 125 → comment_end a i (drop i s) ≡ Some (i + 1)
brace-at a s i h p = rw (drop-at s i h) (brace a i _ _ (grind (arith, nat_tests)))

pub star-at : (s : List ℕ) (i : ℕ) → i < length s → get_or s i 0 ≡ 41 → comment_end true i (drop i s) ≡ Some (i + 1)
star-at s i h p = rw (drop-at s i h) (star i _ _ (grind (arith, nat_tests)))

pub other-at : (a : Bool) (s : List ℕ) (i : ℕ) → i < length s → get_or s i 0 ≢ 125 → get_or s i 0 ≢ 41 → comment_end a i (drop i s) ≡ comment_end (get_or s i 0 == 42) (i + 1) (drop (i + 1) s)
other-at a s i h p q = rw (drop-at s i h) (other a i _ _ (grind (arith, nat_tests)) (grind (arith, nat_tests)))

pub plain-at : (s : List ℕ) (i : ℕ) → i < length s → get_or s i 0 ≢ 125 → comment_end false i (drop i s) ≡ comment_end (get_or s i 0 == 42) (i + 1) (drop (i + 1) s)
plain-at s i h p = rw (drop-at s i h) (plain i _ _ (grind (arith, nat_tests)))

pub end-at : (a : Bool) (s : List ℕ) (i : ℕ) → length s ≤ i → comment_end a i (drop i s) ≡ None
unfolding comment_end
end-at a s i h = rw (drop-end s i h) refl

pub ruleset walk = (brace-at, star-at, other-at, plain-at, end-at)
