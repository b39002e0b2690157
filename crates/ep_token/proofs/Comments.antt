-- The walk over a comment, byte by byte.
use Rattle.std.proofs.Common.{◌≡◌, ◌≢◌, ℕ, ◌+◌, ◌<◌, ◌≤◌, Bool, true, false, ◌==◌, List, ◌∷◌, length, drop, get_or, Some, None, refl, arith}
use Rattle.std.proofs.lemmas.Bool.Decides.{nat_tests}
use Rattle.ep_token.specs.Reading.{comment_end}
use Rattle.ep_token.proofs.Steps.{drop-at, drop-end, and-false, or-true}

pub comment_end-brace : (a : Bool) (i b : ℕ) (bs : List ℕ) → (b == 125) ≡ true → comment_end a i (b ∷ bs) ≡ Some (i + 1)
unfolding comment_end
comment_end-brace a i b bs h = rw h refl

pub comment_end-star : (i b : ℕ) (bs : List ℕ) → (b == 41) ≡ true → comment_end true i (b ∷ bs) ≡ Some (i + 1)
unfolding comment_end
comment_end-star i b bs h = rw (h, or-true (b == 125)) refl

pub comment_end-other : (a : Bool) (i b : ℕ) (bs : List ℕ) → (b == 125) ≡ false → (b == 41) ≡ false → comment_end a i (b ∷ bs) ≡ comment_end (b == 42) (i + 1) bs
unfolding comment_end
comment_end-other a i b bs h p = rw (h, p) refl

pub comment_end-plain : (i b : ℕ) (bs : List ℕ) → (b == 125) ≡ false → comment_end false i (b ∷ bs) ≡ comment_end (b == 42) (i + 1) bs
unfolding comment_end
comment_end-plain i b bs h = rw (and-false (b == 41), h) refl

pub comment_at-brace : (a : Bool) (s : List ℕ) (i : ℕ) → i < length s → get_or s i 0 ≡ 125 → comment_end a i (drop i s) ≡ Some (i + 1)
comment_at-brace a s i h p = rw (drop-at s i h) (comment_end-brace a i _ _ (grind (arith, nat_tests)))

pub comment_at-star : (s : List ℕ) (i : ℕ) → i < length s → get_or s i 0 ≡ 41 → comment_end true i (drop i s) ≡ Some (i + 1)
comment_at-star s i h p = rw (drop-at s i h) (comment_end-star i _ _ (grind (arith, nat_tests)))

pub comment_at-other : (a : Bool) (s : List ℕ) (i : ℕ) → i < length s → get_or s i 0 ≢ 125 → get_or s i 0 ≢ 41 → comment_end a i (drop i s) ≡ comment_end (get_or s i 0 == 42) (i + 1) (drop (i + 1) s)
comment_at-other a s i h p q = rw (drop-at s i h) (comment_end-other a i _ _ (grind (arith, nat_tests)) (grind (arith, nat_tests)))

pub comment_at-plain : (s : List ℕ) (i : ℕ) → i < length s → get_or s i 0 ≢ 125 → comment_end false i (drop i s) ≡ comment_end (get_or s i 0 == 42) (i + 1) (drop (i + 1) s)
comment_at-plain s i h p = rw (drop-at s i h) (comment_end-plain i _ _ (grind (arith, nat_tests)))

pub comment_at-end : (a : Bool) (s : List ℕ) (i : ℕ) → length s ≤ i → comment_end a i (drop i s) ≡ None
unfolding comment_end
comment_at-end a s i h = rw (drop-end s i h) refl

pub ruleset walk = (comment_at-brace, comment_at-star, comment_at-other, comment_at-plain, comment_at-end)
