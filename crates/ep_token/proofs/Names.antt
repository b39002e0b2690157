-- The walk over an identifier, byte by byte.
use Rattle.std.proofs.Common.{◌≡◌, ◌≢◌, ℕ, ◌+◌, ◌<◌, ◌≤◌, Bool, true, false, ◌==◌, List, ◌∷◌, length, drop, get_or, refl, arith}
use Rattle.std.proofs.lemmas.Bool.Decides.{nat_tests}
use Rattle.std.specs.Char.{is_ascii_alphanumeric}
use Rattle.ep_token.specs.Reading.{name_end}
use Rattle.ep_token.proofs.Steps.{drop-at, drop-end, and-false}

-- the cases of a first byte
pub name_end-letter : (u : Bool) (e i b : ℕ) (bs : List ℕ) → is_ascii_alphanumeric b ≡ true → name_end u e i (b ∷ bs) ≡ name_end false (i + 1) (i + 1) bs
unfolding name_end
name_end-letter u e i b bs h = rw h refl

pub name_end-underscore : (e i b : ℕ) (bs : List ℕ) → is_ascii_alphanumeric b ≡ false → (b == 95) ≡ true → name_end false e i (b ∷ bs) ≡ name_end true e (i + 1) bs
unfolding name_end
name_end-underscore e i b bs h p = rw (h, p) refl

pub name_end-other : (u : Bool) (e i b : ℕ) (bs : List ℕ) → is_ascii_alphanumeric b ≡ false → (b == 95) ≡ false → name_end u e i (b ∷ bs) ≡ e
unfolding name_end
name_end-other u e i b bs h p = rw (h, p) refl

pub name_end-second : (e i b : ℕ) (bs : List ℕ) → is_ascii_alphanumeric b ≡ false → name_end true e i (b ∷ bs) ≡ e
unfolding name_end
name_end-second e i b bs h = rw (h, and-false (b == 95)) refl

-- the same at an index
pub name_at-letter : (u : Bool) (e : ℕ) (s : List ℕ) (i : ℕ) → i < length s → is_ascii_alphanumeric (get_or s i 0) ≡ true → name_end u e i (drop i s) ≡ name_end false (i + 1) (i + 1) (drop (i + 1) s)
name_at-letter u e s i h p = rw (drop-at s i h) (name_end-letter u e i _ _ p)

pub name_at-underscore : (e : ℕ) (s : List ℕ) (i : ℕ) → i < length s → is_ascii_alphanumeric (get_or s i 0) ≡ false → get_or s i 0 ≡ 95 → name_end false e i (drop i s) ≡ name_end true e (i + 1) (drop (i + 1) s)
name_at-underscore e s i h p q = rw (drop-at s i h) (name_end-underscore e i _ _ p (grind (arith, nat_tests)))

pub name_at-other : (u : Bool) (e : ℕ) (s : List ℕ) (i : ℕ) → i < length s → is_ascii_alphanumeric (get_or s i 0) ≡ false → get_or s i 0 ≢ 95 → name_end u e i (drop i s) ≡ e
name_at-other u e s i h p q = rw (drop-at s i h) (name_end-other u e i _ _ p (grind (arith, nat_tests)))

pub name_at-second : (e : ℕ) (s : List ℕ) (i : ℕ) → i < length s → is_ascii_alphanumeric (get_or s i 0) ≡ false → name_end true e i (drop i s) ≡ e
name_at-second e s i h p = rw (drop-at s i h) (name_end-second e i _ _ p)

pub name_at-end : (u : Bool) (e : ℕ) (s : List ℕ) (i : ℕ) → length s ≤ i → name_end u e i (drop i s) ≡ e
unfolding name_end
name_at-end u e s i h = rw (drop-end s i h) refl

pub ruleset walk = (name_at-letter, name_at-underscore, name_at-other, name_at-second, name_at-end)
