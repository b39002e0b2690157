-- The rest of an identifier, read from the left with a mark of an underscore that was just read.
use Rattle.std.proofs.Common.{◌≡◌, ◌≢◌, ℕ, suc, Bool, true, false, ◌==◌, List, [], ◌∷◌, ◌+◌, ◌<◌, length, drop, get_or, refl, ap, add-one, drop-cons, arith}
use Rattle.std.proofs.lemmas.Bool.Decides.{nat_tests}
use Rattle.std.specs.Char.{is_ascii_alphanumeric}
use Rattle.ep_base.specs.Identifiers.{is_identifier_rest, underscore}

-- what is left may go on, after an underscore or not
abbrev pub goes_on : Bool → List ℕ → Bool
goes_on true xs = is_identifier_rest (underscore ∷ xs)
goes_on false xs = is_identifier_rest xs

pub goes_on-letter : (u : Bool) (c : ℕ) (cs : List ℕ) → is_ascii_alphanumeric c ≡ true → goes_on u (c ∷ cs) ≡ goes_on false cs
goes_on-letter true c cs h = rw h refl
goes_on-letter false c [] h = h
goes_on-letter false c (d ∷ ds) h = rw h refl

pub goes_on-underscore : (c : ℕ) (cs : List ℕ) → c ≡ underscore → goes_on false (c ∷ cs) ≡ goes_on true cs
goes_on-underscore c cs e = ap (λ x. is_identifier_rest (x ∷ cs)) e

pub goes_on-after : (c : ℕ) (cs : List ℕ) → is_ascii_alphanumeric c ≡ false → goes_on true (c ∷ cs) ≡ false
goes_on-after c cs h = rw h refl

pub goes_on-other : (c : ℕ) (cs : List ℕ) → is_ascii_alphanumeric c ≡ false → (c == underscore) ≡ false → goes_on false (c ∷ cs) ≡ false
goes_on-other c [] h e = h
goes_on-other c (d ∷ ds) h e = rw (h, e) refl

-- the steps of a walk over the rest, byte by byte
pub goes_on_at-letter : (u : Bool) (s : List ℕ) (i : ℕ) → i < length s → is_ascii_alphanumeric (get_or s i 0) ≡ true → goes_on u (drop i s) ≡ goes_on false (drop (i + 1) s)
goes_on_at-letter u s i h p = rw (add-one, drop-cons s i 0) (goes_on-letter u _ _ p)

pub goes_on_at-underscore : (s : List ℕ) (i : ℕ) → i < length s → get_or s i 0 ≡ underscore → goes_on false (drop i s) ≡ goes_on true (drop (i + 1) s)
goes_on_at-underscore s i h p = rw (add-one, drop-cons s i 0) (goes_on-underscore _ _ p)

pub goes_on_at-after : (s : List ℕ) (i : ℕ) → i < length s → is_ascii_alphanumeric (get_or s i 0) ≡ false → goes_on true (drop i s) ≡ false
goes_on_at-after s i h p = rw (drop-cons s i 0) (goes_on-after (get_or s i 0) (drop (suc i) s) p)

pub goes_on_at-other : (s : List ℕ) (i : ℕ) → i < length s → is_ascii_alphanumeric (get_or s i 0) ≡ false → get_or s i 0 ≢ underscore → goes_on false (drop i s) ≡ false
goes_on_at-other s i h p e = rw (drop-cons s i 0) (goes_on-other (get_or s i 0) (drop (suc i) s) p (grind (arith, nat_tests)))

pub ruleset walk = (goes_on_at-letter, goes_on_at-underscore, goes_on_at-after, goes_on_at-other)
