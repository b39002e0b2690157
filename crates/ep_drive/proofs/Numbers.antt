-- The number that digits spell, read from the left.
use Rattle.std.proofs.Common.{◌≡◌, ℕ, ◌+◌, ◌-◌, ◌*◌, ◌^◌, ◌<◌, ◌≤◌, true, false, nat_lt, List, [], ◌∷◌, length, drop, get_or, fold, Some, None, refl, sym, ◌∙◌, le_refl, add-one, drop-cons, drop_of_length-le, le-ltb, lt-ltb, arith}
use Rattle.ep_drive.specs.Numbers.{value_of, number_of}

-- the number that digits spell behind a number
abbrev pub value_from : ℕ → List ℕ → ℕ
value_from number digits = fold (λ number digit. 10 * number + (digit - 48)) number digits

-- more digits never make the number smaller
pub value_grows : (n : ℕ) (ds : List ℕ) → n ≤ value_from n ds
value_grows n [] = le_refl n
value_grows n (d ∷ ds) = omega (arith, value_grows (10 * n + (d - 48)) ds)

-- one more digit
pub value_step : (n : ℕ) (s : List ℕ) (i : ℕ) → i < length s → value_from n (drop i s) ≡ value_from (10 * n + (get_or s i 0 - 48)) (drop (i + 1) s)
value_step n s i h = rw (add-one, drop-cons s i 0) refl

-- a number above maxint stays above it
pub too_large : (n : ℕ) (s : List ℕ) (i : ℕ) → value_from n (drop i s) ≡ value_of s → 2 ^ 63 ≤ n → number_of s ≡ None
too_large n s i e h =
    let large : nat_lt (value_of s) (2 ^ 63) ≡ false = le-ltb _ _ (omega (arith, value_grows n (drop i s))) in
    rw large refl

-- and one above a tenth of it goes above it by one more digit
pub too_large_next : (n : ℕ) (s : List ℕ) (i : ℕ) → i < length s → value_from n (drop i s) ≡ value_of s → 922337203685477580 < n → number_of s ≡ None
too_large_next n s i lt e h = too_large (10 * n + (get_or s i 0 - 48)) s (i + 1) (sym (value_step n s i lt) ∙ e) (omega arith)

-- behind the last digit
pub value_end : (n : ℕ) (s : List ℕ) (i : ℕ) → length s ≤ i → value_from n (drop i s) ≡ value_of s → n < 2 ^ 63 → number_of s ≡ Some n
value_end n s i past e h =
    let whole : value_of s ≡ n = sym e ∙ rw (drop_of_length-le s past) refl in
    let small : nat_lt n (2 ^ 63) ≡ true = lt-ltb _ _ h in
    rw (whole, small) refl

pub ruleset digits = (value_step, too_large, too_large_next, value_end)
