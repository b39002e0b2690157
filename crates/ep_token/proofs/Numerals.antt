-- The value of digits, digit by digit.
use Rattle.std.proofs.Common.{◌≡◌, ℕ, ◌+◌, ◌*◌, ◌<◌, ◌≤◌, true, false, cond, nat_lt, nat_le, ◌&&◌, List, [], ◌∷◌, length, drop, get_or, Option, Some, None, refl, arith}
use Rattle.std.proofs.Math.Nat.{mul-le-mul_left}
use Rattle.std.specs.Prelude.{fold}
use Rattle.std.specs.List.{list_all}
use Rattle.std.proofs.lemmas.Bool.Decides.{nat_tests}
use Rattle.ep_token.specs.Numbers.{maxint, digit_value, is_digit_of}
use Rattle.ep_token.specs.Reading.{numeral, appended}
use Rattle.ep_token.proofs.Steps.{drop-at, drop-end, and-false}

-- the value of digits with more behind them
abbrev pub value_from : ℕ → ℕ → List ℕ → ℕ
value_from radix value digits = fold (λ value b. value * radix + digit_value b) value digits

unfoldable pub numeral_from : ℕ → ℕ → List ℕ → Option ℕ
numeral_from radix value digits = cond (list_all (is_digit_of radix) digits && nat_le (value_from radix value digits) maxint) (Some (value_from radix value digits)) None

pub numeral-from : (radix : ℕ) (digits : List ℕ) → 0 < length digits → numeral_from radix 0 digits ≡ numeral radix digits
unfolding numeral_from numeral
numeral-from radix [] h = absurd (omega arith)
numeral-from radix (b ∷ bs) h = refl

pub numeral-none : (radix : ℕ) (digits : List ℕ) → length digits ≡ 0 → numeral radix digits ≡ None
unfolding numeral
numeral-none radix [] h = refl
numeral-none radix (b ∷ bs) h = absurd (omega arith)

pub numeral_from-digit : (radix v n b : ℕ) (bs : List ℕ) → digit_value b < radix → v * radix + digit_value b ≡ n → numeral_from radix v (b ∷ bs) ≡ numeral_from radix n bs
unfolding numeral_from
numeral_from-digit radix v n b bs h e = let t : nat_lt (digit_value b) radix ≡ true = grind (arith, nat_tests) in rw (t, e) refl

pub numeral_from-other : (radix v b : ℕ) (bs : List ℕ) → radix ≤ digit_value b → numeral_from radix v (b ∷ bs) ≡ None
unfolding numeral_from
numeral_from-other radix v b bs h = let t : nat_lt (digit_value b) radix ≡ false = grind (arith, nat_tests) in rw t refl

-- digits that follow don't make a value less
pub value_from-least : (radix v : ℕ) (bs : List ℕ) → 1 ≤ radix → v ≤ value_from radix v bs
value_from-least radix v [] h = omega arith
value_from-least radix v (b ∷ bs) h =
    let more = value_from-least radix (v * radix + digit_value b) bs h in
    omega (arith, more, mul-le-mul_left v h)

pub numeral_from-great : (radix v : ℕ) (bs : List ℕ) → 1 ≤ radix → maxint < v → numeral_from radix v bs ≡ None
unfolding numeral_from
numeral_from-great radix v bs h g =
    let least = value_from-least radix v bs h in
    let t : nat_le (value_from radix v bs) maxint ≡ false = grind (arith, nat_tests) in
    rw (t, and-false (list_all (is_digit_of radix) bs)) refl

pub numeral_from-nil : (radix v : ℕ) → v ≤ maxint → numeral_from radix v [] ≡ Some v
unfolding numeral_from
numeral_from-nil radix v h = let t : nat_le v maxint ≡ true = grind (arith, nat_tests) in rw t refl

appended-some : (radix v d n : ℕ) → appended radix v d ≡ Some n → (v * radix + d ≡ n) × (n ≤ maxint)
appended-some radix v d n e = grind (arith, nat_tests)

appended-none : (radix v d : ℕ) → appended radix v d ≡ None → maxint < v * radix + d
appended-none radix v d e = grind (arith, nat_tests)

pub appended-fits : (radix v d n : ℕ) → appended radix v d ≡ Some n → n ≤ maxint
appended-fits radix v d n e = (appended-some radix v d n e).1

pub numeral_at-digit : (radix v n : ℕ) (s : List ℕ) (i : ℕ) → i < length s → digit_value (get_or s i 0) < radix → appended radix v (digit_value (get_or s i 0)) ≡ Some n → numeral_from radix v (drop i s) ≡ numeral_from radix n (drop (i + 1) s)
numeral_at-digit radix v n s i h p e = rw (drop-at s i h) (numeral_from-digit radix v n _ _ p (appended-some radix v _ n e).0)

pub numeral_at-other : (radix v : ℕ) (s : List ℕ) (i : ℕ) → i < length s → radix ≤ digit_value (get_or s i 0) → numeral_from radix v (drop i s) ≡ None
numeral_at-other radix v s i h p = rw (drop-at s i h) (numeral_from-other radix v _ _ p)

pub numeral_at-great : (radix v : ℕ) (s : List ℕ) (i : ℕ) → i < length s → 2 ≤ radix → digit_value (get_or s i 0) < radix → appended radix v (digit_value (get_or s i 0)) ≡ None → numeral_from radix v (drop i s) ≡ None
numeral_at-great radix v s i h r p e =
    rw (drop-at s i h, numeral_from-digit radix v _ (get_or s i 0) (drop (i + 1) s) p refl) (numeral_from-great radix _ _ (omega arith) (appended-none radix v _ e))

pub numeral_at-end : (radix v : ℕ) (s : List ℕ) (i : ℕ) → length s ≤ i → v ≤ maxint → numeral_from radix v (drop i s) ≡ Some v
numeral_at-end radix v s i h p = rw (drop-end s i h) (numeral_from-nil radix v p)

pub ruleset walk = (numeral-from, numeral-none, appended-fits, numeral_at-digit, numeral_at-other, numeral_at-great, numeral_at-end)
