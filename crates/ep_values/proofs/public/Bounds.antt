-- How many numbers are within bounds, by how far the second bound is above the first.
use Rattle.std.proofs.Common.{◌≡◌, ℕ, ℤ, pos, negsuc, zero, suc, ◌+◌, ◌-◌, ◌-ℤ◌, Some, None, true, false, cond, leb}
use Rattle.std.proofs.Common.{ltb, int_le, unsigned_abs, refl, sym, ap, ◌∙◌, rules, arith}
use Rattle.ep_values.specs.Bounds.{gap, count_of}

-- how far a number is above another one
abs_from : (a b : ℕ) → leb b a ≡ true → unsigned_abs (cond (ltb a b) (negsuc (b - suc a)) (pos (a - b))) ≡ a - b
abs_from a b le =
    let no : ltb a b ≡ false = search rules in rw no refl

-- the gap is the absolute difference, where the second number is not below
pub gap_is : (low high : ℤ) → int_le low high ≡ true → gap low high ≡ Some (unsigned_abs (high -ℤ low))
gap_is (pos zero) (pos b) le =
    let e : b - zero ≡ b + zero = omega arith in rw le (ap Some e)
gap_is (pos (suc a)) (pos b) le = rw le (ap Some (sym (abs_from b (suc a) le)))
gap_is (pos zero) (negsuc b) le = cc
gap_is (pos (suc a)) (negsuc b) le = cc
gap_is (negsuc a) (pos b) le =
    let e : suc a + b ≡ b + suc a = omega arith in ap Some e
gap_is (negsuc a) (negsuc b) le =
    let more : leb (suc b) (suc a) ≡ true = search rules in
    let e : a - b ≡ suc a - suc b = omega arith in
    rw le (ap Some (e ∙ sym (abs_from (suc a) (suc b) more)))

-- and there is none where it is
pub no_gap : (low high : ℤ) → int_le low high ≡ false → gap low high ≡ None
no_gap (pos a) (pos b) le = rw le refl
no_gap (pos a) (negsuc b) le = refl
no_gap (negsuc a) (pos b) le = cc
no_gap (negsuc a) (negsuc b) le = rw le refl

-- how many numbers there are within bounds
pub count_within : (low high : ℤ) → int_le low high ≡ true → count_of low high ≡ suc (unsigned_abs (high -ℤ low))
count_within low high le = rw (gap_is low high le) refl

-- and that there are none where the second one is below the first
pub count_without : (low high : ℤ) → int_le low high ≡ false → count_of low high ≡ 0
count_without low high not = rw (no_gap low high not) refl
