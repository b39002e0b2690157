-- Indexes that follow one another.
use Rattle.std.proofs.Common.{◌≡◌, ℕ, ℤ, pos, negsuc, zero, suc, ◌+◌, ◌-◌, ◌<◌, Bool, true, false, cond, leb, ltb, IsTrue, Some, None, refl, ap, ◌∙◌, arith}
use Rattle.std.proofs.lemmas.Bool.Decides.{nat_tests}
use Rattle.std.proofs.lemmas.Bool.{lt-ltb}
use Rattle.std.proofs.lemmas.Option.{same_Some}
use Rattle.std.specs.Prelude.{◌+ℤ◌, int_le, int_lt, neg_ℤ}
use Rattle.ep_values.specs.Bounds.{below, component_at, count_of, gap, one_more}
use Rattle.ep_simulation.proofs.public.matching.Standing.{both, int_le-trans}
use Rattle.ep_values.specs.Operations.{is_integer, maxint}

-- what a test finds
found : (b : Bool) (n m : ℕ) → cond b (Some n) None ≡ Some m → (b ≡ true) × (n ≡ m)
found true n m h = (refl, same_Some n m h)
found false n m h = cc

-- the number after one below -1
after_negative : (b : ℕ) → negsuc (suc b) +ℤ pos 1 ≡ negsuc b
after_negative b = let less : ltb 1 (suc (suc b)) ≡ true = grind (arith, nat_tests) in rw less (ap negsuc {x = suc (suc b) - 2} {y = b} (omega arith))

-- the next index is one further from a bound below it
pub gap_next : (low z : ℤ) (i : ℕ) → gap low z ≡ Some i → gap low (z +ℤ pos 1) ≡ Some (suc i)
gap_next (pos a) (pos b) i h =
    let x = found (leb a b) (b - a) i h in
    let within : leb a (b + 1) ≡ true = grind (arith, nat_tests, x.0) in
    let far : b + 1 - a ≡ suc i = grind (arith, nat_tests, x.0, x.1) in
    rw (within, far) refl
gap_next (pos a) (negsuc b) i h = cc
gap_next (negsuc a) (pos b) i h =
    let far : suc a + b ≡ i = same_Some (suc a + b) i h in
    ap (λ n. Some n) {x = suc a + (b + 1)} {y = suc i} (omega (arith, far))
gap_next (negsuc a) (negsuc zero) i h =
    let x = found (leb 0 a) (a - 0) i h in
    ap (λ n. Some n) {x = suc a + 0} {y = suc i} (omega (arith, x.1))
gap_next (negsuc a) (negsuc (suc b)) i h =
    let x = found (leb (suc b) a) (a - suc b) i h in
    let within : leb b a ≡ true = grind (arith, nat_tests, x.0) in
    let far : a - b ≡ suc i = grind (arith, nat_tests, x.0, x.1) in
    ap (gap (negsuc a)) (after_negative b) ∙ rw (within, far) refl

-- and one nearer to one above it
pub gap_nearer : (z high : ℤ) (n : ℕ) → gap z high ≡ Some (suc n) → gap (z +ℤ pos 1) high ≡ Some n
gap_nearer (pos a) (pos b) n h =
    let x = found (leb a b) (b - a) (suc n) h in
    let within : leb (a + 1) b ≡ true = grind (arith, nat_tests, x.0, x.1) in
    let far : b - (a + 1) ≡ n = grind (arith, nat_tests, x.0, x.1) in
    rw (within, far) refl
gap_nearer (pos a) (negsuc b) n h = cc
gap_nearer (negsuc zero) (pos b) n h =
    let far : suc zero + b ≡ suc n = same_Some (suc zero + b) (suc n) h in
    let within : leb 0 b ≡ true = grind (arith, nat_tests) in
    rw within (ap (λ k. Some k) {x = b - 0} {y = n} (omega (arith, far)))
gap_nearer (negsuc (suc a)) (pos b) n h =
    let far : suc (suc a) + b ≡ suc n = same_Some (suc (suc a) + b) (suc n) h in
    ap (λ y. gap y (pos b)) (after_negative a) ∙ ap (λ k. Some k) {x = suc a + b} {y = n} (omega (arith, far))
gap_nearer (negsuc zero) (negsuc b) n h =
    let x = found (leb b 0) (0 - b) (suc n) h in
    absurd (omega (arith, x.1))
gap_nearer (negsuc (suc a)) (negsuc b) n h =
    let x = found (leb b (suc a)) (suc a - b) (suc n) h in
    let within : leb b a ≡ true = grind (arith, nat_tests, x.0, x.1) in
    let far : a - b ≡ n = grind (arith, nat_tests, x.0, x.1) in
    ap (λ y. gap y (negsuc b)) (after_negative a) ∙ rw (within, far) refl

-- an index is less than one that is further
pub gap_less : (z high : ℤ) (n : ℕ) → gap z high ≡ Some (suc n) → int_lt z high ≡ true
gap_less (pos a) (pos b) n h = let x = found (leb a b) (b - a) (suc n) h in grind (arith, nat_tests, x.0, x.1)
gap_less (pos a) (negsuc b) n h = cc
gap_less (negsuc a) (pos b) n h = refl
gap_less (negsuc a) (negsuc b) n h = let x = found (leb b a) (a - b) (suc n) h in grind (arith, nat_tests, x.0, x.1)

-- and not less than itself
pub gap_same : (z high : ℤ) → gap z high ≡ Some 0 → int_lt z high ≡ false
gap_same (pos a) (pos b) h = let x = found (leb a b) (b - a) 0 h in grind (arith, nat_tests, x.0, x.1)
gap_same (pos a) (negsuc b) h = cc
gap_same (negsuc a) (pos b) h = absurd (omega (arith, same_Some (suc a + b) 0 h))
gap_same (negsuc a) (negsuc b) h = let x = found (leb b a) (a - b) 0 h in grind (arith, nat_tests, x.0, x.1)

-- the next index is an integer where one behind an integer is
pub integer_next : (z high : ℤ) (n : ℕ) → gap z high ≡ Some (suc n) → IsTrue (is_integer z) → IsTrue (is_integer high) → is_integer (z +ℤ pos 1) ≡ true
integer_next (pos a) (pos b) n h first last =
    let x = found (leb a b) (b - a) (suc n) h in
    grind (arith, nat_tests, x.0, x.1, last)
integer_next (pos a) (negsuc b) n h first last = cc
integer_next (negsuc zero) high n h first last = refl
integer_next (negsuc (suc a)) high n h first last = ap is_integer (after_negative a) ∙ grind (arith, nat_tests, first)

-- ---- components

-- an index that is so far above the low bound is that of the component with this number, where there is one
pub component_far : (low high z : ℤ) (i : ℕ) → gap low z ≡ Some i → i < count_of low high → component_at low high z ≡ Some i
component_far low high z i far within = ap (below (count_of low high)) far ∙ rw (lt-ltb i (count_of low high) within) refl

-- the distance from a bound to one that is not below it
pub gap_there : (low high : ℤ) → IsTrue (int_le low high) → (n : ℕ) × (gap low high ≡ Some n)
gap_there (pos a) (pos b) h = let within : leb a b ≡ true = grind (arith, nat_tests, h) in (b - a, rw within refl)
gap_there (pos a) (negsuc b) h = cc
gap_there (negsuc a) (pos b) h = (suc a + b, refl)
gap_there (negsuc a) (negsuc b) h = let within : leb b a ≡ true = grind (arith, nat_tests, h) in (a - b, rw within refl)

-- the distances to an index and from there on to another one are together that to the other one
pub gap_sum : (low z high : ℤ) (i n : ℕ) → gap low z ≡ Some i → gap z high ≡ Some n → gap low high ≡ Some (i + n)
gap_sum (pos a) (pos b) (pos c) i n h k =
    let x = found (leb a b) (b - a) i h in
    let y = found (leb b c) (c - b) n k in
    let within : leb a c ≡ true = grind (arith, nat_tests, x.0, y.0) in
    let far : c - a ≡ i + n = grind (arith, nat_tests, x.0, x.1, y.0, y.1) in
    rw (within, far) refl
gap_sum (pos a) (pos b) (negsuc c) i n h k = cc
gap_sum (pos a) (negsuc b) high i n h k = cc
gap_sum (negsuc a) (pos b) (pos c) i n h k =
    let y = found (leb b c) (c - b) n k in
    let near : suc a + b ≡ i = same_Some (suc a + b) i h in
    let far : suc a + c ≡ i + n = grind (arith, nat_tests, near, y.0, y.1) in
    ap (λ m. Some m) far
gap_sum (negsuc a) (pos b) (negsuc c) i n h k = cc
gap_sum (negsuc a) (negsuc b) (pos c) i n h k =
    let x = found (leb b a) (a - b) i h in
    let near : suc b + c ≡ n = same_Some (suc b + c) n k in
    let far : suc a + c ≡ i + n = grind (arith, nat_tests, near, x.0, x.1) in
    ap (λ m. Some m) far
gap_sum (negsuc a) (negsuc b) (negsuc c) i n h k =
    let x = found (leb b a) (a - b) i h in
    let y = found (leb c b) (b - c) n k in
    let within : leb c a ≡ true = grind (arith, nat_tests, x.0, y.0) in
    let far : a - c ≡ i + n = grind (arith, nat_tests, x.0, x.1, y.0, y.1) in
    rw (within, far) refl

-- ---- ranges

-- Where a range lies within bounds, its first index is so far above the low one and its last one so far above that, and both are
-- components.
pub range_inside : (low high first last : ℤ) → IsTrue (int_le low first) → IsTrue (int_le first last) → IsTrue (int_le last high)
    → (b left : ℕ) × (gap low first ≡ Some b) × (gap first last ≡ Some left) × (b + left < count_of low high)
range_inside low high first last p q r =
    let x = gap_there low first p in
    let y = gap_there first last q in
    let z = gap_there last high r in
    let all : gap low high ≡ Some (x.0 + y.0 + z.0) = gap_sum low last high (x.0 + y.0) z.0 (gap_sum low first last x.0 y.0 x.1 y.1) z.1 in
    (x.0, y.0, x.1, y.1, omega (arith, ap one_more all))

-- an index between integers is one
pub integer_between : (low high z : ℤ) → IsTrue (is_integer low) → IsTrue (is_integer high) → IsTrue (int_le low z) → IsTrue (int_le z high) → IsTrue (is_integer z)
integer_between low high z small large above_low below_high =
    let p = both (int_le (neg_ℤ (pos maxint)) low) (int_le low (pos maxint)) small in
    let q = both (int_le (neg_ℤ (pos maxint)) high) (int_le high (pos maxint)) large in
    rw (int_le-trans (neg_ℤ (pos maxint)) low z p.0 above_low, int_le-trans z high (pos maxint) below_high q.1) refl
