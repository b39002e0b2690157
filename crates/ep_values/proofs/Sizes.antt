-- How many words a type value takes, where they are counted to the greatest `u64` at most, for `size` of src/type_value.rt.
use Rattle.std.proofs.Common.{◌≡◌, ℕ, zero, suc, ◌*◌, ◌≤◌, ◌<◌, min, ◌⊎◌, inl, inr, refl, sym, ap, ◌∙◌, arith}
use Rattle.std.proofs.Math.Nat.{le-mul_of_pos_right, min-eq_right, mul_comm}
use Rattle.std.proofs.lemmas.Bool.{cases_lt}

-- two numbers that are both at the limit or beyond are the same where they are cut off there
both_beyond : (p q limit : ℕ) → limit ≤ p → limit ≤ q → min p limit ≡ min q limit
both_beyond p q limit a b = min-eq_right a ∙ sym (min-eq_right b)

-- where one factor is the limit, in place of a number beyond it, the product is at the limit too, but for that with 0
factor_beyond : (m n limit : ℕ) → limit < m → min (limit * min n limit) limit ≡ min (m * n) limit
factor_beyond m zero limit h =
    let none : min zero limit ≡ zero = omega arith in
    let e : limit * zero ≡ m * zero = omega arith in
    rw none (ap (λ (p : ℕ). min p limit) e)
factor_beyond m (suc k) zero h = omega arith
factor_beyond m (suc k) (suc l) h =
    let some : zero < min (suc k) (suc l) = omega arith in
    let low : suc l ≤ suc l * min (suc k) (suc l) = le-mul_of_pos_right (suc l) some in
    let more : m ≤ m * suc k = le-mul_of_pos_right m (omega arith) in
    both_beyond (suc l * min (suc k) (suc l)) (m * suc k) (suc l) low (omega (arith, more))

-- a product of numbers that were each cut off at a limit, cut off there, is the product of the whole numbers, cut off there
product_capped : (m n limit : ℕ) → min (min m limit * min n limit) limit ≡ min (m * n) limit
product_capped m n limit = go (cases_lt limit m) (cases_lt limit n)
  where
    go : (limit < m) ⊎ (m ≤ limit) → (limit < n) ⊎ (n ≤ limit) → min (min m limit * min n limit) limit ≡ min (m * n) limit
    go (inl x) y =
        let e : min m limit ≡ limit = omega arith in rw e (factor_beyond m n limit x)
    go (inr x) (inl y) =
        let e : min n limit ≡ limit = omega arith in
        rw (e, mul_comm (min m limit) limit, mul_comm m n) (factor_beyond n m limit y)
    go (inr x) (inr y) =
        let e : min m limit ≡ m = omega arith in
        let f : min n limit ≡ n = omega arith in
        rw (e, f) refl

-- the words of an array, from those of a component
pub array_words : (m n limit a b r : ℕ) → a ≡ min m limit → b ≡ min n limit → r ≡ min (a * b) limit → r ≡ min (m * n) limit
array_words m n limit a b r p q e = e ∙ ((λ i. min (p i * q i) limit) ∙ product_capped m n limit)
