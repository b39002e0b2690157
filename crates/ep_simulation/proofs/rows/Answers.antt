-- The tests of the rows on words are those of the operations.
use Rattle.std.proofs.Common.{◌≡◌, ℤ, pos, negsuc, zero, suc, Bool, true, false, not, IsTrue, refl, ◌∙◌, arith}
use Rattle.std.proofs.lemmas.Bool.Decides.{nat_tests}
use Rattle.std.specs.Prelude.{◌+ℤ◌, ◌-ℤ◌, neg_ℤ}
use Rattle.ep_object.specs.Effects.{is_zero}
use Rattle.ep_object.specs.WordRows as rows
use Rattle.ep_values.specs.Operations.{is_integer, ordinal_of, is_same, is_true}
use Rattle.ep_typed.specs.Hosts.{is_of_host}
use Rattle.ep_typed.specs.Hosts as host

-- both tests of integers agree
pub is_integer-same : (z : ℤ) → rows.is_integer z ≡ is_integer z
is_integer-same (pos n) = grind (arith, nat_tests)
is_integer-same (negsuc n) = grind (arith, nat_tests)

-- a word is 0 exactly if it is the same as 0
pub is_zero-same : (z : ℤ) → is_zero z ≡ is_same z (pos 0)
is_zero-same (pos zero) = refl
is_zero-same (pos (suc n)) = grind (arith, nat_tests)
is_zero-same (negsuc n) = grind (arith, nat_tests)

-- and if it is not true
pub is_zero-true : (z : ℤ) → is_zero z ≡ not (is_true z)
is_zero-true z = is_zero-same z ∙ twice (is_same z (pos 0))
  where
    twice : (b : Bool) → b ≡ not (not b)
    twice true = refl
    twice false = refl

-- both words of a truth value agree
pub bit-same : (b : Bool) → rows.bit b ≡ ordinal_of b
bit-same true = refl
bit-same false = refl

-- a Boolean is 0 or 1
pub is_boolean-same : (z : ℤ) → IsTrue (is_of_host host.Boolean z) → rows.is_boolean z ≡ true
is_boolean-same (pos n) h = grind (arith, nat_tests)
is_boolean-same (negsuc n) h = grind (arith, nat_tests)

-- what is taken away is added with the other sign
pub minus-plus : (x y : ℤ) → x -ℤ y ≡ x +ℤ neg_ℤ y
minus-plus x y = refl

-- an integer with the other sign is one
pub is_integer-neg : (z : ℤ) → IsTrue (is_integer z) → is_integer (neg_ℤ z) ≡ true
is_integer-neg (pos zero) h = refl
is_integer-neg (pos (suc n)) h = grind (arith, nat_tests)
is_integer-neg (negsuc n) h = grind (arith, nat_tests)
