-- What an operation answers is a value of the host of its result.
use Rattle.std.proofs.Common.{◌≡◌, ℕ, ℤ, pos, negsuc, zero, suc, ◌%◌, Bool, true, false, not, IsTrue, refl, sym, ap, ◌∙◌, subst, arith}
use Rattle.std.proofs.lemmas.Bool.Decides.{nat_tests}
use Rattle.std.specs.Int.{int_rem_euclid}
use Rattle.std.specs.Prelude.{if◌then◌else◌, ◌-ℤ◌, neg_ℤ, int_le, int_lt, int_div}
use Rattle.ep_values.specs.Operations.{Answer, Number, Fault, integer, is_integer, within, divided, modulo, is_same, is_true, ordinal_of}
use Rattle.ep_typed.specs.Hosts.{Host, least, greatest, is_of_host}
use Rattle.ep_typed.specs.Hosts as host
use Rattle.ep_values.specs.declared.run_error.TheConstants as run_error

-- a number that is the answer
pub given : (h : Host) (z w : ℤ) → IsTrue (is_of_host h z) → ◌≡◌ {A = Answer} (Number z) (Number w) → IsTrue (is_of_host h w)
given h z w of_host e =
    let is : z ≡ w = cc in
    subst (λ x. IsTrue (is_of_host h x)) is of_host

-- a number that is the answer where a test holds
tested : (h : Host) (b : Bool) (z w : ℤ) (error : ℕ) → (IsTrue b → IsTrue (is_of_host h z)) → (if b then Number z else Fault error) ≡ Number w → IsTrue (is_of_host h w)
tested h true z w error f e = given h z w (f refl) e
tested h false z w error f e = cc

-- an integer that is the answer
pub integer_answer : (z w : ℤ) → integer z ≡ Number w → IsTrue (is_of_host host.Integer w)
integer_answer z w e = tested host.Integer (is_integer z) z w 8 (λ h. h) e

-- a number within the bounds of a host
pub within_answer : (h : Host) (error : ℕ) (z w : ℤ) → within error (least h) (greatest h) z ≡ Number w → IsTrue (is_of_host h w)
within_answer h error z w e = tested h (is_of_host h z) z w error (λ t. t) e

-- the same where the bounds are those of the host
pub bounded_answer : (h : Host) (low high z w : ℤ) → low ≡ least h → high ≡ greatest h → within run_error.SUCCESSOR low high z ≡ Number w → IsTrue (is_of_host h w)
bounded_answer h low high z w is_low is_high e =
    within_answer h run_error.SUCCESSOR z w (sym (ap (λ b. within run_error.SUCCESSOR b high z) is_low ∙ ap (λ b. within run_error.SUCCESSOR (least h) b z) is_high) ∙ e)

quotient_integer : (b : Bool) (z w : ℤ) → (if b then Fault 9 else integer z) ≡ Number w → IsTrue (is_of_host host.Integer w)
quotient_integer true z w e = cc
quotient_integer false z w e = integer_answer z w e

pub divided_answer : (x y w : ℤ) → divided x y ≡ Number w → IsTrue (is_of_host host.Integer w)
divided_answer x y w e = quotient_integer (is_same y (pos 0)) (int_div x y) w e

rest_integer : (x y : ℤ) → IsTrue (is_of_host host.Integer y) → IsTrue (int_lt (pos 0) y) → IsTrue (is_of_host host.Integer (int_rem_euclid x y))
rest_integer (pos x) (pos zero) h positive = cc
rest_integer (pos x) (pos (suc n)) h positive = grind (arith, nat_tests)
rest_integer (negsuc x) (pos zero) h positive = cc
rest_integer (negsuc x) (pos (suc n)) h positive = grind (arith, nat_tests)
rest_integer x (negsuc y) h positive = cc

-- a remainder is less than the divisor
pub modulo_answer : (x y w : ℤ) → IsTrue (is_of_host host.Integer y) → modulo x y ≡ Number w → IsTrue (is_of_host host.Integer w)
modulo_answer x y w of_host e = tested host.Integer (int_lt (pos 0) y) (int_rem_euclid x y) w 9 (rest_integer x y of_host) e

pub ordinal_boolean : (b : Bool) → IsTrue (is_of_host host.Boolean (ordinal_of b))
ordinal_boolean true = refl
ordinal_boolean false = refl

pub odd_boolean : (n : ℕ) → IsTrue (is_of_host host.Boolean (pos (n % 2)))
odd_boolean n = grind (arith, nat_tests)

pub not_boolean : (x : ℤ) → IsTrue (is_of_host host.Boolean x) → IsTrue (is_of_host host.Boolean (pos 1 -ℤ x))
not_boolean (pos zero) h = refl
not_boolean (pos (suc zero)) h = refl
not_boolean (pos (suc (suc n))) h = grind (arith, nat_tests)
not_boolean (negsuc n) h = cc

-- a Boolean that is negated is true where it was false
pub not_true : (x : ℤ) → IsTrue (is_of_host host.Boolean x) → is_true (pos 1 -ℤ x) ≡ not (is_true x)
not_true (pos zero) h = refl
not_true (pos (suc zero)) h = refl
not_true (pos (suc (suc n))) h = grind (arith, nat_tests)
not_true (negsuc n) h = cc

-- a value of a host whose numbers are integers is an integer
pub host_integer : (h : Host) (z : ℤ) → IsTrue (int_le (greatest h) (greatest host.Integer)) → IsTrue (is_of_host h z) → IsTrue (is_of_host host.Integer z)
host_integer host.Integer z small h = h
host_integer host.Char (pos n) small h = grind (arith, nat_tests)
host_integer host.Char (negsuc n) small h = cc
host_integer host.Boolean (pos n) small h = grind (arith, nat_tests)
host_integer host.Boolean (negsuc n) small h = cc
host_integer (host.Enumeration last) (pos n) small h = grind (arith, nat_tests)
host_integer (host.Enumeration last) (negsuc n) small h = cc

-- minus an integer is an integer
pub negated : (n : ℤ) → IsTrue (is_of_host host.Integer n) → integer (neg_ℤ n) ≡ Number (neg_ℤ n)
negated (pos zero) h = refl
negated (pos (suc n)) h =
    let e : is_integer (negsuc n) ≡ true = grind (arith, nat_tests) in
    rw e refl
negated (negsuc n) h =
    let e : is_integer (pos (suc n)) ≡ true = grind (arith, nat_tests) in
    rw e refl
