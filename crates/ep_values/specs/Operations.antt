-- What the operators and required functions give (ISO 10206, 6.8.3 and 6.7.6).
use Rattle.std.specs.Prelude.{ℕ, ℤ, pos, ◌+ℤ◌, ◌-ℤ◌, ◌*ℤ◌, neg_ℤ, ◌%◌, Bool, true, false, ◌&&◌, ◌||◌, not}
use Rattle.std.specs.Prelude.{if◌then◌else◌, int_lt, int_le, int_div, unsigned_abs}
use Rattle.std.specs.Int.{int_rem_euclid}
use Rattle.ep_values.specs.declared.operations.Unary.{Unary}
use Rattle.ep_values.specs.declared.operations.Unary.TheVariants as unary
use Rattle.ep_values.specs.declared.operations.Binary.{Binary}
use Rattle.ep_values.specs.declared.operations.Binary.TheVariants as binary
use Rattle.ep_values.specs.declared.operations.ShortOperation.{ShortOperation}
use Rattle.ep_values.specs.declared.operations.ShortOperation.TheVariants as short
use Rattle.ep_values.specs.declared.run_error.TheConstants as run_error

-- a number, or the number of an error
pub data Answer : Type 0 where
  Number : (z : ℤ) → Answer
  Fault : (error : ℕ) → Answer

-- the greatest integer, and the last char
abbrev pub maxint : ℕ
maxint = 9223372036854775807

abbrev pub last_char : ℕ
last_char = 255

-- from -maxint to maxint
abbrev pub is_integer : ℤ → Bool
is_integer z = int_le (neg_ℤ (pos maxint)) z && int_le z (pos maxint)

-- an integer, or an overflow
abbrev pub integer : ℤ → Answer
integer z = if is_integer z then Number z else Fault run_error.OVERFLOW

abbrev pub ordinal_of : Bool → ℤ
ordinal_of false = pos 0
ordinal_of true = pos 1

abbrev pub is_same : ℤ → ℤ → Bool
is_same x y = int_le x y && int_le y x

-- a number within bounds, or the error
abbrev pub within : ℕ → ℤ → ℤ → ℤ → Answer
within error low high z = if int_le low z && int_le z high then Number z else Fault error

abbrev pub unary_answer : Unary → ℤ → Answer
unary_answer unary.Same x = Number x
unary_answer unary.Negate x = integer (neg_ℤ x)
unary_answer unary.Not x = Number (pos 1 -ℤ x)
unary_answer unary.Absolute x = integer (pos (unsigned_abs x))
unary_answer unary.Square x = integer (x *ℤ x)
unary_answer unary.Odd x = Number (pos (unsigned_abs x % 2))
unary_answer unary.Character x = within run_error.SUCCESSOR (pos 0) (pos last_char) x

-- `div` cuts toward zero, and `mod` is not negative; a divisor 0 is an error, and there one that is not positive
abbrev pub divided : ℤ → ℤ → Answer
divided x y = if is_same y (pos 0) then Fault run_error.DIVISOR else integer (int_div x y)

abbrev pub modulo : ℤ → ℤ → Answer
modulo x y = if int_lt (pos 0) y then Number (int_rem_euclid x y) else Fault run_error.DIVISOR

abbrev pub is_true : ℤ → Bool
is_true x = not (is_same x (pos 0))

abbrev pub binary_answer : Binary → ℤ → ℤ → Answer
binary_answer binary.Add x y = integer (x +ℤ y)
binary_answer binary.Subtract x y = integer (x -ℤ y)
binary_answer binary.Multiply x y = integer (x *ℤ y)
binary_answer binary.Divide x y = divided x y
binary_answer binary.Modulo x y = modulo x y
binary_answer binary.And x y = Number (ordinal_of (is_true x && is_true y))
binary_answer binary.Or x y = Number (ordinal_of (is_true x || is_true y))
binary_answer binary.Equal x y = Number (ordinal_of (is_same x y))
binary_answer binary.Unequal x y = Number (ordinal_of (not (is_same x y)))
binary_answer binary.Less x y = Number (ordinal_of (int_lt x y))
binary_answer binary.Greater x y = Number (ordinal_of (int_lt y x))
binary_answer binary.AtMost x y = Number (ordinal_of (int_le x y))
binary_answer binary.AtLeast x y = Number (ordinal_of (int_le y x))

-- whether the left operand decides: `false` does for `and_then`, and `true` for `or_else`, and it is the value then
abbrev pub decides : ShortOperation → ℤ → Bool
decides short.AndThen x = not (is_true x)
decides short.OrElse x = is_true x

-- `succ` and `pred` of a value and a count, where there is one
abbrev pub step_answer : Bool → ℤ → ℤ → ℤ → ℤ → Answer
step_answer false low high x n = within run_error.SUCCESSOR low high (x +ℤ n)
step_answer true low high x n = within run_error.SUCCESSOR low high (x -ℤ n)
