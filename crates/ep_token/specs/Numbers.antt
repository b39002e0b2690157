-- What an unsigned number is, and its value.
use Rattle.std.specs.Prelude.{◌≡◌, ◌≢◌, ℕ, ◌+◌, ◌-◌, ◌*◌, ◌≤◌, Bool, true, ◌||◌, ◌==◌}
use Rattle.std.specs.Prelude.{nat_lt, if◌then◌else◌, List, [], ◌∷◌, ◌++◌, fold, ◌⊎◌}
use Rattle.std.specs.List.{list_all}
use Rattle.std.specs.Char.{is_ascii_alphabetic, is_ascii_alphanumeric, is_ascii_digit, to_ascii_lowercase}
use Rattle.ep_token.specs.Bytes as byte

-- the greatest integer, `maxint` (ISO 10206, 6.4.2.2; its value is an own rule)
abbrev pub maxint : ℕ
maxint = 9223372036854775807

-- the value of a digit, or of a letter in any case, where `a` is ten (ISO 10206, 6.1.7);
-- no digit of any radix has the value 36
unfoldable pub digit_value : ℕ → ℕ
digit_value b = if is_ascii_digit b then b - 48 else if is_ascii_alphabetic b then to_ascii_lowercase b - 87 else 36

-- whether a byte is a digit of a radix
abbrev pub is_digit_of : ℕ → ℕ → Bool
is_digit_of radix b = nat_lt (digit_value b) radix

-- the value of a row of digits
abbrev pub value_of : ℕ → List ℕ → ℕ
value_of radix digits = fold (λ value b. value * radix + digit_value b) 0 digits

-- one or more digits of a radix, and their value
pub record IsNumeral (radix : ℕ) (digits : List ℕ) (value : ℕ) : Type 0 where
  pub some : digits ≢ []
  pub each : list_all (is_digit_of radix) digits ≡ true
  pub value_is : value ≡ value_of radix digits

-- a radix in decimal digits, from 2 to 36, then `#` and digits of that radix (ISO 10206, 6.1.7)
pub record IsInRadix (text : List ℕ) (value : ℕ) : Type 0 where
  pub front : List ℕ
  pub digits : List ℕ
  pub radix : ℕ
  pub split : text ≡ front ++ byte.number_sign ∷ digits
  pub radix_is : IsNumeral 10 front radix
  pub least : 2 ≤ radix
  pub greatest : radix ≤ 36
  pub value_is : IsNumeral radix digits value

-- a number of at most maxint, in decimal digits or in a radix (ISO 10206, 6.1.7)
abbrev pub IsNumber : List ℕ → ℕ → Type 0
IsNumber text value = (IsNumeral 10 text value ⊎ IsInRadix text value) × (value ≤ maxint)

-- a letter, a digit, an underscore or `#`, which may not follow a number directly (own rule)
unfoldable pub continues_number : ℕ → Bool
continues_number b = is_ascii_alphanumeric b || (b == byte.underscore || b == byte.number_sign)
