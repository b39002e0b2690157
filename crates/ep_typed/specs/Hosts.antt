-- The hosts of ordinal types: each subrange has the operations of its host (ISO 10206, 6.4.2.4).
use Rattle.std.specs.Prelude.{ℕ, ℤ, pos, neg_ℤ, Bool, ◌&&◌, int_le}
use Rattle.ep_values.specs.Operations.{maxint, last_char}

-- an ordinal type that is no subrange; an enumeration by the ordinal number of its last constant
pub data Host : Type 0 where
  Integer : Host
  Char : Host
  Boolean : Host
  Enumeration : (last : ℕ) → Host

-- the least and the greatest value of a host
abbrev pub least : Host → ℤ
least Integer = neg_ℤ (pos maxint)
least Char = pos 0
least Boolean = pos 0
least (Enumeration last) = pos 0

abbrev pub greatest : Host → ℤ
greatest Integer = pos maxint
greatest Char = pos last_char
greatest Boolean = pos 1
greatest (Enumeration last) = pos last

-- the number is a value of the host
abbrev pub is_of_host : Host → ℤ → Bool
is_of_host h z = int_le (least h) z && int_le z (greatest h)
