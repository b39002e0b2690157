-- The number that decimal digits spell.
use Rattle.std.specs.Prelude.{ℕ, ◌+◌, ◌-◌, ◌*◌, ◌^◌, nat_lt, if◌then◌else◌, List, fold, Option, Some, None}

abbrev pub value_of : List ℕ → ℕ
value_of digits = fold (λ number digit. 10 * number + (digit - 48)) 0 digits

-- the same, at most maxint
abbrev pub number_of : List ℕ → Option ℕ
number_of digits = if nat_lt (value_of digits) (2 ^ 63) then Some (value_of digits) else None
