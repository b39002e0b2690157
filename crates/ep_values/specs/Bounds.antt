-- Bounds of an index type (ISO 10206, 6.4.3.2), as the meaning and the machine count with them.
use Rattle.std.specs.Prelude.{ℕ, ℤ, pos, negsuc, suc, ◌+◌, ◌-◌, Option, Some, None, cond, leb, ltb}

-- how far the second number is above the first, where it is not below
abbrev pub gap : ℤ → ℤ → Option ℕ
gap (pos a) (pos b) = cond (leb a b) (Some (b - a)) None
gap (pos a) (negsuc b) = None
gap (negsuc a) (pos b) = Some (suc a + b)
gap (negsuc a) (negsuc b) = cond (leb b a) (Some (a - b)) None

abbrev pub one_more : Option ℕ → ℕ
one_more None = 0
one_more (Some n) = suc n

-- how many numbers are within the bounds
abbrev pub count_of : ℤ → ℤ → ℕ
count_of low high = one_more (gap low high)

abbrev pub below : ℕ → Option ℕ → Option ℕ
below n None = None
below n (Some k) = cond (ltb k n) (Some k) None

-- the number of the component with this index, counted from 0, where the index is within the bounds
abbrev pub component_at : ℤ → ℤ → ℤ → Option ℕ
component_at low high index = below (count_of low high) (gap low index)
