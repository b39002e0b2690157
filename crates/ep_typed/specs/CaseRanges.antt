-- The ranges of values of a `case` and of a variant (ISO 10206, 6.9.3.5).
use Rattle.std.specs.Prelude.{ℤ, ◌+ℤ◌, ◌-ℤ◌, ◌*ℤ◌, ◌%◌, Bool, ◌&&◌, ◌||◌, if◌then◌else◌, int_lt, int_le}
use Rattle.ep_typed.specs.declared.tree.CaseRange.{CaseRange}

-- whether a value is in a range of a `case`
abbrev pub is_in : CaseRange → ℤ → Bool
is_in r z = int_le r.low z && int_le z r.high

-- whether no value is in two ranges of a `case`
abbrev pub is_apart : CaseRange → CaseRange → Bool
is_apart r s = int_lt r.high s.low || int_lt s.high r.low
