-- Bounds of index types, for the contracts of src/bounds.rt.
use Rattle.std.proofs.Common.{◌≡◌, ℕ, ℤ, pos, negsuc, zero, suc, ◌+◌, ◌-◌, ◌-ℤ◌, Some, None, true, false, cond, leb, ltb, int_le, unsigned_abs, refl, sym, ap, ◌∙◌, rules, arith}
use Rattle.ep_values.proofs.public.Bounds.{gap_is, no_gap}
use Rattle.ep_values.specs.Bounds.{gap, below, count_of, component_at}

-- it is not as far to what is below
near : (low index high : ℤ) → int_le low index ≡ true → int_le index high ≡ true → below (count_of low high) (gap low index) ≡ gap low index
near (pos a) (pos i) (pos h) le fits = grind arith
near (pos a) (pos i) (negsuc h) le fits = cc
near (pos a) (negsuc i) h le fits = cc
near (negsuc a) (pos i) (pos h) le fits = grind arith
near (negsuc a) (pos i) (negsuc h) le fits = cc
near (negsuc a) (negsuc i) (pos h) le fits = grind arith
near (negsuc a) (negsuc i) (negsuc h) le fits = grind arith

far : (low index high : ℤ) → int_le index high ≡ false → below (count_of low high) (gap low index) ≡ None
far (pos a) (pos i) (pos h) not = grind arith
far (pos a) (pos i) (negsuc h) not = grind arith
far (pos a) (negsuc i) h not = refl
far (negsuc a) (pos i) (pos h) not = grind arith
far (negsuc a) (pos i) (negsuc h) not = grind arith
far (negsuc a) (negsuc i) (pos h) not = cc
far (negsuc a) (negsuc i) (negsuc h) not = grind arith

-- the number of the component
pub component_within : (low high index : ℤ) → int_le low index ≡ true → int_le index high ≡ true → component_at low high index ≡ Some (unsigned_abs (index -ℤ low))
component_within low high index le fits = near low index high le fits ∙ gap_is low index le

pub component_below : (low high index : ℤ) → int_le low index ≡ false → component_at low high index ≡ None
component_below low high index not = rw (no_gap low index not) refl

pub component_above : (low high index : ℤ) → int_le index high ≡ false → component_at low high index ≡ None
component_above low high index not = far low index high not
