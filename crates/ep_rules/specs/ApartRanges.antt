-- How ranges of which no two have a value in common are found by their ends.
use Rattle.std.specs.Prelude.{◌≡◌, ℤ, int_le, int_lt, Bool, true, false, IsTrue, List, Some}
use Rattle.std.specs.List.{Contains}
use Rattle.std.specs.Ordering.{int_cmp}
use Rattle.std.specs.BTreeMap.{BTreeMap, get}
use Rattle.ep_typed.specs.declared.tree.CaseRange.{CaseRange}

-- the greatest value of each range is found by its least one; none is empty, and no two have a value in common
pub record IsByEnds (ends : BTreeMap ℤ ℤ) (ranges : List CaseRange) : Type 0 where
  pub there : (r : CaseRange) → Contains ranges r → get int_cmp ends r.low ≡ Some r.high
  pub listed : (low high : ℤ) → get int_cmp ends low ≡ Some high → Contains ranges (record { low = low; high = high })
  pub filled : (low high : ℤ) → get int_cmp ends low ≡ Some high → IsTrue (int_le low high)
  pub apart : (low high next last : ℤ) → get int_cmp ends low ≡ Some high → get int_cmp ends next ≡ Some last
      → IsTrue (int_lt low next) → IsTrue (int_lt high next)

-- that is so unless a range is empty
abbrev pub AreFoundByEnds : Bool → BTreeMap ℤ ℤ → List CaseRange → Type 0
AreFoundByEnds has_empty ends ranges = has_empty ≡ false → IsByEnds ends ranges
