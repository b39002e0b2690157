use Rattle.std.proofs.Common.{◌≡◌, ◌+◌, ◌≤◌, min, drop}
use Rattle.ep_values.specs.TypeValues.{sizes_of}
use Rattle.ep_values.specs.ViewedTypes.{type_values_of}
use Rattle.ep_values.proofs.type_value.+sizes.Given as goal

abbrev pub invariant-sizes-loop-t : goal.invariant-sizes-loop-t
invariant-sizes-loop-t l = (l.total ≤ 18446744073709551615) × (min (l.total + sizes_of (type_values_of (drop l.t-index l.components))) 18446744073709551615 ≡ min (sizes_of (type_values_of l.components)) 18446744073709551615)
