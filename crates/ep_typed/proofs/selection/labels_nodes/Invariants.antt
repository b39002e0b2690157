use Rattle.std.proofs.Common.{◌≡◌, ◌+◌, ◌≤◌, min, drop}
use Rattle.ep_typed.specs.Selections.{labels_nodes}
use Rattle.ep_typed.proofs.selection.labels_nodes.Given as goal

abbrev pub invariant-loop-ranges : goal.invariant-loop-ranges
invariant-loop-ranges l = (l.total ≤ 18446744073709551615) × (min (l.total + labels_nodes (drop l.ranges-index l.all)) 18446744073709551615 ≡ min (labels_nodes l.all) 18446744073709551615)
