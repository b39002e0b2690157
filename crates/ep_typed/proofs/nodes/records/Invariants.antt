use Rattle.std.proofs.Common.{◌≡◌, ◌+◌, ◌≤◌, min, drop, map}
use Rattle.ep_typed.specs.Nodes.{with_nodes}
use Rattle.ep_typed.specs.Viewed.{with_record_of}
use Rattle.ep_typed.proofs.nodes.records.Given as goal

abbrev pub invariant-loop-r : goal.invariant-loop-r
invariant-loop-r l = (l.total ≤ 18446744073709551615) × (min (l.total + with_nodes (map with_record_of (drop l.r-index l.all))) 18446744073709551615 ≡ min (with_nodes (map with_record_of l.all)) 18446744073709551615)
