use Rattle.std.proofs.Common.{◌≡◌, ◌+◌, ◌≤◌, min, drop, map, sum}
use Rattle.ep_typed.specs.Nodes.{routine_nodes}
use Rattle.ep_typed.proofs.nodes.routines.Given as goal

abbrev pub invariant-loop-r : goal.invariant-loop-r
invariant-loop-r l = (l.total ≤ 18446744073709551615) × (min (l.total + sum (map routine_nodes (drop l.r-index l.all))) 18446744073709551615 ≡ min (sum (map routine_nodes l.all)) 18446744073709551615)
