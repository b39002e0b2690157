use Rattle.std.proofs.Common.{◌≡◌, ◌+◌, ◌≤◌, min, drop, map, sum}
use Rattle.ep_typed.specs.Nodes.{type_nodes}
use Rattle.ep_typed.proofs.nodes.types.Given as goal

abbrev pub invariant-loop-t : goal.invariant-loop-t
invariant-loop-t l = (l.total ≤ 18446744073709551615) × (min (l.total + sum (map type_nodes (drop l.t-index l.all))) 18446744073709551615 ≡ min (sum (map type_nodes l.all)) 18446744073709551615)
