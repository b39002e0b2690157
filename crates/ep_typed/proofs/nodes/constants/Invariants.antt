use Rattle.std.proofs.Common.{◌≡◌, ◌+◌, ◌≤◌, min, drop, map, sum}
use Rattle.ep_typed.specs.Nodes.{constant_nodes}
use Rattle.ep_typed.proofs.nodes.constants.Given as goal

abbrev pub invariant-loop-constant : goal.invariant-loop-constant
invariant-loop-constant l = (l.total ≤ 18446744073709551615) × (min (l.total + sum (map constant_nodes (drop l.constant-index l.all))) 18446744073709551615 ≡ min (sum (map constant_nodes l.all)) 18446744073709551615)
