use Rattle.std.proofs.Common.{◌≡◌, ◌+◌, ◌≤◌, min, drop, map, sum}
use Rattle.ep_typed.specs.Nodes.{variable_nodes}
use Rattle.ep_typed.proofs.nodes.variables.Given as goal

abbrev pub invariant-loop-variable : goal.invariant-loop-variable
invariant-loop-variable l = (l.total ≤ 18446744073709551615) × (min (l.total + sum (map variable_nodes (drop l.variable-index l.all))) 18446744073709551615 ≡ min (sum (map variable_nodes l.all)) 18446744073709551615)
