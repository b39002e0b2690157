use Rattle.std.proofs.Common.{◌≡◌, ◌+◌, ◌≤◌, min, drop, map, sum}
use Rattle.ep_typed.specs.Nodes.{schema_formal_nodes}
use Rattle.ep_typed.proofs.nodes.schema_formals.Given as goal

abbrev pub invariant-loop-formal : goal.invariant-loop-formal
invariant-loop-formal l = (l.total ≤ 18446744073709551615) × (min (l.total + sum (map schema_formal_nodes (drop l.formal-index l.all))) 18446744073709551615 ≡ min (sum (map schema_formal_nodes l.all)) 18446744073709551615)
