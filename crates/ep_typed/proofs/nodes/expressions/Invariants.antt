use Rattle.std.proofs.Common.{◌≡◌, ◌+◌, ◌≤◌, min, drop, map, sum}
use Rattle.ep_typed.specs.Nodes.{typed_expr_nodes}
use Rattle.ep_typed.proofs.nodes.expressions.Given as goal

abbrev pub invariant-loop-x : goal.invariant-loop-x
invariant-loop-x l = (l.total ≤ 18446744073709551615) × (min (l.total + sum (map typed_expr_nodes (drop l.x-index l.all))) 18446744073709551615 ≡ min (sum (map typed_expr_nodes l.all)) 18446744073709551615)
