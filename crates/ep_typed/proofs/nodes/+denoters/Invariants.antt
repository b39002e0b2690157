use Rattle.std.proofs.Common.{◌≡◌, ◌+◌, ◌≤◌, min, drop, map, sum}
use Rattle.ep_typed.specs.Nodes.{field_nodes, variant_nodes}
use Rattle.ep_typed.proofs.nodes.+denoters.Given as goal

abbrev pub invariant-fields-loop-f : goal.invariant-fields-loop-f
invariant-fields-loop-f l = (l.total ≤ 18446744073709551615) × (min (l.total + sum (map field_nodes (drop l.f-index l.all))) 18446744073709551615 ≡ min (sum (map field_nodes l.all)) 18446744073709551615)

abbrev pub invariant-variants-loop-v : goal.invariant-variants-loop-v
invariant-variants-loop-v l = (l.total ≤ 18446744073709551615) × (min (l.total + sum (map variant_nodes (drop l.v-index l.all))) 18446744073709551615 ≡ min (sum (map variant_nodes l.all)) 18446744073709551615)
