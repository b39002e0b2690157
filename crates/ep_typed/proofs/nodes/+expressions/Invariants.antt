use Rattle.std.proofs.Common.{◌≡◌, ◌+◌, ◌≤◌, min, drop, map}
use Rattle.ep_typed.specs.Nodes.{actuals_nodes, designators_nodes, elements_nodes}
use Rattle.ep_typed.specs.Trees.{actuals, designators, elements}
use Rattle.ep_typed.specs.Viewed.{actual_of, designator_of, element_of}
use Rattle.ep_typed.proofs.nodes.+expressions.Given as goal

abbrev pub invariant-actuals-loop-a : goal.invariant-actuals-loop-a
invariant-actuals-loop-a l = (l.total ≤ 18446744073709551615) × (min (l.total + actuals_nodes (actuals (map actual_of (drop l.a-index l.all)))) 18446744073709551615 ≡ min (actuals_nodes (actuals (map actual_of l.all))) 18446744073709551615)

abbrev pub invariant-designators-loop-d : goal.invariant-designators-loop-d
invariant-designators-loop-d l = (l.total ≤ 18446744073709551615) × (min (l.total + designators_nodes (designators (map designator_of (drop l.d-index l.all)))) 18446744073709551615 ≡ min (designators_nodes (designators (map designator_of l.all))) 18446744073709551615)

abbrev pub invariant-elements-loop-e : goal.invariant-elements-loop-e
invariant-elements-loop-e l = (l.total ≤ 18446744073709551615) × (min (l.total + elements_nodes (elements (map element_of (drop l.e-index l.all)))) 18446744073709551615 ≡ min (elements_nodes (elements (map element_of l.all))) 18446744073709551615)
