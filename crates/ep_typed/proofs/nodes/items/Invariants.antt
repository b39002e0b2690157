use Rattle.std.proofs.Common.{◌≡◌, ◌+◌, ◌≤◌, min, drop, map}
use Rattle.ep_typed.specs.Nodes.{items_nodes}
use Rattle.ep_typed.specs.Viewed.{item_of}
use Rattle.ep_typed.proofs.nodes.items.Given as goal

abbrev pub invariant-loop-i : goal.invariant-loop-i
invariant-loop-i l = (l.total ≤ 18446744073709551615) × (min (l.total + items_nodes (map item_of (drop l.i-index l.all))) 18446744073709551615 ≡ min (items_nodes (map item_of l.all)) 18446744073709551615)
