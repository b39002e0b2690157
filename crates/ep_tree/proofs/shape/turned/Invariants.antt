use Rattle.std.proofs.Common.{◌≡◌, ◌++◌, reverse, length}
use Rattle.ep_tree.proofs.shape.turned.Given as goal

abbrev pub invariant-loop-item : goal.invariant-loop-item
invariant-loop-item l = reverse l.fn.items ≡ l.found ++ reverse l.items

abbrev pub decreases-loop-item : goal.decreases-loop-item
decreases-loop-item l = length l.items
