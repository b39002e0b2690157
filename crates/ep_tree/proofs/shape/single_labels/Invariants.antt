use Rattle.std.proofs.Common.{◌≡◌, reverse, length}
use Rattle.ep_tree.specs.Shapes.{all_of, single_label}
use Rattle.ep_tree.proofs.Reversed.{followed}
use Rattle.ep_tree.proofs.shape.single_labels.Given as goal

abbrev pub invariant-loop-label : goal.invariant-loop-label
invariant-loop-label l = all_of single_label l.fn.labels ≡ followed (all_of single_label l.labels) (reverse l.found)

abbrev pub decreases-loop-label : goal.decreases-loop-label
decreases-loop-label l = length l.labels
