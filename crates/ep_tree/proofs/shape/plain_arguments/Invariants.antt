use Rattle.std.proofs.Common.{◌≡◌, reverse, length}
use Rattle.ep_tree.specs.Shapes.{all_of, plain_argument}
use Rattle.ep_tree.proofs.Reversed.{followed}
use Rattle.ep_tree.proofs.shape.plain_arguments.Given as goal

abbrev pub invariant-loop-argument : goal.invariant-loop-argument
invariant-loop-argument l = all_of plain_argument l.fn.arguments ≡ followed (all_of plain_argument l.arguments) (reverse l.found)

abbrev pub decreases-loop-argument : goal.decreases-loop-argument
decreases-loop-argument l = length l.arguments
