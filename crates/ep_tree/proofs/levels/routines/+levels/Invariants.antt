use Rattle.std.proofs.Common.{◌≡◌, min, max, drop, map}
use Rattle.ep_tree.specs.Nesting.{most_of, part_nesting}
use Rattle.ep_tree.proofs.levels.routines.+levels.Given as goal

abbrev pub invariant-parts-loop-p : goal.invariant-parts-loop-p
invariant-parts-loop-p l = max l.most (min (most_of (map part_nesting (drop l.p-index l.all))) 4294967295) ≡ min (most_of (map part_nesting l.all)) 4294967295
