use Rattle.std.proofs.Common.{◌≡◌, min, max, drop, map}
use Rattle.ep_tree.specs.Nesting.{most_of, heading_part_nesting}
use Rattle.ep_tree.proofs.levels.heading_parts.Given as goal

abbrev pub invariant-loop-part : goal.invariant-loop-part
invariant-loop-part l = max l.most (min (most_of (map heading_part_nesting (drop l.part-index l.all))) 4294967295) ≡ min (most_of (map heading_part_nesting l.all)) 4294967295
