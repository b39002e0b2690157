use Rattle.std.proofs.Common.{◌≡◌, min, max, drop, map}
use Rattle.ep_tree.specs.Nesting.{most_of, access_nesting}
use Rattle.ep_tree.proofs.levels.statements.accesses.Given as goal

abbrev pub invariant-loop-a : goal.invariant-loop-a
invariant-loop-a l = max l.most (min (most_of (map access_nesting (drop l.a-index l.all))) 4294967295) ≡ min (most_of (map access_nesting l.all)) 4294967295
