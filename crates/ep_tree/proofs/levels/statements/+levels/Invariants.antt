use Rattle.std.proofs.Common.{◌≡◌, min, max, drop, map}
use Rattle.ep_tree.specs.Nesting.{most_of, arm_nesting, statement_nesting}
use Rattle.ep_tree.proofs.levels.statements.+levels.Given as goal

abbrev pub invariant-arms-loop-a : goal.invariant-arms-loop-a
invariant-arms-loop-a l = max l.most (min (most_of (map arm_nesting (drop l.a-index l.all))) 4294967295) ≡ min (most_of (map arm_nesting l.all)) 4294967295

abbrev pub invariant-statements-loop-s : goal.invariant-statements-loop-s
invariant-statements-loop-s l = max l.most (min (most_of (map statement_nesting (drop l.s-index l.all))) 4294967295) ≡ min (most_of (map statement_nesting l.all)) 4294967295
