use Rattle.std.proofs.Common.{◌≡◌, min, max, drop, map}
use Rattle.ep_tree.specs.Nesting.{most_of, constant_definition_nesting}
use Rattle.ep_tree.proofs.levels.routines.constants.Given as goal

abbrev pub invariant-loop-definition : goal.invariant-loop-definition
invariant-loop-definition l = max l.most (min (most_of (map constant_definition_nesting (drop l.definition-index l.all))) 4294967295) ≡ min (most_of (map constant_definition_nesting l.all)) 4294967295
