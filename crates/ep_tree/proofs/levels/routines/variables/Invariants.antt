use Rattle.std.proofs.Common.{◌≡◌, min, max, drop, map}
use Rattle.ep_tree.specs.Nesting.{most_of, variable_declaration_nesting}
use Rattle.ep_tree.proofs.levels.routines.variables.Given as goal

abbrev pub invariant-loop-declaration : goal.invariant-loop-declaration
invariant-loop-declaration l = max l.most (min (most_of (map variable_declaration_nesting (drop l.declaration-index l.all))) 4294967295) ≡ min (most_of (map variable_declaration_nesting l.all)) 4294967295
