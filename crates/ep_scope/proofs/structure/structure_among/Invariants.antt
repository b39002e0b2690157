use Rattle.std.proofs.Common.{◌≡◌, drop}
use Rattle.ep_scope.specs.Scopes.{structure_in}
use Rattle.ep_scope.proofs.structure.structure_among.Given as goal

abbrev pub invariant-loop-scope : goal.invariant-loop-scope
invariant-loop-scope l = structure_in (drop l.scope-index l.scopes) l.number ≡ structure_in l.scopes l.number
