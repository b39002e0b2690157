use Rattle.std.proofs.Common.{◌≡◌, drop}
use Rattle.ep_scope.specs.Scopes.{meant_in}
use Rattle.ep_scope.proofs.meaning.meaning_after.Given as goal

abbrev pub invariant-loop-scope : goal.invariant-loop-scope
invariant-loop-scope l = meant_in (drop l.scope-index l.scopes) l.interface l.name ≡ meant_in l.scopes l.interface l.name
