use Rattle.std.proofs.Common.{◌≡◌, drop}
use Rattle.ep_scope.specs.Scopes.{meant}
use Rattle.ep_scope.proofs.meaning.meaning_among.Given as goal

abbrev pub invariant-loop-scope : goal.invariant-loop-scope
invariant-loop-scope l = meant (drop l.scope-index l.scopes) l.name ≡ meant l.scopes l.name
