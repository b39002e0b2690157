use Rattle.std.proofs.Common.{◌≡◌, drop}
use Rattle.ep_stmt_rules.specs.Tags as spec
use Rattle.ep_stmt_rules.proofs.tags.indexed.Given as goal

abbrev pub invariant-loop-index : goal.invariant-loop-index
invariant-loop-index l = spec.indexed l.scopes (drop l._index-index l.indexes) l.reached ≡ spec.indexed l.scopes l.indexes l.fn.first
