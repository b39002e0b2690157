use Rattle.std.proofs.Common.{◌≡◌, drop}
use Rattle.ep_stmt_rules.specs.Tags as spec
use Rattle.ep_stmt_rules.proofs.tags.records_within.Given as goal

abbrev pub invariant-loop-access : goal.invariant-loop-access
invariant-loop-access l = spec.records_within l.scopes (drop l.access-index l.accesses) l.inner ≡ spec.records_within l.scopes l.accesses l.scopes
