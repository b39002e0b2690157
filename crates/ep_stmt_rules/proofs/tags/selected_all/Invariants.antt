use Rattle.std.proofs.Common.{◌≡◌, drop}
use Rattle.ep_stmt_rules.specs.Tags as spec
use Rattle.ep_stmt_rules.proofs.tags.selected_all.Given as goal

abbrev pub invariant-loop-selector : goal.invariant-loop-selector
invariant-loop-selector l = spec.selected_all l.scopes (drop l.selector-index l.selectors) l.reached ≡ spec.selected_all l.scopes l.selectors l.fn.first
