use Rattle.std.proofs.Common.{◌≡◌}
use Rattle.ep_values.specs.Sets.{passing}
use Rattle.ep_rules.specs.SetFolding.{takes_ordinal}
use Rattle.ep_rules.proofs.sets.combined.Given as goal

abbrev pub invariant-loop-ordinal : goal.invariant-loop-ordinal
invariant-loop-ordinal l = l.taken ≡ passing (takes_ordinal l.operation l.first l.second) 0 l.ordinal
