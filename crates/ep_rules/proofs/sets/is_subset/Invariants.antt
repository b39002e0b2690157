use Rattle.std.proofs.Common.{◌≡◌, drop}
use Rattle.ep_values.specs.Sets.{is_subset}
use Rattle.ep_rules.proofs.sets.is_subset.Given as goal

abbrev pub invariant-loop-member : goal.invariant-loop-member
invariant-loop-member l = is_subset (drop l.member-index l.first) l.second ≡ is_subset l.first l.second
