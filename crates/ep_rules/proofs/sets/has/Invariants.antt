use Rattle.std.proofs.Common.{◌≡◌, drop}
use Rattle.ep_values.specs.Sets.{has}
use Rattle.ep_rules.proofs.sets.has.Given as goal

abbrev pub invariant-loop-member : goal.invariant-loop-member
invariant-loop-member l = has l.ordinal (drop l.member-index l.set) ≡ has l.ordinal l.set
