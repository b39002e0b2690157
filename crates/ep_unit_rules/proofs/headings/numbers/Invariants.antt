use Rattle.std.proofs.Common.{◌≡◌, take}
use Rattle.ep_unit_rules.specs.Own.{around_of}
use Rattle.ep_unit_rules.proofs.headings.numbers.Given as goal

abbrev pub invariant-loop-one : goal.invariant-loop-one
invariant-loop-one l = l.all ≡ around_of (take l.one-index l.enclosing)
