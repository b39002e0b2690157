use Rattle.std.proofs.Common.{◌≡◌, true, drop, map}
use Rattle.ep_threats.specs.Threats.{any_true}
use Rattle.ep_unit_rules.specs.Giving.{access_gives}
use Rattle.ep_unit_rules.proofs.giving.any_is_given.Given as goal

abbrev pub invariant-loop-a : goal.invariant-loop-a
invariant-loop-a l = any_true (map (λ a. access_gives l.name a true) (drop l.a-index l.all)) ≡ any_true (map (λ a. access_gives l.name a true) l.all)
