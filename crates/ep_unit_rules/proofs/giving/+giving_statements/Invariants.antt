use Rattle.std.proofs.Common.{◌≡◌, drop, map}
use Rattle.ep_threats.specs.Threats.{any_true}
use Rattle.ep_unit_rules.specs.Giving.{arm_gives, statement_gives}
use Rattle.ep_unit_rules.proofs.giving.+giving_statements.Given as goal

abbrev pub invariant-any_gives-loop-s : goal.invariant-any_gives-loop-s
invariant-any_gives-loop-s l = any_true (map (statement_gives l.name) (drop l.s-index l.all)) ≡ any_true (map (statement_gives l.name) l.all)

abbrev pub invariant-any_arm_gives-loop-a : goal.invariant-any_arm_gives-loop-a
invariant-any_arm_gives-loop-a l = any_true (map (arm_gives l.name) (drop l.a-index l.all)) ≡ any_true (map (arm_gives l.name) l.all)
