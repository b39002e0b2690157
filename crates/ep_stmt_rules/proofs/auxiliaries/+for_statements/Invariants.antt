use Rattle.std.proofs.Common.{◌≡◌, drop, map}
use Rattle.ep_stmt_rules.specs.Auxiliaries.{arm_has, statement_has}
use Rattle.ep_threats.specs.Threats.{any_true}
use Rattle.ep_stmt_rules.proofs.auxiliaries.+for_statements.Given as goal

abbrev pub invariant-any_has-loop-s : goal.invariant-any_has-loop-s
invariant-any_has-loop-s l = any_true (map (statement_has l.form) (drop l.s-index l.all)) ≡ any_true (map (statement_has l.form) l.all)

abbrev pub invariant-any_arm_has-loop-a : goal.invariant-any_arm_has-loop-a
invariant-any_arm_has-loop-a l = any_true (map (arm_has l.form) (drop l.a-index l.all)) ≡ any_true (map (arm_has l.form) l.all)
