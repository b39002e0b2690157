use Rattle.std.proofs.Common.{◌≡◌, drop, map}
use Rattle.ep_threats.specs.Threats.{any_true, arm_assigns, statement_assigns}
use Rattle.ep_threats.proofs.threats.+assignments.Given as goal

abbrev pub invariant-any_assigns-loop-s : goal.invariant-any_assigns-loop-s
invariant-any_assigns-loop-s l = any_true (map (statement_assigns l.name) (drop l.s-index l.all)) ≡ any_true (map (statement_assigns l.name) l.all)

abbrev pub invariant-any_arm_assigns-loop-a : goal.invariant-any_arm_assigns-loop-a
invariant-any_arm_assigns-loop-a l = any_true (map (arm_assigns l.name) (drop l.a-index l.all)) ≡ any_true (map (arm_assigns l.name) l.all)
