use Rattle.std.proofs.Common.{◌≡◌, drop, map}
use Rattle.ep_stmt_rules.specs.Tags as spec
use Rattle.ep_stmt_rules.proofs.tags.+tag_assignments.Given as goal

abbrev pub invariant-any_assigns-loop-s : goal.invariant-any_assigns-loop-s
invariant-any_assigns-loop-s l = spec.any_assigns (map spec.statement_assigns (drop l.s-index l.all)) l.scopes ≡ spec.any_assigns (map spec.statement_assigns l.all) l.scopes

abbrev pub invariant-any_arm_assigns-loop-a : goal.invariant-any_arm_assigns-loop-a
invariant-any_arm_assigns-loop-a l = spec.any_assigns (map spec.arm_assigns (drop l.a-index l.all)) l.scopes ≡ spec.any_assigns (map spec.arm_assigns l.all) l.scopes
