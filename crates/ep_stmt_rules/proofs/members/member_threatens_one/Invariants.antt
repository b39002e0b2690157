use Rattle.std.proofs.Common.{◌≡◌, drop, map}
use Rattle.std.specs.List.{list_any}
use Rattle.ep_threats.specs.Callees.{callees_of}
use Rattle.ep_stmt_rules.specs.Statements.{member_threat}
use Rattle.ep_stmt_rules.specs.Answers.{member_head_of}
use Rattle.ep_threats.specs.Variables.{entire_of}
use Rattle.ep_stmt_rules.proofs.members.member_threatens_one.Given as goal

abbrev pub invariant-loop-control : goal.invariant-loop-control
invariant-loop-control l =
    list_any (λ v. member_threat (callees_of l.routines) v (member_head_of l.head)) (map entire_of (drop l.control-index l.controls)) ≡ list_any (λ v. member_threat (callees_of l.routines) v (member_head_of l.head)) (map entire_of l.controls)
