use Rattle.std.proofs.Common.{◌≡◌, drop, map}
use Rattle.std.specs.List.{list_any}
use Rattle.ep_threats.specs.Callees.{callees_of}
use Rattle.ep_stmt_rules.specs.Statements.{head_threat}
use Rattle.ep_stmt_rules.specs.Answers.{head_of}
use Rattle.ep_threats.specs.Variables.{entire_of}
use Rattle.ep_stmt_rules.proofs.loops.head_threatens_one.Given as goal

abbrev pub invariant-loop-control : goal.invariant-loop-control
invariant-loop-control l =
    list_any (λ v. head_threat (callees_of l.routines) v (head_of l.head)) (map entire_of (drop l.control-index l.controls)) ≡ list_any (λ v. head_threat (callees_of l.routines) v (head_of l.head)) (map entire_of l.controls)
