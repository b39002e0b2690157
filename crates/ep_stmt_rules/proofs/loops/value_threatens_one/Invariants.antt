use Rattle.std.proofs.Common.{◌≡◌, drop, map}
use Rattle.std.specs.List.{list_any}
use Rattle.ep_typed.specs.Viewed.{expr_of}
use Rattle.ep_threats.specs.Variables.{entire_of}
use Rattle.ep_threats.specs.Callees.{callees_of}
use Rattle.ep_stmt_rules.specs.Statements.{expr_threat}
use Rattle.ep_stmt_rules.proofs.loops.value_threatens_one.Given as goal

abbrev pub invariant-loop-control : goal.invariant-loop-control
invariant-loop-control l =
    list_any (λ v. expr_threat (callees_of l.routines) v (expr_of l.x)) (map entire_of (drop l.control-index l.controls)) ≡ list_any (λ v. expr_threat (callees_of l.routines) v (expr_of l.x)) (map entire_of l.controls)
