use Rattle.std.proofs.Common.{◌≡◌, drop, map}
use Rattle.std.specs.List.{list_any}
use Rattle.ep_threats.specs.Variables.{entire_of}
use Rattle.ep_threats.specs.Callees.{callees_of}
use Rattle.ep_threats.specs.RoutineForms.{routine_form}
use Rattle.ep_stmt_rules.specs.Statements.{stmt_threat}
use Rattle.ep_stmt_rules.proofs.loops.routines_threaten.Given as goal

abbrev pub invariant-loop-routine : goal.invariant-loop-routine
invariant-loop-routine l =
    list_any (λ r. stmt_threat (callees_of l.routines) (entire_of l.variable) r.block) (map routine_form (drop l.routine-index l.routines.own.now)) ≡ list_any (λ r. stmt_threat (callees_of l.routines) (entire_of l.variable) r.block) (map routine_form l.routines.own.now)
