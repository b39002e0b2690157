use Rattle.std.proofs.Common.{◌≡◌, drop, map}
use Rattle.ep_threats.specs.RoutineForms.{routine_form}
use Rattle.ep_unit_rules.specs.Functions.{has_unknown}
use Rattle.ep_unit_rules.proofs.functions.has_unknown.Given as goal

abbrev pub invariant-loop-routine : goal.invariant-loop-routine
invariant-loop-routine l = has_unknown l.number (map routine_form (drop l.routine-index l.routines)) ≡ has_unknown l.number (map routine_form l.routines)
