use Rattle.std.proofs.Common.{◌≡◌, drop, map, nat_eq, position}
use Rattle.std.specs.List.{list_any}
use Rattle.ep_threats.specs.Callees.{callees_of}
use Rattle.ep_threats.specs.RoutineForms.{routine_form}
use Rattle.ep_threats.specs.Threats.{threatens_from}
use Rattle.ep_threats.proofs.threats.one_threatens_from.Given as goal

abbrev pub invariant-loop-inner : goal.invariant-loop-inner
invariant-loop-inner l =
    list_any (λ r. threatens_from (callees_of l.routines) l.number r.block (position (nat_eq l.routine) r.around)) (map routine_form (drop l.inner-index l.some))
    ≡ list_any (λ r. threatens_from (callees_of l.routines) l.number r.block (position (nat_eq l.routine) r.around)) (map routine_form l.some)
