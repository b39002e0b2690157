use Rattle.std.proofs.Common.{◌≡◌, ℕ, ◌||◌, drop, map, nat_eq, position}
use Rattle.std.specs.List.{list_any}
use Rattle.ep_threats.specs.Callees.{callees_of}
use Rattle.ep_threats.specs.RoutineForms.{routine_form}
use Rattle.ep_threats.specs.Threatened.{has}
use Rattle.ep_threats.specs.Threats.{threatens_from}
use Rattle.ep_threats.proofs.routines.some_gathered.Given as goal

abbrev pub invariant-loop-inner : goal.invariant-loop-inner
invariant-loop-inner l =
    (n : ℕ) → (has l.found n || list_any (λ r. threatens_from (callees_of l.routines) n r.block (position (nat_eq l.routine) r.around)) (map routine_form (drop l.inner-index l.some)))
    ≡ (has l.initial.found n || list_any (λ r. threatens_from (callees_of l.routines) n r.block (position (nat_eq l.routine) r.around)) (map routine_form l.some))
