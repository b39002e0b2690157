use Rattle.std.proofs.Common.{◌≡◌, ℕ, ◌||◌, drop, map}
use Rattle.std.specs.List.{list_any}
use Rattle.ep_typed.specs.Trees.{OfUnit}
use Rattle.ep_threats.specs.Callees.{callees_of, formals_at}
use Rattle.ep_threats.specs.RoutineForms.{routine_form}
use Rattle.ep_threats.specs.Threatened.{has}
use Rattle.ep_threats.specs.Threats.{threatens}
use Rattle.ep_threats.proofs.routines.unit_gathered.Given as goal

abbrev pub invariant-loop-routine : goal.invariant-loop-routine
invariant-loop-routine l =
    (n : ℕ) → (has l.found n || list_any (λ r. threatens (formals_at (callees_of l.routines)) (OfUnit l.unit n) r.block) (map routine_form (drop l.routine-index l.routines.own.now)))
    ≡ (has l.initial.found n || list_any (λ r. threatens (formals_at (callees_of l.routines)) (OfUnit l.unit n) r.block) (map routine_form l.routines.own.now))
