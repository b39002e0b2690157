use Rattle.std.proofs.Common.{◌≡◌, ℕ, ◌||◌, drop, map}
use Rattle.ep_typed.specs.Trees.{actuals, designators, elements}
use Rattle.ep_typed.specs.Viewed.{actual_of, designator_of, element_of}
use Rattle.ep_threats.specs.Callees.{callees_of, formals_at}
use Rattle.ep_threats.specs.Threatened.{has, owned}
use Rattle.ep_threats.specs.Threats.{actuals_threaten, elements_threaten, members_threaten}
use Rattle.ep_threats.proofs.gathering.+gathered_in_expressions.Given as goal

abbrev pub invariant-elements_gathered-loop-e : goal.invariant-elements_gathered-loop-e
invariant-elements_gathered-loop-e l =
    (n : ℕ) → (has l.found n || elements_threaten (formals_at (callees_of l.routines)) (owned l.of n) (elements (map element_of (drop l.e-index l.all))))
    ≡ (has l.initial.found n || elements_threaten (formals_at (callees_of l.routines)) (owned l.of n) (elements (map element_of l.all)))

abbrev pub invariant-members_gathered-loop-designator : goal.invariant-members_gathered-loop-designator
invariant-members_gathered-loop-designator l =
    (n : ℕ) → (has l.found n || members_threaten (formals_at (callees_of l.routines)) (owned l.of n) (designators (map designator_of (drop l.designator-index l.all))))
    ≡ (has l.initial.found n || members_threaten (formals_at (callees_of l.routines)) (owned l.of n) (designators (map designator_of l.all)))

abbrev pub invariant-actuals_gathered-loop-place : goal.invariant-actuals_gathered-loop-place
invariant-actuals_gathered-loop-place l =
    (n : ℕ) → (has l.found n || actuals_threaten (formals_at (callees_of l.routines)) (owned l.of n) (drop l.place l.formals) (actuals (map actual_of (drop l.place l.given))))
    ≡ (has l.initial.found n || actuals_threaten (formals_at (callees_of l.routines)) (owned l.of n) l.formals (actuals (map actual_of l.given)))
