use Rattle.std.proofs.Common.{◌≡◌, drop, map}
use Rattle.ep_typed.specs.Trees.{actuals, designators, elements}
use Rattle.ep_typed.specs.Viewed.{actual_of, designator_of, element_of}
use Rattle.ep_threats.specs.Variables.{entire_of}
use Rattle.ep_threats.specs.Callees.{callees_of, formals_at}
use Rattle.ep_threats.specs.Threats.{actuals_threaten, elements_threaten, members_threaten}
use Rattle.ep_threats.proofs.threats.+threats_in_expressions.Given as goal

abbrev pub invariant-actuals_threaten-loop-place : goal.invariant-actuals_threaten-loop-place
invariant-actuals_threaten-loop-place l = actuals_threaten (formals_at (callees_of l.routines)) (entire_of l.variable) (drop l.place l.formals) (actuals (map actual_of (drop l.place l.given))) ≡ actuals_threaten (formals_at (callees_of l.routines)) (entire_of l.variable) l.formals (actuals (map actual_of l.given))

abbrev pub invariant-members_threaten-loop-designator : goal.invariant-members_threaten-loop-designator
invariant-members_threaten-loop-designator l = members_threaten (formals_at (callees_of l.routines)) (entire_of l.variable) (designators (map designator_of (drop l.designator-index l.all))) ≡ members_threaten (formals_at (callees_of l.routines)) (entire_of l.variable) (designators (map designator_of l.all))

abbrev pub invariant-elements_threaten-loop-e : goal.invariant-elements_threaten-loop-e
invariant-elements_threaten-loop-e l = elements_threaten (formals_at (callees_of l.routines)) (entire_of l.variable) (elements (map element_of (drop l.e-index l.all))) ≡ elements_threaten (formals_at (callees_of l.routines)) (entire_of l.variable) (elements (map element_of l.all))
