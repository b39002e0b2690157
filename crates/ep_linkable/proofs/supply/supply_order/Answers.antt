use Rattle.std.proofs.Common.{◌≡◌, ◌∙◌, ap, subst, sym}
use Rattle.ep_order.specs.Dependents.{IsActivation, IsSystem}
use Rattle.ep_linkable.specs.Units.{names_at}
use Rattle.ep_linkable.proofs.Supplies.{are_found, circle_refused, circled, dependents_system, none_circle, ordered}
use Rattle.ep_linkable.proofs.Supplies.{places_within}
use Rattle.ep_linkable.proofs.supply.supply_order.Goals as goal

pub dependents_of-requires : goal.dependents_of-requires
dependents_of-requires c = are_found c.args.units.now c.args.exporters.now c.requires.exporters c.requires.found

pub activation_order-requires : goal.activation_order-requires
activation_order-requires c =
    subst IsSystem (sym (c.items.ensures ∙ c.in_ok-dependents.ensures))
    (dependents_system c.args.units.now c.args.exporters.now c.requires.exporters c.requires.found c.requires.few
    c.requires.program c.requires.apart)

pub returns-in-Ordered-clause-order : goal.returns-in-Ordered-clause-order
returns-in-Ordered-clause-order c =
    ordered c.args.units.now c.args.exporters.now c.requires.exporters c.requires.found c.items.result.now
    (c.items.ensures ∙ c.in_ok-dependents.ensures) c.in-Ordered.places
    (subst (IsActivation c.items.result.now) c.in-Ordered.is c.in_ok-activation.ensures)

pub returns-in-Ordered-clause-within : goal.returns-in-Ordered-clause-within
returns-in-Ordered-clause-within c =
    places_within c.args.units.now c.args.exporters.now c.requires.exporters c.requires.found c.items.result.now
    (c.items.ensures ∙ c.in_ok-dependents.ensures) c.in-Ordered.places
    (subst (IsActivation c.items.result.now) c.in-Ordered.is c.in_ok-activation.ensures).0

pub returns-in-Ordered-clause-none : goal.returns-in-Ordered-clause-none
returns-in-Ordered-clause-none c =
    none_circle c.args.units.now (names_at c.args.units.now c.in-Ordered.places)
    (ordered c.args.units.now c.args.exporters.now c.requires.exporters c.requires.found c.items.result.now
    (c.items.ensures ∙ c.in_ok-dependents.ensures) c.in-Ordered.places
    (subst (IsActivation c.items.result.now) c.in-Ordered.is c.in_ok-activation.ensures))
    c.requires.none

pub returns-clause-circle : goal.returns-clause-circle
returns-clause-circle c =
    let names : c.in_ok-names-in-Circle.names ≡ names_at c.args.units.now c.in-Circle.places =
    c.in_ok-names-in-Circle.ensures ∙ ap (λ places. names_at c.args.units.now places) c.items-in-Circle.ensures in
    circle_refused c.args.units.now c.in_ok-names-in-Circle.names (names_at c.args.units.now c.in-Circle.places) names
    (circled c.args.units.now c.args.exporters.now c.requires.exporters c.requires.found c.items.result.now
    (c.items.ensures ∙ c.in_ok-dependents.ensures) c.in-Circle.places
    (subst (IsActivation c.items.result.now) c.in-Circle.is c.in_ok-activation.ensures))
    c.requires.none
