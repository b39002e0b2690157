use Rattle.std.proofs.Common.{◌≡◌, ◌<◌, get_or, length, sym, subst, ap, ◌∙◌}
use Rattle.std.specs.List.{Contains}
use Rattle.std.proofs.lemmas.Option.{slice_get_within, get_or_from_slice_get}
use Rattle.std.proofs.lemmas.List.Elements.{Contains-get_or}
use Rattle.ep_order.specs.declared.dependent.Dependent.{Dependent}
use Rattle.ep_order.proofs.Naming.{unit_at, suppliers_within, supplier_module}
use Rattle.ep_order.proofs.Queues.{ready_from}
use Rattle.ep_order.proofs.circle.open_supplier.Goals as goal

pub first_open-requires-clause-within : goal.first_open-requires-clause-within
first_open-requires-clause-within c =
    let at = unit_at c.args.units.now c.args.place c.index-units-place.result c.requires.module c.index-units-place.is in
    let is : c.items-suppliers.result.now ≡ c.index-units-place.result.suppliers = c.items-suppliers.ensures ∙ ap (λ (u : Dependent). u.suppliers) (sym c.index-units-place.is) in
    suppliers_within c.args.units.now c.requires.system c.args.place c.index-units-place.result at.0 _ is _ c.requires.limit

pub unreachable-requires : goal.unreachable-requires
unreachable-requires c =
    let at = unit_at c.args.units.now c.args.place c.index-units-place.result c.requires.module c.index-units-place.is in
    let is : c.items-suppliers.result.now ≡ c.index-units-place.result.suppliers = c.items-suppliers.ensures ∙ ap (λ (u : Dependent). u.suppliers) (sym c.index-units-place.is) in
    let s = c.requires.stuck c.args.place c.requires.module c.requires.left in
    s.2 ((ready_from c.args.units.now c.args.placed.now.items c.args.place c.index-units-place.result c.items-suppliers.result.now c.requires.module c.requires.left at.0 is c.in-None.ensures).supplied s.0 s.1)

pub bounds-suppliers-number : goal.bounds-suppliers-number
bounds-suppliers-number c = slice_get_within _ _ _ c.in-Some.ensures.1

pub returns-clause-supplies : goal.returns-clause-supplies
returns-clause-supplies c =
    let at = unit_at c.args.units.now c.args.place c.index-units-place.result c.requires.module c.index-units-place.is in
    let is : c.items-suppliers.result.now ≡ c.index-units-place.result.suppliers = c.items-suppliers.ensures ∙ ap (λ (u : Dependent). u.suppliers) (sym c.index-units-place.is) in
    let within : c.in-Some.number < length c.items-suppliers.result.now = slice_get_within _ _ _ c.in-Some.ensures.1 in
    (c.index-units-place.result, at.0, subst (λ l. Contains l (get_or c.items-suppliers.result.now c.in-Some.number 0)) is (Contains-get_or c.items-suppliers.result.now c.in-Some.number 0 within))

pub returns-clause-left : goal.returns-clause-left
returns-clause-left c = subst (λ s. ¬ Contains c.args.placed.now.items s) (sym (get_or_from_slice_get c.items-suppliers.result.now c.in-Some.number c.in-Some.ensures.0 0 c.in-Some.ensures.1)) c.in-Some.ensures.2

pub returns-clause-module : goal.returns-clause-module
returns-clause-module c =
    let at = unit_at c.args.units.now c.args.place c.index-units-place.result c.requires.module c.index-units-place.is in
    let is : c.items-suppliers.result.now ≡ c.index-units-place.result.suppliers = c.items-suppliers.ensures ∙ ap (λ (u : Dependent). u.suppliers) (sym c.index-units-place.is) in
    let within : c.in-Some.number < length c.items-suppliers.result.now = slice_get_within _ _ _ c.in-Some.ensures.1 in
    supplier_module c.args.units.now c.requires.system (get_or c.items-suppliers.result.now c.in-Some.number 0) c.args.place
    (c.index-units-place.result, at.0, subst (λ l. Contains l (get_or c.items-suppliers.result.now c.in-Some.number 0)) is (Contains-get_or c.items-suppliers.result.now c.in-Some.number 0 within))
