use Rattle.std.proofs.Common.{◌≡◌, ◌∷◌, ◌+◌, ◌∙◌, drop, sym, ap}
use Rattle.std.specs.Option.{option_map}
use Rattle.ep_object.specs.Placing.{placement_of}
use Rattle.ep_link.specs.Linking.{in_order}
use Rattle.ep_link.specs.Placements.{nameless, placement_at, bases_after}
use Rattle.ep_link.specs.Units.{unit_named, if_none, with_first}
use Rattle.ep_link.proofs.Named.{found_at, found-more, found-all}
use Rattle.ep_link.proofs.Ordered.{ordered-more, ordered-all}
use Rattle.ep_link.proofs.Placed.{bases_behind, placed_from_first}
use Rattle.ep_link.proofs.units.units_of.Goals as goal

pub loop-place-preserved : goal.loop-place-preserved
loop-place-preserved c name =
    let os = c.args.objects.now in
    let i = c.loop-place.place-index in
    let o = c.index-objects-place.result in
    let b = c.loop-place.bases in
    let rest = in_order os (drop (i + 1) c.args.order.now) in
    let found = unit_named c.loop-place.units in
    let order : in_order os (drop i c.args.order.now) ≡ o ∷ rest =
    ordered-more os c.args.order.now i o c.loop-place-test.true c.requires c.index-objects-place.is in
    let added : unit_named c.add.new.self name ≡ with_first found o.name (nameless (placement_at b o)) name =
    c.in_ok-add.ensures name ∙ ap (λ p. with_first found o.name p name) c.in_ok-placement.ensures in
    let bases : c.in_ok-bases.bases ≡ bases_behind b o =
    c.in_ok-bases.ensures ∙ ap bases_after c.in_ok-placement.ensures in
    ap (λ f. if_none f (found_at c.in_ok-bases.bases rest name)) added
    ∙ ap (λ d. if_none (with_first found o.name (nameless (placement_at b o)) name) (found_at d rest name)) bases
    ∙ found-more found b o rest name
    ∙ ap (λ xs. if_none (found name) (found_at b xs name)) (sym order)
    ∙ c.loop-place.invariant name

pub returns : goal.returns
returns c name =
    let os = in_order c.args.objects.now c.args.order.now in
    let end = ordered-all c.args.objects.now c.args.order.now c.loop-place.place-index c.loop-place-test.false in
    sym (found-all (unit_named c.loop-place.units name))
    ∙ ap (λ xs. if_none (unit_named c.loop-place.units name) (found_at c.loop-place.bases xs name)) (sym end)
    ∙ c.loop-place.invariant name
    ∙ ap (λ ps. option_map nameless (placement_of ps name)) (sym (placed_from_first os))
