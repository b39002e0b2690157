use Rattle.std.proofs.Common.{◌≡◌, ◌∷◌, ◌+◌, ◌∙◌, drop, sym, ap}
use Rattle.ep_object.specs.Placing.{empty_image, image_part, joined, parts_of, placements}
use Rattle.ep_link.specs.Linking.{in_order}
use Rattle.ep_link.specs.Parts.{object_part}
use Rattle.ep_link.specs.Placements.{placement_at, bases_after}
use Rattle.ep_link.proofs.Ordered.{ordered-more}
use Rattle.ep_link.proofs.Placed.{bases_behind, placed_from_first, placements_at, part_is}
use Rattle.ep_link.proofs.public.Linked.{regroup}
use Rattle.ep_link.proofs.image.linked_image.Goals as goal

pub loop-place-init : goal.loop-place-init
loop-place-init c =
    let os = in_order c.args.objects.now c.args.order.now in
    let ps = placements os in
    ap (λ g. joined g (parts_of ps (placements_at c.first-bases.result os) os)) c.empty_image-image.ensures
    ∙ ap (λ b. joined empty_image (parts_of ps (placements_at b os) os)) c.first-bases.ensures
    ∙ ap (λ qs. joined empty_image (parts_of ps qs os)) (sym (placed_from_first os))

pub loop-place-preserved : goal.loop-place-preserved
loop-place-preserved c =
    let objects = c.args.objects.now in
    let i = c.loop-place.place-index in
    let o = c.index-objects-place.result in
    let b = c.loop-place.bases in
    let ps = placements (in_order objects c.args.order.now) in
    let rest = in_order objects (drop (i + 1) c.args.order.now) in
    let order : in_order objects (drop i c.args.order.now) ≡ o ∷ rest =
    ordered-more objects c.args.order.now i o c.loop-place-test.true c.requires c.index-objects-place.is in
    let appended : c.append_object.new.image ≡ joined c.loop-place.image (image_part ps (placement_at b o) o) =
    c.in_ok-append_object.ensures
    ∙ ap (λ p. joined c.loop-place.image (object_part c.in_ok-units.units p o)) c.in_ok-placement.ensures
    ∙ ap (joined c.loop-place.image) (part_is c.in_ok-units.units ps c.in_ok-units.ensures (placement_at b o) o) in
    let bases : c.in_ok-bases.bases ≡ bases_behind b o =
    c.in_ok-bases.ensures ∙ ap bases_after c.in_ok-placement.ensures in
    let longer = joined c.loop-place.image (image_part ps (placement_at b o) o) in
    let behind = parts_of ps (placements_at (bases_behind b o) rest) rest in
    ap (λ g. joined g (parts_of ps (placements_at c.in_ok-bases.bases rest) rest)) appended
    ∙ ap (λ d. joined longer (parts_of ps (placements_at d rest) rest)) bases
    ∙ sym (regroup c.loop-place.image (image_part ps (placement_at b o) o) behind)
    ∙ ap (λ xs. joined c.loop-place.image (parts_of ps (placements_at b xs) xs)) (sym order)
    ∙ c.loop-place.invariant
