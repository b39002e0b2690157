use Rattle.std.proofs.Common.{◌≡◌, drop}
use Rattle.ep_object.specs.Placing.{joined, linked, parts_of, placements}
use Rattle.ep_link.specs.Linking.{in_order}
use Rattle.ep_link.proofs.Placed.{placements_at}
use Rattle.ep_link.proofs.image.linked_image.Given as goal

abbrev pub invariant-loop-place : goal.invariant-loop-place
invariant-loop-place l =
    let os = in_order l.objects l.order in
    let rest = in_order l.objects (drop l.place-index l.order) in
    joined l.image (parts_of (placements os) (placements_at l.bases rest) rest) ≡ linked os
