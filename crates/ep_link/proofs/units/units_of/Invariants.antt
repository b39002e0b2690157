use Rattle.std.proofs.Common.{◌≡◌, ℕ, List, drop}
use Rattle.ep_link.specs.Linking.{in_order}
use Rattle.ep_link.specs.Placements.{first_bases}
use Rattle.ep_link.specs.Units.{unit_named, if_none}
use Rattle.ep_link.proofs.Named.{found_at}
use Rattle.ep_link.proofs.units.units_of.Given as goal

abbrev pub invariant-loop-place : goal.invariant-loop-place
invariant-loop-place l =
    (name : List ℕ)
    → if_none (unit_named l.units name) (found_at l.bases (in_order l.objects (drop l.place-index l.order)) name)
    ≡ found_at first_bases (in_order l.objects l.order) name
