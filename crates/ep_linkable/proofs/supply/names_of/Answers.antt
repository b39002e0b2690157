use Rattle.std.proofs.Common.{◌≡◌, ◌∙◌, get_or}
use Rattle.ep_linkable.specs.Units.{name_at}
use Rattle.ep_linkable.proofs.Faults.{name_there}
use Rattle.ep_linkable.proofs.Supplies.{names_more}
use Rattle.ep_linkable.proofs.supply.names_of.Goals as goal

pub loop-place-preserved : goal.loop-place-preserved
loop-place-preserved c =
    let units = c.args.units.now in
    let places = c.args.places.now in
    let i = c.loop-place.place-index in
    let there = name_there units (get_or places i 0) c.index-units-place.result
    (c.requires i 0 c.loop-place-test.true) in
    let copy : c.in_ok-copy.copy ≡ name_at units (get_or places i 0) =
    cc (there, c.in_ok-copy.ensures, c.index-units-place.is) in
    c.in_ok-push.ensures.ok
    ∙ names_more units places i c.loop-place.names c.in_ok-copy.copy c.loop-place-test.true c.loop-place.invariant copy
