use Rattle.std.proofs.Common.{◌≡◌, get_or, subst, sym}
use Rattle.ep_linkable.specs.Faults.{AreFound}
use Rattle.ep_linkable.proofs.supply.dependents_of.Goals as goal

pub suppliers_of-requires : goal.suppliers_of-requires
suppliers_of-requires c =
    let unit = c.unit-item.result in
    let found = c.requires c.loop-unit.unit-index unit c.loop-unit-test.true in
    let e : c.items.result.now ≡ (get_or c.args.units.now c.loop-unit.unit-index unit).imports =
    cc (c.items.ensures, c.unit-item.is) in
    subst (AreFound c.args.exporters.now) (sym e) found
