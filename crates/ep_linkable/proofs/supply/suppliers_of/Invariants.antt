use Rattle.std.proofs.Common.{◌≡◌, map, take}
use Rattle.ep_linkable.specs.Faults.{supplier_place}
use Rattle.ep_linkable.proofs.supply.suppliers_of.Given as goal

abbrev pub invariant-loop-import : goal.invariant-loop-import
invariant-loop-import l = l.places ≡ map (supplier_place l.exporters) (take l.import-index l.imports)
