use Rattle.std.proofs.Common.{take}
use Rattle.std.specs.List.{All}
use Rattle.ep_order.specs.Dependents.{IsModuleAt}
use Rattle.ep_order.proofs.tests.are_modules.Given as goal

abbrev pub invariant-loop-supplier : goal.invariant-loop-supplier
invariant-loop-supplier l = All (IsModuleAt l.units) (take l.supplier-index l.suppliers)
