use Rattle.std.proofs.Common.{take}
use Rattle.std.specs.List.{All}
use Rattle.ep_order.specs.declared.dependent.Dependent.{Dependent}
use Rattle.ep_order.specs.Dependents.{IsModuleAt}
use Rattle.ep_order.proofs.tests.have_modules.Given as goal

abbrev pub invariant-loop-unit : goal.invariant-loop-unit
invariant-loop-unit l = All (λ (unit : Dependent). All (IsModuleAt l.units) unit.suppliers) (take l.unit-index l.units)
