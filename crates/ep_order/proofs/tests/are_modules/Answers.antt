use Rattle.std.proofs.Common.{refl, subst}
use Rattle.std.specs.List.{All}
use Rattle.std.proofs.lemmas.List.{take_all}
use Rattle.std.proofs.lemmas.List.Elements.{All-more}
use Rattle.ep_order.specs.Dependents.{IsModuleAt}
use Rattle.ep_order.proofs.tests.are_modules.Goals as goal

pub loop-supplier-preserved : goal.loop-supplier-preserved
loop-supplier-preserved c = All-more (IsModuleAt c.args.units.now) c.args.suppliers.now c.loop-supplier.supplier-index 0 c.loop-supplier-test.true c.loop-supplier.invariant (c.if-not-is_module.ensures refl)

pub returns : goal.returns
returns c = λ _. subst (All (IsModuleAt c.args.units.now)) (take_all c.loop-supplier.supplier-index c.args.suppliers.now c.loop-supplier-test.false) c.loop-supplier.invariant
