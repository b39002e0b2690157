use Rattle.std.proofs.Common.{◌≡◌, get_or, refl, subst}
use Rattle.std.specs.List.{All}
use Rattle.std.proofs.lemmas.List.{take_all}
use Rattle.std.proofs.lemmas.List.Elements.{All-more}
use Rattle.ep_order.specs.declared.dependent.Dependent.{Dependent}
use Rattle.ep_order.specs.Dependents.{IsModuleAt}
use Rattle.ep_order.proofs.tests.have_modules.Goals as goal

pub loop-unit-preserved : goal.loop-unit-preserved
loop-unit-preserved c =
    let is : c.items.result.now ≡ (get_or c.args.units.now c.loop-unit.unit-index c.unit-item.result).suppliers = cc in
    All-more (λ (unit : Dependent). All (IsModuleAt c.args.units.now) unit.suppliers) c.args.units.now c.loop-unit.unit-index c.unit-item.result c.loop-unit-test.true c.loop-unit.invariant
    (subst (All (IsModuleAt c.args.units.now)) is (c.if-not-are_modules.ensures refl))

pub returns : goal.returns
returns c = λ _. subst (All (λ (unit : Dependent). All (IsModuleAt c.args.units.now) unit.suppliers)) (take_all c.loop-unit.unit-index c.args.units.now c.loop-unit-test.false) c.loop-unit.invariant
