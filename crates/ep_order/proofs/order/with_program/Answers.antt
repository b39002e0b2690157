use Rattle.std.proofs.Common.{◌<◌, length, sym, subst}
use Rattle.std.specs.List.{All}
use Rattle.ep_order.specs.Orders.{IsOrder}
use Rattle.ep_order.specs.Dependents.{names_at, system_of}
use Rattle.ep_order.proofs.Placing.{order_alone, order_with}
use Rattle.ep_order.proofs.order.with_program.Goals as goal

pub returns-in-None-clause-within : goal.returns-in-None-clause-within
returns-in-None-clause-within c = (order_alone c.args.units.now c.requires.system c.args.modules c.requires.placing c.requires.whole c.in-None.ensures).0

pub returns-in-None-clause-order : goal.returns-in-None-clause-order
returns-in-None-clause-order c = (order_alone c.args.units.now c.requires.system c.args.modules c.requires.placing c.requires.whole c.in-None.ensures).1

pub returns-in_ok-push-in-Some-clause-within : goal.returns-in_ok-push-in-Some-clause-within
returns-in_ok-push-in-Some-clause-within c =
    subst (All (λ place. place < length c.args.units.now)) (sym c.in_ok-push-in-Some.ensures.ok)
    (order_with c.args.units.now c.requires.system c.args.modules c.requires.placing c.requires.whole c.in-Some.place c.in-Some.ensures).0

pub returns-in_ok-push-in-Some-clause-order : goal.returns-in_ok-push-in-Some-clause-order
returns-in_ok-push-in-Some-clause-order c =
    subst (λ l. IsOrder (system_of c.args.units.now) (names_at c.args.units.now l)) (sym c.in_ok-push-in-Some.ensures.ok)
    (order_with c.args.units.now c.requires.system c.args.modules c.requires.placing c.requires.whole c.in-Some.place c.in-Some.ensures).1
