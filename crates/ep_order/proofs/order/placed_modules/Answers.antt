use Rattle.std.proofs.Common.{sym, subst, ◌∙◌, arith}
use Rattle.ep_order.specs.Placings.{IsPlacing}
use Rattle.ep_order.specs.Queues.{IsWoken}
use Rattle.ep_order.proofs.Naming.{module_within}
use Rattle.ep_order.proofs.Rounds.{taken_ready, taken_placing, taken_woken, stuck_from}
use Rattle.ep_order.proofs.order.placed_modules.Goals as goal

pub push-requires-clause-within : goal.push-requires-clause-within
push-requires-clause-within c =
    let ready = taken_ready c.args.units.now c.requires c.loop-place.placed.items c.loop-place.queue c.next.new.self c.in-Some.place c.in-Some.ensures.0 c.loop-place.invariant.placing c.loop-place.invariant.sound c.loop-place.invariant.whole c.in-Some.ensures.1 in
    omega (arith, module_within c.args.units.now c.in-Some.place ready.stands, c.loop-place.invariant.limit)

pub push-requires-clause-new : goal.push-requires-clause-new
push-requires-clause-new c = (taken_ready c.args.units.now c.requires c.loop-place.placed.items c.loop-place.queue c.next.new.self c.in-Some.place c.in-Some.ensures.0 c.loop-place.invariant.placing c.loop-place.invariant.sound c.loop-place.invariant.whole c.in-Some.ensures.1).unplaced

pub wake-requires-clause-within : goal.wake-requires-clause-within
wake-requires-clause-within c =
    let ready = taken_ready c.args.units.now c.requires c.loop-place.placed.items c.loop-place.queue c.next.new.self c.in-Some.place c.in-Some.ensures.0 c.loop-place.invariant.placing c.loop-place.invariant.sound c.loop-place.invariant.whole c.in-Some.ensures.1 in
    module_within c.args.units.now c.in-Some.place ready.stands

pub wake-requires-clause-woken : goal.wake-requires-clause-woken
wake-requires-clause-woken c =
    subst (λ l. IsWoken c.args.units.now l c.next.new.self c.in-Some.place) (sym c.in_ok-push.ensures.items)
    (taken_woken c.args.units.now c.requires c.loop-place.placed.items c.loop-place.queue c.next.new.self c.in-Some.place c.in-Some.ensures.0 c.loop-place.invariant.placing c.loop-place.invariant.sound c.loop-place.invariant.whole c.in-Some.ensures.1)

pub loop-place-preserved : goal.loop-place-preserved
loop-place-preserved c = record {
  limit = c.in_ok-push.ensures.limit ∙ c.loop-place.invariant.limit;
  placing = subst (IsPlacing c.args.units.now) (sym c.in_ok-push.ensures.items)
      (taken_placing c.args.units.now c.requires c.loop-place.placed.items c.loop-place.queue c.next.new.self c.in-Some.place c.in-Some.ensures.0 c.loop-place.invariant.placing c.loop-place.invariant.sound c.loop-place.invariant.whole c.in-Some.ensures.1);
  sound = c.in_ok-wake.ensures.sound;
  whole = c.in_ok-wake.ensures.whole;
}

pub returns-clause-stuck : goal.returns-clause-stuck
returns-clause-stuck c = stuck_from c.args.units.now c.loop-place.placed.items c.loop-place.queue c.loop-place.invariant.sound c.loop-place.invariant.whole c.in_default.ensures
