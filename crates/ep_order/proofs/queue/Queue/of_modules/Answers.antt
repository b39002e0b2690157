use Rattle.std.proofs.Common.{◌≡◌, true, false, inl, inr, sym, subst, ◌∙◌, arith}
use Rattle.ep_order.specs.Dependents.{IsModuleAt}
use Rattle.ep_order.specs.Queues.{IsSound, IsKept}
use Rattle.ep_order.proofs.Lists.{same_or_not}
use Rattle.ep_order.proofs.Naming.{stands_read, module_read, module_within}
use Rattle.ep_order.proofs.Rounds.{empty_sound}
use Rattle.ep_order.proofs.queue.Queue.of_modules.Goals as goal
use Rattle.ep_order.proofs.queue.Queue.of_modules.Goals.{then-not-unit+in_ok-enter, else-not-unit}

pub loop-place-init : goal.loop-place-init
loop-place-init c = record {
  sound = empty_sound c.args.units.now c.args.placed.now.items c.in_ok-queue.queue c.in_ok-queue.ensures.rows c.in_ok-queue.ensures.ready c.in_ok-queue.ensures.waits;
  whole = λ other l m. absurd (omega (arith, l));
}

pub enter-requires-clause-module : goal.enter-requires-clause-module
enter-requires-clause-module c =
    let no : c.index-units-place.result.is_program ≡ false = first_of (cc, grind arith) in
    (c.index-units-place.result, stands_read c.args.units.now c.loop-place.place c.index-units-place.result c.loop-place-test.true c.index-units-place.is, no)

pub loop-place-preserved : goal.loop-place-preserved
loop-place-preserved c = elim c.if-not-unit.branch [
  | then-not-unit+in_ok-enter w ↦ record {
    sound = subst (IsSound c.args.units.now c.args.placed.now.items) (sym w.queue-is) w.in_ok-enter.ensures.sound;
    whole = λ other l m. subst (λ q. IsKept c.args.units.now c.args.placed.now.items q other) (sym w.queue-is) (elim (same_or_not other c.loop-place.place) [
      | inl e ↦ subst (IsKept c.args.units.now c.args.placed.now.items w.enter.new.self) (sym e) w.in_ok-enter.ensures.entered
      | inr ne ↦ w.in_ok-enter.ensures.kept other (c.loop-place.invariant.whole other (omega (arith, l, ne)) m)
    ]);
  }
  | else-not-unit w ↦ record {
    sound = subst (IsSound c.args.units.now c.args.placed.now.items) (sym w.queue-is) c.loop-place.invariant.sound;
    whole = λ other l m. elim (same_or_not other c.loop-place.place) [
      | inl e ↦
          let yes : c.index-units-place.result.is_program ≡ true = first_of (cc, grind arith) in
          let no : true ≡ false = sym yes ∙ module_read c.args.units.now c.loop-place.place c.index-units-place.result (subst (IsModuleAt c.args.units.now) e m) c.index-units-place.is in
          cc
      | inr ne ↦ subst (λ q. IsKept c.args.units.now c.args.placed.now.items q other) (sym w.queue-is) (c.loop-place.invariant.whole other (omega (arith, l, ne)) m)
    ];
  }
]

pub returns-clause-whole : goal.returns-clause-whole
returns-clause-whole c = λ place m. inr (c.loop-place.invariant.whole place (omega (arith, module_within c.args.units.now place m)) m)
