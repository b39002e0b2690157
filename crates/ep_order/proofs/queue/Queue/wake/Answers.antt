use Rattle.std.proofs.Common.{◌≡◌, ◌<◌, Some, slice_get, get_or, length, refl, sym, subst, ap, ◌∙◌, arith}
use Rattle.std.specs.declared.vec.Vec.{Vec}
use Rattle.std.specs.declared.alloc.Global.{Global}
use Rattle.std.specs.Vec.{with_item}
use Rattle.std.proofs.lemmas.Option.{slice_get-get_or, slice_get_read, same_Some}
use Rattle.ep_order.specs.declared.dependent.Dependent.{Dependent}
use Rattle.ep_order.specs.declared.queue.Waiter.{Waiter}
use Rattle.ep_order.specs.Placings.{ArePlacedBefore}
use Rattle.ep_order.proofs.Lists.{contains_at}
use Rattle.ep_order.proofs.Rounds.{IsWaking, waking_begin, waking_more, waking_end}
use Rattle.ep_order.proofs.queue.Queue.wake.Goals as goal

pub loop-waiter-init : goal.loop-waiter-init
loop-waiter-init c =
    let within : c.args.place < length c.args.self.now.waiting.items = omega (arith, c.requires.within, c.requires.woken.sound.rows) in
    let row : c.deref-waiter-items.result.now ≡ c.index_mut.result.now.items = c.deref-waiter-items.ensures.value ∙ ap (λ (v : Vec Waiter Global). v.items) c.replace-woken.ensures.value in
    subst (λ l. IsWaking c.args.units.now c.args.placed.now.items c.args.place l (record { ready = c.args.self.now.ready; waiting = with_item c.args.self.now.waiting c.args.place c.replace-woken.new.dest }) 0) (sym row)
    (waking_begin c.args.units.now c.args.placed.now.items c.args.self.now
    (record { ready = c.args.self.now.ready; waiting = with_item c.args.self.now.waiting c.args.place c.replace-woken.new.dest })
    c.args.place c.index_mut.result.now c.replace-woken.new.dest c.requires.woken
    (slice_get_read c.args.self.now.waiting.items (length c.args.self.now.waiting.items) c.args.place c.index_mut.result.now refl within c.index_mut.ensures.value)
    (ap (λ (v : Vec Waiter Global). v.items) c.replace-woken.ensures.after ∙ c.new.ensures.items) refl refl)

pub enter-requires-clause-module : goal.enter-requires-clause-module
enter-requires-clause-module c =
    let at : slice_get c.deref-waiter-items.result.now c.loop-waiter.waiter-index ≡ Some (get_or c.deref-waiter-items.result.now c.loop-waiter.waiter-index (record { unit = 0; supplier = 0 })) = slice_get-get_or c.deref-waiter-items.result.now c.loop-waiter.waiter-index (record { unit = 0; supplier = 0 }) c.loop-waiter-test.true in
    let has = contains_at c.deref-waiter-items.result.now c.loop-waiter.waiter-index (get_or c.deref-waiter-items.result.now c.loop-waiter.waiter-index (record { unit = 0; supplier = 0 })) at in
    let waits = c.loop-waiter.invariant.waits (get_or c.deref-waiter-items.result.now c.loop-waiter.waiter-index (record { unit = 0; supplier = 0 })).unit (get_or c.deref-waiter-items.result.now c.loop-waiter.waiter-index (record { unit = 0; supplier = 0 })).supplier has in
    (waits.0, waits.1, waits.2)

pub enter-requires-clause-unplaced : goal.enter-requires-clause-unplaced
enter-requires-clause-unplaced c =
    let at : slice_get c.deref-waiter-items.result.now c.loop-waiter.waiter-index ≡ Some (get_or c.deref-waiter-items.result.now c.loop-waiter.waiter-index (record { unit = 0; supplier = 0 })) = slice_get-get_or c.deref-waiter-items.result.now c.loop-waiter.waiter-index (record { unit = 0; supplier = 0 }) c.loop-waiter-test.true in
    let has = contains_at c.deref-waiter-items.result.now c.loop-waiter.waiter-index (get_or c.deref-waiter-items.result.now c.loop-waiter.waiter-index (record { unit = 0; supplier = 0 })) at in
    let waits = c.loop-waiter.invariant.waits (get_or c.deref-waiter-items.result.now c.loop-waiter.waiter-index (record { unit = 0; supplier = 0 })).unit (get_or c.deref-waiter-items.result.now c.loop-waiter.waiter-index (record { unit = 0; supplier = 0 })).supplier has in
    c.loop-waiter.invariant.unplaced (get_or c.deref-waiter-items.result.now c.loop-waiter.waiter-index (record { unit = 0; supplier = 0 })).unit (get_or c.deref-waiter-items.result.now c.loop-waiter.waiter-index (record { unit = 0; supplier = 0 })).supplier has

pub enter-requires-clause-before : goal.enter-requires-clause-before
enter-requires-clause-before c = λ unit stands.
    let at : slice_get c.deref-waiter-items.result.now c.loop-waiter.waiter-index ≡ Some (get_or c.deref-waiter-items.result.now c.loop-waiter.waiter-index (record { unit = 0; supplier = 0 })) = slice_get-get_or c.deref-waiter-items.result.now c.loop-waiter.waiter-index (record { unit = 0; supplier = 0 }) c.loop-waiter-test.true in
    let has = contains_at c.deref-waiter-items.result.now c.loop-waiter.waiter-index (get_or c.deref-waiter-items.result.now c.loop-waiter.waiter-index (record { unit = 0; supplier = 0 })) at in
    let waits = c.loop-waiter.invariant.waits (get_or c.deref-waiter-items.result.now c.loop-waiter.waiter-index (record { unit = 0; supplier = 0 })).unit (get_or c.deref-waiter-items.result.now c.loop-waiter.waiter-index (record { unit = 0; supplier = 0 })).supplier has in
    subst (λ (u : Dependent). ArePlacedBefore c.args.placed.now.items u.suppliers (get_or c.deref-waiter-items.result.now c.loop-waiter.waiter-index (record { unit = 0; supplier = 0 })).supplier) (same_Some waits.0 unit (sym waits.1 ∙ stands)) waits.4

pub enter-requires-clause-sound : goal.enter-requires-clause-sound
enter-requires-clause-sound c = c.loop-waiter.invariant.sound

pub loop-waiter-preserved : goal.loop-waiter-preserved
loop-waiter-preserved c =
    let at : slice_get c.deref-waiter-items.result.now c.loop-waiter.waiter-index ≡ Some (get_or c.deref-waiter-items.result.now c.loop-waiter.waiter-index (record { unit = 0; supplier = 0 })) = slice_get-get_or c.deref-waiter-items.result.now c.loop-waiter.waiter-index (record { unit = 0; supplier = 0 }) c.loop-waiter-test.true in
    waking_more c.args.units.now c.args.placed.now.items c.args.place c.deref-waiter-items.result.now c.loop-waiter.self c.enter.new.self c.loop-waiter.waiter-index (get_or c.deref-waiter-items.result.now c.loop-waiter.waiter-index (record { unit = 0; supplier = 0 })) c.loop-waiter.invariant at
    c.in_ok-enter.ensures.sound c.in_ok-enter.ensures.kept c.in_ok-enter.ensures.entered

pub returns-clause-sound : goal.returns-clause-sound
returns-clause-sound c = c.loop-waiter.invariant.sound

pub returns-clause-whole : goal.returns-clause-whole
returns-clause-whole c = waking_end c.args.units.now c.args.placed.now.items c.args.place c.deref-waiter-items.result.now c.loop-waiter.self c.loop-waiter.waiter-index c.loop-waiter.invariant c.loop-waiter-test.false
