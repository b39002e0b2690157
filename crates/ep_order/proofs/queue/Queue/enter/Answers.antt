use Rattle.std.proofs.Common.{◌≡◌, ◌<◌, get_or, slice_get, length, Some, refl, sym, subst, ap, ◌∙◌, arith}
use Rattle.std.specs.List.{Contains}
use Rattle.std.specs.Vec.{with_item}
use Rattle.std.proofs.lemmas.Option.{same_Some, slice_get_within, slice_get-get_or, slice_get_read}
use Rattle.std.proofs.lemmas.Map.Text.{btree_map_updates_str}
use Rattle.ep_order.specs.Dependents.{name_of}
use Rattle.ep_order.specs.Placings.{ArePlacedBefore}
use Rattle.ep_order.proofs.Naming.{unit_at, suppliers_within}
use Rattle.ep_order.proofs.Queues.{ready_from, waiter_from, readied_sound, readied_kept, readied_entered, waiting_sound, waiting_kept, waiting_entered}
use Rattle.ep_order.proofs.queue.Queue.enter.Goals as goal

pub first_open-requires-clause-within : goal.first_open-requires-clause-within
first_open-requires-clause-within c =
    let at = unit_at c.args.units.now c.args.place c.index-units-place.result c.requires.module c.index-units-place.is in
    suppliers_within c.args.units.now c.requires.system c.args.place c.index-units-place.result at.0 _ c.items-suppliers.ensures _ c.requires.limit

pub first_open-requires-clause-before : goal.first_open-requires-clause-before
first_open-requires-clause-before c =
    let at = unit_at c.args.units.now c.args.place c.index-units-place.result c.requires.module c.index-units-place.is in
    subst (λ l. ArePlacedBefore c.args.placed.now.items l c.args.from) (sym c.items-suppliers.ensures) (c.requires.before c.index-units-place.result at.0)

pub index_mut-requires : goal.index_mut-requires
index_mut-requires c =
    let at = unit_at c.args.units.now c.args.place c.index-units-place.result c.requires.module c.index-units-place.is in
    let all = suppliers_within c.args.units.now c.requires.system c.args.place c.index-units-place.result at.0 c.items-suppliers.result.now c.items-suppliers.ensures (length c.args.units.now) refl in
    let within : c.in-Some.supplier < length c.items-suppliers.result.now = slice_get_within _ _ _ c.in-Some.ensures.1 in
    let low : get_or c.items-suppliers.result.now c.in-Some.supplier 0 < length c.args.units.now = all c.in-Some.supplier 0 within in
    omega (arith, low, c.requires.sound.rows)

pub bounds-suppliers-supplier : goal.bounds-suppliers-supplier
bounds-suppliers-supplier c = slice_get_within _ _ _ c.in-Some.ensures.1

pub returns-in_ok-insert-in-None-clause-sound : goal.returns-in_ok-insert-in-None-clause-sound
returns-in_ok-insert-in-None-clause-sound c =
    let at = unit_at c.args.units.now c.args.place c.index-units-place.result c.requires.module c.index-units-place.is in
    readied_sound c.args.units.now c.requires.system c.args.placed.now.items c.args.self.now (record { ready = c.insert.new.self; waiting = c.args.self.now.waiting }) c.args.place c.bytes.result.now
    (ap name_of at.0 ∙ sym c.bytes.ensures.bytes)
    (ready_from c.args.units.now c.args.placed.now.items c.args.place c.index-units-place.result c.items-suppliers.result.now c.requires.module c.requires.unplaced at.0 c.items-suppliers.ensures c.in-None.ensures)
    c.requires.sound
    (record { others = λ other. btree_map_updates_str c.bytes.result.now c.args.self.now.ready c.insert.new.self _ c.in_ok-insert-in-None.ensures.updates other; waiting = refl })

pub returns-in_ok-insert-in-None-clause-kept : goal.returns-in_ok-insert-in-None-clause-kept
returns-in_ok-insert-in-None-clause-kept c =
    let at = unit_at c.args.units.now c.args.place c.index-units-place.result c.requires.module c.index-units-place.is in
    readied_kept c.args.units.now c.requires.system c.args.placed.now.items c.args.self.now (record { ready = c.insert.new.self; waiting = c.args.self.now.waiting }) c.args.place c.bytes.result.now
    (ap name_of at.0 ∙ sym c.bytes.ensures.bytes)
    (ready_from c.args.units.now c.args.placed.now.items c.args.place c.index-units-place.result c.items-suppliers.result.now c.requires.module c.requires.unplaced at.0 c.items-suppliers.ensures c.in-None.ensures)
    c.requires.sound
    (record { others = λ other. btree_map_updates_str c.bytes.result.now c.args.self.now.ready c.insert.new.self _ c.in_ok-insert-in-None.ensures.updates other; waiting = refl })

pub returns-in_ok-insert-in-None-clause-entered : goal.returns-in_ok-insert-in-None-clause-entered
returns-in_ok-insert-in-None-clause-entered c =
    let at = unit_at c.args.units.now c.args.place c.index-units-place.result c.requires.module c.index-units-place.is in
    readied_entered c.args.units.now c.requires.system c.args.placed.now.items c.args.self.now (record { ready = c.insert.new.self; waiting = c.args.self.now.waiting }) c.args.place c.bytes.result.now
    (ap name_of at.0 ∙ sym c.bytes.ensures.bytes)
    (ready_from c.args.units.now c.args.placed.now.items c.args.place c.index-units-place.result c.items-suppliers.result.now c.requires.module c.requires.unplaced at.0 c.items-suppliers.ensures c.in-None.ensures)
    c.requires.sound
    (record { others = λ other. btree_map_updates_str c.bytes.result.now c.args.self.now.ready c.insert.new.self _ c.in_ok-insert-in-None.ensures.updates other; waiting = refl })

pub returns-in_ok-push-in-Some-clause-sound : goal.returns-in_ok-push-in-Some-clause-sound
returns-in_ok-push-in-Some-clause-sound c =
    let at = unit_at c.args.units.now c.args.place c.index-units-place.result c.requires.module c.index-units-place.is in
    let within : c.in-Some.supplier < length c.items-suppliers.result.now = slice_get_within _ _ _ c.in-Some.ensures.1 in
    let supplier = get_or c.items-suppliers.result.now c.in-Some.supplier 0 in
    let read : slice_get c.items-suppliers.result.now c.in-Some.supplier ≡ Some supplier = slice_get-get_or c.items-suppliers.result.now c.in-Some.supplier 0 within in
    let is : c.in-Some.ensures.0 ≡ supplier = same_Some _ _ (sym c.in-Some.ensures.1 ∙ read) in
    let row : supplier < length c.args.self.now.waiting.items = omega (arith, suppliers_within c.args.units.now c.requires.system c.args.place c.index-units-place.result at.0 c.items-suppliers.result.now c.items-suppliers.ensures (length c.args.units.now) refl c.in-Some.supplier 0 within, c.requires.sound.rows) in
    waiting_sound c.args.units.now c.args.placed.now.items c.args.self.now
    (record { ready = c.args.self.now.ready; waiting = with_item c.args.self.now.waiting supplier c.push.new.self })
    supplier c.args.place c.in-Some.supplier
    (subst (λ s. ¬ Contains c.args.placed.now.items s) is c.in-Some.ensures.2)
    (waiter_from c.args.units.now c.args.placed.now.items supplier c.args.place c.in-Some.supplier c.index-units-place.result c.items-suppliers.result.now at.0 at.1 c.items-suppliers.ensures read c.in-Some.ensures.3)
    c.requires.sound
    (record { row = c.index_mut.result.now; longer = c.push.new.self; was = slice_get_read c.args.self.now.waiting.items (length c.args.self.now.waiting.items) supplier c.index_mut.result.now refl row c.index_mut.ensures.value; added = c.in_ok-push-in-Some.ensures.items; rows = refl; ready = refl })

pub returns-in_ok-push-in-Some-clause-kept : goal.returns-in_ok-push-in-Some-clause-kept
returns-in_ok-push-in-Some-clause-kept c =
    let at = unit_at c.args.units.now c.args.place c.index-units-place.result c.requires.module c.index-units-place.is in
    let within : c.in-Some.supplier < length c.items-suppliers.result.now = slice_get_within _ _ _ c.in-Some.ensures.1 in
    let supplier = get_or c.items-suppliers.result.now c.in-Some.supplier 0 in
    let read : slice_get c.items-suppliers.result.now c.in-Some.supplier ≡ Some supplier = slice_get-get_or c.items-suppliers.result.now c.in-Some.supplier 0 within in
    let is : c.in-Some.ensures.0 ≡ supplier = same_Some _ _ (sym c.in-Some.ensures.1 ∙ read) in
    let row : supplier < length c.args.self.now.waiting.items = omega (arith, suppliers_within c.args.units.now c.requires.system c.args.place c.index-units-place.result at.0 c.items-suppliers.result.now c.items-suppliers.ensures (length c.args.units.now) refl c.in-Some.supplier 0 within, c.requires.sound.rows) in
    waiting_kept c.args.units.now c.args.placed.now.items c.args.self.now
    (record { ready = c.args.self.now.ready; waiting = with_item c.args.self.now.waiting supplier c.push.new.self })
    supplier c.args.place c.in-Some.supplier
    (subst (λ s. ¬ Contains c.args.placed.now.items s) is c.in-Some.ensures.2)
    (waiter_from c.args.units.now c.args.placed.now.items supplier c.args.place c.in-Some.supplier c.index-units-place.result c.items-suppliers.result.now at.0 at.1 c.items-suppliers.ensures read c.in-Some.ensures.3)
    c.requires.sound
    (record { row = c.index_mut.result.now; longer = c.push.new.self; was = slice_get_read c.args.self.now.waiting.items (length c.args.self.now.waiting.items) supplier c.index_mut.result.now refl row c.index_mut.ensures.value; added = c.in_ok-push-in-Some.ensures.items; rows = refl; ready = refl })

pub returns-in_ok-push-in-Some-clause-entered : goal.returns-in_ok-push-in-Some-clause-entered
returns-in_ok-push-in-Some-clause-entered c =
    let at = unit_at c.args.units.now c.args.place c.index-units-place.result c.requires.module c.index-units-place.is in
    let within : c.in-Some.supplier < length c.items-suppliers.result.now = slice_get_within _ _ _ c.in-Some.ensures.1 in
    let supplier = get_or c.items-suppliers.result.now c.in-Some.supplier 0 in
    let read : slice_get c.items-suppliers.result.now c.in-Some.supplier ≡ Some supplier = slice_get-get_or c.items-suppliers.result.now c.in-Some.supplier 0 within in
    let is : c.in-Some.ensures.0 ≡ supplier = same_Some _ _ (sym c.in-Some.ensures.1 ∙ read) in
    let row : supplier < length c.args.self.now.waiting.items = omega (arith, suppliers_within c.args.units.now c.requires.system c.args.place c.index-units-place.result at.0 c.items-suppliers.result.now c.items-suppliers.ensures (length c.args.units.now) refl c.in-Some.supplier 0 within, c.requires.sound.rows) in
    waiting_entered c.args.units.now c.args.placed.now.items c.args.self.now
    (record { ready = c.args.self.now.ready; waiting = with_item c.args.self.now.waiting supplier c.push.new.self })
    supplier c.args.place c.in-Some.supplier
    (subst (λ s. ¬ Contains c.args.placed.now.items s) is c.in-Some.ensures.2)
    (waiter_from c.args.units.now c.args.placed.now.items supplier c.args.place c.in-Some.supplier c.index-units-place.result c.items-suppliers.result.now at.0 at.1 c.items-suppliers.ensures read c.in-Some.ensures.3)
    c.requires.sound
    (record { row = c.index_mut.result.now; longer = c.push.new.self; was = slice_get_read c.args.self.now.waiting.items (length c.args.self.now.waiting.items) supplier c.index_mut.result.now refl row c.index_mut.ensures.value; added = c.in_ok-push-in-Some.ensures.items; rows = refl; ready = refl })
