use Rattle.std.proofs.Common.{◌≡◌, [], None, ◌∙◌, sym}
use Rattle.ep_scope.proofs.Found.{absent_in, entered_in, opened_in, lookup-by_bytes}
use Rattle.ep_scope.proofs.scope.Scope.constituent.Goals as goal
use Rattle.ep_scope.specs.Keys.{by_bytes}
use Rattle.ep_scope.specs.Required.{look_up}

pub open-requires : goal.open-requires
open-requires c =
    rw (c.get_mut.follows.holds-at-none, ← c.bytes.ensures.bytes) (sym (lookup-by_bytes c.bytes.result.now c.self.inside.qualified.entries) ∙ sym c.in-None.ensures.value)

pub returns-in-Some : goal.returns-in-Some
returns-in-Some c =
    rw (← c.self.view_is, (c.get_mut.follows.holds c.enter.new.self).0, ← c.bytes.ensures.bytes)
    (entered_in c.bytes.result.now c.args.name.now c.args.thing c.self.inside.qualified.entries c.self.inside.entries c.self.inside.structures c.in-Some.entries.now c.enter.new.self c.enter.result (sym c.in-Some.ensures.value) c.enter.ensures)

pub returns-in-Ok : goal.returns-in-Ok
returns-in-Ok c =
    let absent : look_up (by_bytes c.self.inside.qualified.entries) c.args.interface.now ≡ None = rw (← c.bytes.ensures.bytes) (sym (lookup-by_bytes c.bytes.result.now c.self.inside.qualified.entries) ∙ sym c.in-None.ensures.value) in
    rw (← c.self.view_is) (opened_in c.args.interface.now c.args.name.now c.args.thing _ c.open.new.self absent (rw c.get_mut.follows.holds-at-none at c.in-Ok.ensures.opened))

pub returns-in-Err : goal.returns-in-Err
returns-in-Err c =
    let absent : look_up (by_bytes c.self.inside.qualified.entries) c.args.interface.now ≡ None = rw (← c.bytes.ensures.bytes) (sym (lookup-by_bytes c.bytes.result.now c.self.inside.qualified.entries) ∙ sym c.in-None.ensures.value) in
    rw (← c.self.view_is) (absent_in c.args.interface.now c.args.name.now c.args.thing (record { entries = c.self.inside.entries; qualified = by_bytes c.self.inside.qualified.entries; structures = c.self.inside.structures; records = [] }) absent, rw c.get_mut.follows.holds-at-none at c.in-Err.ensures.unchanged)
