use Rattle.std.proofs.Common.{◌≡◌, None, ◌∙◌, ◌∷◌, [], ◌++◌, ap, refl}
use Rattle.ep_scope.proofs.Found.{entered}
use Rattle.ep_scope.proofs.scope.Scope.open.Goals as goal
use Rattle.ep_scope.specs.Keys.{by_bytes}
use Rattle.ep_scope.specs.Required.{look_up}

pub returns-clause-opened : goal.returns-clause-opened
returns-clause-opened c =
    let first = c.in_ok-add.ensures.added ∙ ap (λ l. l ++ (c.args.name.now, c.args.thing) ∷ []) c.new-entries.ensures in
    let absent : look_up (by_bytes c.self.inside.qualified.entries) c.args.interface.now ≡ None = rw (← c.self.view_is) at c.requires in
    let grown =
    entered _ c.in_ok-key.key c.add.new.self (λ k. refl) c.self.inside.qualified.entries c.insert.new.self.entries (by_bytes c.self.inside.qualified.entries) c.args.interface.now
    refl (c.in_ok-key.ensures.items ∙ c.bytes.ensures.bytes) absent c.in_ok-insert.ensures.entries in
    rw (← c.self.view_is) (ap (λ q. record { entries = c.self.inside.entries; qualified = q; structures = c.self.inside.structures; records = [] }) (grown ∙ ap (λ v. by_bytes c.self.inside.qualified.entries ++ (c.args.interface.now, v) ∷ []) first))
