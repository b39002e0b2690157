use Rattle.std.proofs.Common.{refl, ◌∙◌}
use Rattle.ep_scope.proofs.Found.{entered}
use Rattle.ep_scope.proofs.entries.Entries.add.Goals as goal

pub returns-clause-added : goal.returns-clause-added
returns-clause-added c =
    entered _ c.in_ok-key.key c.args.thing (λ k. refl) c.self.inside.things.entries c.insert.new.self.entries c.args.self.now c.args.name.now
    c.self.view_is (c.in_ok-key.ensures.items ∙ c.bytes.ensures.bytes) c.requires c.in_ok-insert.ensures.entries
