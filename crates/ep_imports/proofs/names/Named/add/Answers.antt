use Rattle.std.proofs.Common.{refl}
use Rattle.ep_imports.proofs.Finding.{entered}
use Rattle.ep_imports.proofs.names.Named.add.Goals as goal

pub returns : goal.returns
returns g c =
    entered _ c.in_ok-key.key c.args.value (λ k. refl) c.self.inside.entries.entries c.insert.new.self.entries c.args.self.now c.args.name.now
    c.self.view_is c.in_ok-key.ensures.items c.requires c.in_ok-insert.ensures.entries
