use Rattle.std.proofs.Common.{◌∙◌}
use Rattle.ep_imports.proofs.Finding.{lookup-by_bytes}
use Rattle.ep_imports.proofs.names.Named.find.Goals as goal

pub returns : goal.returns
returns g c = rw (← c.self.view_is) (c.get.ensures.value ∙ lookup-by_bytes c.args.name.now c.self.inside.entries.entries)
