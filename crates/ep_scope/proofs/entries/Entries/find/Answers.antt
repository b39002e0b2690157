use Rattle.std.proofs.Common.{◌∙◌}
use Rattle.ep_scope.proofs.Found.{lookup-by_bytes}
use Rattle.ep_scope.proofs.entries.Entries.find.Goals as goal

pub returns : goal.returns
returns c = rw (← c.self.view_is, ← c.bytes.ensures.bytes) (c.get.ensures.value ∙ lookup-by_bytes c.bytes.result.now c.self.inside.things.entries)
