use Rattle.std.proofs.Common.{◌∙◌}
use Rattle.ep_imports.proofs.Finding.{found_by_bytes}
use Rattle.ep_imports.proofs.names.Texts.has.Goals as goal

pub returns : goal.returns
returns c = rw (← c.self.view_is) (c.contains.ensures ∙ found_by_bytes c.args.text.now c.self.inside.keys.keys)
