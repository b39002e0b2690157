use Rattle.std.proofs.Common.{◌∙◌}
use Rattle.ep_unit_rules.proofs.FoundNames.{found_by_bytes}
use Rattle.ep_unit_rules.proofs.distinct.DistinctNames.has.Goals as goal

pub returns : goal.returns
returns c = rw (← c.self.view_is, ← c.bytes.ensures.bytes) (c.contains.ensures ∙ found_by_bytes c.bytes.result.now c.self.inside.names.keys)
