use Rattle.std.proofs.Common.{◌∙◌}
use Rattle.ep_unit_rules.proofs.FoundNames.{key_added}
use Rattle.ep_unit_rules.proofs.distinct.DistinctNames.with.Goals as goal

pub returns : goal.returns
returns c =
    key_added c.in_ok-key.key c.self.inside.names.keys c.insert.new.self.keys c.args.self c.args.name.now
    c.self.view_is (c.in_ok-key.ensures.items ∙ c.bytes.ensures.bytes) c.requires c.in_ok-insert.ensures.keys
