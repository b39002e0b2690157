use Rattle.std.proofs.Common.{map, ap, ◌∙◌}
use Rattle.std.specs.List.{list_any}
use Rattle.std.specs.Str.{bytes_eq}
use Rattle.ep_unit_rules.specs.Answers.{field_in}
use Rattle.ep_unit_rules.specs.Records.{has_field}
use Rattle.ep_unit_rules.proofs.FoundNames.{found_field}
use Rattle.ep_unit_rules.proofs.distinct.WrittenFields.with.Goals as goal

pub with-requires : goal.with-requires
with-requires c =
    ap (list_any (bytes_eq c.args.field.name)) c.self.invariant
    ∙ (found_field c.args.field.name c.self.inside.fields ∙ (ap (λ fields. has_field (map field_in fields) c.args.field.name) c.self.view_is ∙ c.requires))
