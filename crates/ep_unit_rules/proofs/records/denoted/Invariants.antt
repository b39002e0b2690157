use Rattle.std.proofs.Common.{◌≡◌, map, take}
use Rattle.ep_unit_rules.specs.Answers.{field_in}
use Rattle.ep_unit_rules.specs.Records.{record_field}
use Rattle.ep_unit_rules.proofs.records.denoted.Given as goal

abbrev pub invariant-loop-field : goal.invariant-loop-field
invariant-loop-field l = l.all ≡ map record_field (map field_in (take l.field-index l.fields))
