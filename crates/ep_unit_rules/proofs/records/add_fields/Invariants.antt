use Rattle.std.proofs.Common.{◌≡◌, drop, map}
use Rattle.ep_unit_rules.specs.Answers.{field_in, field_named}
use Rattle.ep_unit_rules.specs.Records.{fields_named}
use Rattle.ep_unit_rules.proofs.records.add_fields.Given as goal

abbrev pub invariant-loop-name : goal.invariant-loop-name
invariant-loop-name l = fields_named (field_named l.of) (drop l.name-index l.names) (map field_in l.all) ≡ fields_named (field_named l.of) l.names (map field_in l.fn.before)
