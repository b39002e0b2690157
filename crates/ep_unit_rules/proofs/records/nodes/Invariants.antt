use Rattle.std.proofs.Common.{◌≡◌, drop, map}
use Rattle.ep_unit_rules.specs.Answers.{field_in}
use Rattle.ep_unit_rules.specs.Records.{fields_nodes}
use Rattle.ep_unit_rules.proofs.records.nodes.Given as goal

abbrev pub invariant-loop-field : goal.invariant-loop-field
invariant-loop-field l = fields_nodes l.nodes (map field_in (drop l.field-index l.fields)) ≡ fields_nodes 0 (map field_in l.fields)
