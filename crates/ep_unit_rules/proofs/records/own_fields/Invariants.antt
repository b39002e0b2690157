use Rattle.std.proofs.Common.{◌≡◌, ◌++◌, drop, map}
use Rattle.ep_unit_rules.specs.Answers.{field_in}
use Rattle.ep_unit_rules.specs.Records.{own_fields}
use Rattle.ep_unit_rules.proofs.records.own_fields.Given as goal

abbrev pub invariant-loop-place : goal.invariant-loop-place
invariant-loop-place l = l.all ++ own_fields l.place (map field_in (drop l.place l.fields)) ≡ own_fields 0 (map field_in l.fields)
