use Rattle.std.proofs.Common.{◌≡◌, drop, map}
use Rattle.ep_unit_rules.specs.Variants.{fields_joined, inside}
use Rattle.ep_unit_rules.proofs.variants.add_variant.Given as goal

abbrev pub invariant-loop-field : goal.invariant-loop-field
invariant-loop-field l = fields_joined (map (inside l.selection l.variant) (drop l.field-index l.fields)) l.all ≡ fields_joined (map (inside l.selection l.variant) l.fields) l.initial.all
