use Rattle.std.proofs.Common.{◌≡◌, drop}
use Rattle.ep_unit_rules.specs.FittingConstants.{type_among}
use Rattle.ep_unit_rules.proofs.fitting.type_among.Given as goal

abbrev pub invariant-loop-field : goal.invariant-loop-field
invariant-loop-field l = type_among (drop l.field-index l.fields) l.steps ≡ type_among l.fn.fields l.fn.steps
