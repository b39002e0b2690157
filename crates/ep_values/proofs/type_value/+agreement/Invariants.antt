use Rattle.std.proofs.Common.{◌≡◌, drop}
use Rattle.ep_values.specs.TypeValues.{bare_each, same_types}
use Rattle.ep_values.specs.ViewedTypes.{type_values_of}
use Rattle.ep_values.proofs.type_value.+agreement.Given as goal

abbrev pub invariant-agree_each-loop-place : goal.invariant-agree_each-loop-place
invariant-agree_each-loop-place l = same_types (bare_each (type_values_of (drop l.place l.components))) (bare_each (type_values_of (drop l.place l.others))) ≡ same_types (bare_each (type_values_of l.components)) (bare_each (type_values_of l.others))
