use Rattle.std.proofs.Common.{◌≡◌, [], drop, map}
use Rattle.ep_check_expr.specs.StructuredValues.{label_name, label_places}
use Rattle.ep_check_expr.proofs.filled.label_places.Given as goal

abbrev pub invariant-loop-label : goal.invariant-loop-label
invariant-loop-label l = label_places l.fields l.within (map label_name (drop l.label-index l.labels)) l.places ≡ label_places l.fields l.within (map label_name l.labels) []
