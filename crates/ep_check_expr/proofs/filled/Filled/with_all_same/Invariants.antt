use Rattle.std.proofs.Common.{◌≡◌, drop}
use Rattle.ep_check_expr.specs.Answers.{filled_of}
use Rattle.ep_check_expr.specs.StructuredValues.{same_filled}
use Rattle.ep_check_expr.proofs.filled.Filled.with_all_same.Given as goal

abbrev pub invariant-loop-place : goal.invariant-loop-place
invariant-loop-place l = same_filled l.fields l.first l.kind (drop l.place-index l.places) (filled_of l.filled) ≡ same_filled l.fields l.first l.kind l.places (filled_of l.fn.self)
