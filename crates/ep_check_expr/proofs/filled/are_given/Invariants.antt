use Rattle.std.proofs.Common.{◌≡◌, drop}
use Rattle.ep_check_expr.specs.StructuredValues.{are_given}
use Rattle.ep_check_expr.proofs.filled.are_given.Given as goal

abbrev pub invariant-loop-place : goal.invariant-loop-place
invariant-loop-place l = are_given l.within l.given l.place (drop l.place l.fields) ≡ are_given l.within l.given 0 l.fields
