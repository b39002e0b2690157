use Rattle.std.proofs.Common.{◌≡◌, drop}
use Rattle.ep_scope.specs.Parameters.{same_parameters}
use Rattle.ep_scope.proofs.parameter.same_parameters.Given as goal

abbrev pub invariant-loop-place : goal.invariant-loop-place
invariant-loop-place l = same_parameters (drop l.place l.left) (drop l.place l.right) ≡ same_parameters l.left l.right
