use Rattle.std.proofs.Common.{◌≡◌, take}
use Rattle.ep_scope.proofs.parameter.copied_parameters.Given as goal

abbrev pub invariant-loop-parameter : goal.invariant-loop-parameter
invariant-loop-parameter l = l.copy ≡ take l.parameter-index l.from
