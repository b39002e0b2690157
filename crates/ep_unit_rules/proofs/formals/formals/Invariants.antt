use Rattle.std.proofs.Common.{◌≡◌, map, take}
use Rattle.ep_unit_rules.specs.Formals.{formal_of}
use Rattle.ep_unit_rules.proofs.formals.formals.Given as goal

abbrev pub invariant-loop-parameter : goal.invariant-loop-parameter
invariant-loop-parameter l = l.all ≡ map formal_of (take l.parameter-index l.parameters)
