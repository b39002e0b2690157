use Rattle.std.proofs.Common.{◌≡◌, drop, map}
use Rattle.ep_built.specs.Built.{first_in, constant_unbuilt}
use Rattle.ep_built.proofs.built.parts.constants.Given as goal

abbrev pub invariant-loop-definition : goal.invariant-loop-definition
invariant-loop-definition l = first_in (map constant_unbuilt (drop l.definition-index l.all)) ≡ first_in (map constant_unbuilt l.all)
