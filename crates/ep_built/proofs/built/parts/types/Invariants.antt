use Rattle.std.proofs.Common.{◌≡◌, drop, map}
use Rattle.ep_built.specs.Built.{first_in, type_unbuilt}
use Rattle.ep_built.proofs.built.parts.types.Given as goal

abbrev pub invariant-loop-definition : goal.invariant-loop-definition
invariant-loop-definition l = first_in (map type_unbuilt (drop l.definition-index l.all)) ≡ first_in (map type_unbuilt l.all)
