use Rattle.std.proofs.Common.{◌≡◌, drop, map}
use Rattle.ep_built.specs.Built.{first_in, variable_unbuilt}
use Rattle.ep_built.proofs.built.parts.variables.Given as goal

abbrev pub invariant-loop-declaration : goal.invariant-loop-declaration
invariant-loop-declaration l = first_in (map variable_unbuilt (drop l.declaration-index l.all)) ≡ first_in (map variable_unbuilt l.all)
