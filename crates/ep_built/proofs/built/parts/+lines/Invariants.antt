use Rattle.std.proofs.Common.{◌≡◌, drop, map}
use Rattle.ep_built.specs.Built.{first_in, part_unbuilt}
use Rattle.ep_built.proofs.built.parts.+lines.Given as goal

abbrev pub invariant-parts-loop-p : goal.invariant-parts-loop-p
invariant-parts-loop-p l = first_in (map part_unbuilt (drop l.p-index l.all)) ≡ first_in (map part_unbuilt l.all)
