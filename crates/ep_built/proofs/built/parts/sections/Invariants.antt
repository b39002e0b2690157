use Rattle.std.proofs.Common.{◌≡◌, drop, map}
use Rattle.ep_built.specs.Built.{first_in, section_unbuilt}
use Rattle.ep_built.proofs.built.parts.sections.Given as goal

abbrev pub invariant-loop-s : goal.invariant-loop-s
invariant-loop-s l = first_in (map section_unbuilt (drop l.s-index l.all)) ≡ first_in (map section_unbuilt l.all)
