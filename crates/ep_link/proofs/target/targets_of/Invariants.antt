use Rattle.std.proofs.Common.{◌≡◌, map, take}
use Rattle.ep_link.specs.Targets.{target_in}
use Rattle.ep_link.proofs.target.targets_of.Given as goal

abbrev pub invariant-loop-reference : goal.invariant-loop-reference
invariant-loop-reference l = l.targets.items ≡ map (target_in l.units) (take l.reference-index l.references)
