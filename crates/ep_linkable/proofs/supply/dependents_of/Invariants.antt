use Rattle.std.proofs.Common.{◌≡◌, map, take}
use Rattle.ep_linkable.specs.Faults.{dependent_of}
use Rattle.ep_linkable.proofs.supply.dependents_of.Given as goal

abbrev pub invariant-loop-unit : goal.invariant-loop-unit
invariant-loop-unit l = l.dependents ≡ map (dependent_of l.exporters) (take l.unit-index l.units)
