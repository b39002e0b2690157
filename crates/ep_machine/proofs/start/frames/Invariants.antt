use Rattle.std.proofs.Common.{◌≡◌, map, take}
use Rattle.ep_object.specs.State.{empty_slots}
use Rattle.ep_machine.proofs.start.frames.Given as goal

abbrev pub invariant-loop-unit : goal.invariant-loop-unit
invariant-loop-unit l = l.frames.items ≡ map empty_slots (take l.unit-index l.units)
