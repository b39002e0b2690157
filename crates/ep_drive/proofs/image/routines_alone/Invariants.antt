use Rattle.std.proofs.Common.{◌≡◌, map, take}
use Rattle.ep_object.specs.Placing.{first_placement, placed_routine}
use Rattle.ep_drive.proofs.image.routines_alone.Given as goal

abbrev pub invariant-loop-routine : goal.invariant-loop-routine
invariant-loop-routine l = l.routines ≡ map (placed_routine (first_placement l.object)) (take l.routine-index l.routine-items)
