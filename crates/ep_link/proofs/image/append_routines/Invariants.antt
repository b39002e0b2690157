use Rattle.std.proofs.Common.{◌≡◌, ◌++◌, map, take}
use Rattle.ep_link.specs.Parts.{placed_routine}
use Rattle.ep_link.proofs.image.append_routines.Given as goal

abbrev pub invariant-loop-routine : goal.invariant-loop-routine
invariant-loop-routine l =
    l.image ≡ l.initial.image ++ map (placed_routine l.placement) (take l.routine-index l.routines)
