use Rattle.std.proofs.Common.{◌≡◌, map, take}
use Rattle.ep_drive.specs.Images.{placed_in}
use Rattle.ep_drive.proofs.image.instructions_alone.Given as goal

abbrev pub invariant-loop-instr : goal.invariant-loop-instr
invariant-loop-instr l = l.instructions ≡ map (placed_in l.object) (take l.instr-index l.instr-items)
