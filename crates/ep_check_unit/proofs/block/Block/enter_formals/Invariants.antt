use Rattle.std.proofs.Common.{◌≡◌, drop}
use Rattle.ep_check_unit.specs.Blocks.{block_of}
use Rattle.ep_check_unit.specs.Routines.{formals_entered}
use Rattle.ep_check_unit.proofs.block.Block.enter_formals.Given as goal

abbrev pub invariant-loop-place : goal.invariant-loop-place
invariant-loop-place l = formals_entered l.place (drop l.place l.parameters) (block_of l.self) ≡ formals_entered 0 l.parameters (block_of l.initial.self)
