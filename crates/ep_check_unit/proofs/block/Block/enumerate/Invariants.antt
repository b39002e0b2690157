use Rattle.std.proofs.Common.{◌≡◌, drop}
use Rattle.ep_check_unit.specs.Declarations.{enumerated}
use Rattle.ep_check_unit.specs.Blocks.{block_of}
use Rattle.ep_check_unit.proofs.block.Block.enumerate.Given as goal

abbrev pub invariant-loop-place : goal.invariant-loop-place
invariant-loop-place l = enumerated l.host l.place (drop l.place l.names) (block_of l.self) ≡ enumerated l.host 0 l.names (block_of l.initial.self)
