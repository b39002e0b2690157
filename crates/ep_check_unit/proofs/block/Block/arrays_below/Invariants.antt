use Rattle.std.proofs.Common.{◌≡◌, map, take}
use Rattle.ep_unit_rules.specs.Answers.{index_of}
use Rattle.ep_check_unit.specs.Answers.{arrays_below, named_in}
use Rattle.ep_check_unit.specs.Blocks.{block_of}
use Rattle.ep_check_unit.proofs.block.Block.arrays_below.Given as goal

abbrev pub invariant-loop-place : goal.invariant-loop-place
invariant-loop-place l = arrays_below l.line (map index_of (take l.place l.indexes)) (named_in (block_of l.self) l.below) ≡ arrays_below l.line (map index_of l.indexes) (named_in (block_of l.initial.self) l.fn.of)
