use Rattle.std.proofs.Common.{◌≡◌, None, map, drop}
use Rattle.ep_built.specs.Built.{first_in, part_unbuilt}
use Rattle.ep_check_unit.specs.Routines.{all_declared, part_judged}
use Rattle.ep_check_unit.specs.Blocks.{block_of}
use Rattle.ep_check_unit.proofs.block.Block.+parts.Given as goal

abbrev pub invariant-declare-loop-part : goal.invariant-declare-loop-part
invariant-declare-loop-part l = record {
  built : first_in (map part_unbuilt (drop l.part-index l.parts)) ≡ None;
  same : all_declared (map part_judged (drop l.part-index l.parts)) (block_of l.self) ≡ all_declared (map part_judged l.parts) (block_of l.initial.self);
}
