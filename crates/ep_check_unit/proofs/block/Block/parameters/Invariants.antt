use Rattle.std.proofs.Common.{◌≡◌, [], map, drop, None}
use Rattle.ep_built.specs.Built.{first_in, section_unbuilt}
use Rattle.ep_check_unit.specs.Blocks.{block_of}
use Rattle.ep_check_unit.specs.Routines.{sections_judged}
use Rattle.ep_check_unit.proofs.block.Block.parameters.Given as goal

abbrev pub invariant-loop-place : goal.invariant-loop-place
invariant-loop-place l = record {
  built : first_in (map section_unbuilt (drop l.place l.sections)) ≡ None;
  same : sections_judged l.routine l.place (drop l.place l.sections) (block_of l.self) l.all ≡ sections_judged l.routine 0 l.sections (block_of l.self) [];
}
