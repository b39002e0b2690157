use Rattle.std.proofs.Common.{◌≡◌, None, map, drop}
use Rattle.ep_built.specs.Built.{first_in, type_unbuilt}
use Rattle.ep_check_unit.specs.Declarations.{type_definitions}
use Rattle.ep_check_unit.specs.Blocks.{block_of}
use Rattle.ep_check_unit.proofs.block.Block.define_types.Given as goal

abbrev pub invariant-loop-definition : goal.invariant-loop-definition
invariant-loop-definition l = record {
  built : first_in (map type_unbuilt (drop l.definition-index l.definitions)) ≡ None;
  same : type_definitions l.line (drop l.definition-index l.definitions) (block_of l.self) ≡ type_definitions l.line l.definitions (block_of l.initial.self);
}
