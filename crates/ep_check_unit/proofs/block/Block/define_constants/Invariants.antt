use Rattle.std.proofs.Common.{◌≡◌, None, map, drop}
use Rattle.ep_built.specs.Built.{first_in, constant_unbuilt}
use Rattle.ep_check_unit.specs.Declarations.{constants_declared}
use Rattle.ep_check_unit.specs.Blocks.{block_of}
use Rattle.ep_check_unit.proofs.block.Block.define_constants.Given as goal

abbrev pub invariant-loop-definition : goal.invariant-loop-definition
invariant-loop-definition l = record {
  built : first_in (map constant_unbuilt (drop l.definition-index l.definitions)) ≡ None;
  same : constants_declared (drop l.definition-index l.definitions) (block_of l.self) ≡ constants_declared l.definitions (block_of l.initial.self);
}
