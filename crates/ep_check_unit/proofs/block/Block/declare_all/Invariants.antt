use Rattle.std.proofs.Common.{◌≡◌, None, map, drop}
use Rattle.ep_built.specs.Built.{first_in, variable_unbuilt}
use Rattle.ep_check_unit.specs.Declarations.{all_variables_declared}
use Rattle.ep_check_unit.specs.Blocks.{block_of}
use Rattle.ep_check_unit.proofs.block.Block.declare_all.Given as goal

abbrev pub invariant-loop-declaration : goal.invariant-loop-declaration
invariant-loop-declaration l = record {
  built : first_in (map variable_unbuilt (drop l.declaration-index l.declarations)) ≡ None;
  same : all_variables_declared (drop l.declaration-index l.declarations) (block_of l.self) ≡ all_variables_declared l.declarations (block_of l.initial.self);
}
