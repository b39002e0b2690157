use Rattle.std.proofs.Common.{◌≡◌, true, drop}
use Rattle.std.specs.List.{list_all}
use Rattle.ep_built.specs.Built.{is_among, program_parameters}
use Rattle.ep_check_unit.specs.Units.{parameters_entered}
use Rattle.ep_check_unit.specs.Blocks.{block_of}
use Rattle.ep_check_unit.proofs.block.Block.enter_parameters.Given as goal

abbrev pub invariant-loop-name : goal.invariant-loop-name
invariant-loop-name l = record {
  known : list_all (is_among program_parameters) (drop l.name-index l.names) ≡ true;
  same : parameters_entered (drop l.name-index l.names) (block_of l.self) ≡ parameters_entered l.names (block_of l.initial.self);
}
