use Rattle.std.proofs.Common.{◌≡◌, drop}
use Rattle.ep_unit_rules.specs.Types.{type_denoter}
use Rattle.ep_check_unit.specs.Declarations.{variables_entered}
use Rattle.ep_check_unit.specs.Blocks.{block_of}
use Rattle.ep_check_unit.proofs.block.Block.declare_variables.Given as goal

abbrev pub invariant-loop-name : goal.invariant-loop-name
invariant-loop-name l =
    variables_entered l.declaration.line (type_denoter l.named.name) l.named.of l.named.kind (drop l.name-index l.name-items) (block_of l.self) ≡ variables_entered l.declaration.line (type_denoter l.named.name) l.named.of l.named.kind l.name-items (block_of l.initial.self)
