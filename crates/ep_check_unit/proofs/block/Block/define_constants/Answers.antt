use Rattle.std.proofs.Common.{refl}
use Rattle.ep_built.specs.Built.{constant_unbuilt}
use Rattle.ep_stmt_rules.proofs.public.judged.Rounds.{rest_built}
use Rattle.ep_check_unit.specs.Blocks.{block_of}
use Rattle.ep_check_unit.specs.Declarations.{constant_definition, constants_declared}
use Rattle.ep_check_unit.proofs.Rounds.{item_falls, item_stands}
use Rattle.ep_check_unit.proofs.block.Block.define_constants.Goals as goal

pub returns-in-Err : goal.returns-in-Err
returns-in-Err c =
    rw c.refused_at.ensures
    (item_falls (λ d. d.line) constants_declared constant_definition (λ x xs b. refl) c.args.definitions.now c.loop-definition.definition-index c.definition-item.result (block_of c.args.self.now) (block_of c.loop-definition.self) c.in-Err.refusal c.loop-definition-test.true c.definition-item.is c.loop-definition.invariant.same c.in-Err.ensures)

pub loop-definition-preserved : goal.loop-definition-preserved
loop-definition-preserved c = record {
  built = rest_built constant_unbuilt c.args.definitions.now c.loop-definition.definition-index c.definition-item.result c.loop-definition-test.true c.definition-item.is c.loop-definition.invariant.built;
  same = item_stands (λ d. d.line) constants_declared constant_definition (λ x xs b. refl) c.args.definitions.now c.loop-definition.definition-index c.definition-item.result (block_of c.loop-definition.self) (block_of c.define_constant.new.self) _ c.loop-definition-test.true c.definition-item.is c.loop-definition.invariant.same c.in_default.ensures;
}
