use Rattle.std.proofs.Common.{refl}
use Rattle.std.proofs.lemmas.Result.{err_from_is_err_and}
use Rattle.ep_check_unit.specs.Declarations.{type_definition, type_definitions}
use Rattle.ep_check_unit.proofs.Rounds.{item_refused}
use Rattle.ep_check_unit.specs.Blocks.{block_of}
use Rattle.ep_check_unit.proofs.block.Block.define_types.Goals as goal

pub returns-in_err-define_type : goal.returns-in_err-define_type
returns-in_err-define_type c =
    let p = err_from_is_err_and c.from_residual.result c.from_residual.ensures.1 in
    rw (p.1, p.2)
    (item_refused (type_definitions c.args.line) (type_definition c.args.line) (λ x xs b. refl) c.args.definitions.now c.loop-definition.definition-index c.definition-item.result (block_of c.args.self.now) (block_of c.loop-definition.self) c.in_err-define_type.field-0.0 c.loop-definition-test.true c.definition-item.is c.loop-definition.invariant.same c.in_err-define_type.ensures)
