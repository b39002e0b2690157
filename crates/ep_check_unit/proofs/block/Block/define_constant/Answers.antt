use Rattle.std.proofs.lemmas.Result.{err_from_is_err_and}
use Rattle.ep_check_unit.proofs.Defined.{value_refused, definition_accepted}
use Rattle.ep_check_unit.specs.Blocks.{block_of}
use Rattle.ep_check_unit.proofs.block.Block.define_constant.Goals as goal

pub returns-in_err-form : goal.returns-in_err-form
returns-in_err-form c = let p = err_from_is_err_and c.from_residual.result c.from_residual.ensures.1 in rw (p.1, p.2) (value_refused (block_of c.args.self.now) c.args.definition.now c.in_err-form.field-0.0 c.in_err-form.ensures)

pub returns : goal.returns
returns c =
    rw c.note.ensures (definition_accepted (block_of c.args.self.now) (block_of c.add_constant.new.self) c.args.definition.now c.in_ok-form.form c.in_ok-form.ensures c.in_ok-add_constant.ensures)
