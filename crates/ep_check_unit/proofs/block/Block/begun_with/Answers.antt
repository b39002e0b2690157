use Rattle.std.proofs.Common.{rules, ◌∙◌, refl}
use Rattle.std.proofs.lemmas.Result.{err_from_is_err_and}
use Rattle.ep_check_unit.specs.Answers.{named_in}
use Rattle.ep_check_unit.specs.Blocks.{block_of}
use Rattle.ep_check_unit.proofs.InitialStates.{state_fits, state_misfits, state_refused}
use Rattle.ep_check_unit.proofs.block.Block.begun_with.Goals as goal

pub returns-in_err-constant : goal.returns-in_err-constant
returns-in_err-constant c =
    let p = err_from_is_err_and c.from_residual.result c.from_residual.ensures.1 in
    rw (p.1, p.2) (state_refused c.args.line c.args.value.now (named_in (block_of c.args.self.now) c.args.of) c.in_view.result c.in_view.ensures c.asked_by-asked.result c.asked_by-asked.ensures c.in_err-constant.field-0.0 c.in_err-constant.ensures.form)

pub returns-then-not-may_begin : goal.returns-then-not-may_begin
returns-then-not-may_begin c =
    rw (state_misfits c.args.line c.args.value.now (named_in (block_of c.args.self.now) c.args.of) c.in_view.result c.in_view.ensures c.asked_by-asked.result c.asked_by-asked.ensures c.in_ok-constant.constant c.in_ok-constant.ensures.form (search rules)) refl

pub returns : goal.returns
returns c =
    state_fits c.args.line c.args.value.now (named_in (block_of c.args.self.now) c.args.of) c.in_view.result c.in_view.ensures c.asked_by-asked.result c.asked_by-asked.ensures c.in_ok-constant.constant c.in_ok-constant.ensures.form (search rules)
    ∙ rw (c.note.ensures, c.in_ok-bare.ensures, c.type_denoter.ensures, c.into_value.ensures, c.counted.ensures)
