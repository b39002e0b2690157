use Rattle.std.proofs.Common.{◌∙◌, [], ◌∷◌, ap, refl, subst, sym}
use Rattle.std.proofs.lemmas.Result.{err_from_is_err_and}
use Rattle.std.specs.Bool.{IsTrue}
use Rattle.std.specs.Prelude.{if◌then◌else◌}
use Rattle.ep_scope.specs.declared.rule.TheConstants as rule
use Rattle.ep_rules.specs.Judgements.{Accepts, Breaks, breaks}
use Rattle.ep_check_unit.specs.Blocks.{block_of}
use Rattle.ep_unit_rules.specs.FittingConstants.{fits}
use Rattle.ep_check_unit.proofs.Defined.{value_judged, value_tried}
use Rattle.ep_check_unit.proofs.block.Block.constant_fitting.Goals as goal

pub returns-in_err-form : goal.returns-in_err-form
returns-in_err-form c =
    let p = err_from_is_err_and c.from_residual.result c.from_residual.ensures.1 in
    rw (p.1, p.2) (value_judged c.in_view-scopes.result (block_of c.args.self.now) c.args.value.now c.in_err-form.field-0.0 c.in_view-scopes.ensures c.in_err-form.ensures.form)

pub returns-then-branch : goal.returns-then-branch
returns-then-branch c =
    value_tried c.in_view-scopes.result (block_of c.args.self.now) c.args.value.now c.in_ok-form.form c.in_ok-fits.field-0 c.in_view-scopes.ensures c.in_ok-form.ensures.form (c.in_ok-fits.ensures ∙ ap (λ ts. fits ts c.in_view-scopes.result c.in_ok-form.form.value) c.items.ensures)
    ∙ ap (λ t. if t then Accepts c.in_ok-form.form else Breaks (rule.CONSTANT ∷ [])) c.if-branch.true

pub returns-else-branch : goal.returns-else-branch
returns-else-branch c =
    let tried = value_tried c.in_view-scopes.result (block_of c.args.self.now) c.args.value.now c.in_ok-form.form c.in_ok-fits.field-0 c.in_view-scopes.ensures c.in_ok-form.ensures.form (c.in_ok-fits.ensures ∙ ap (λ ts. fits ts c.in_view-scopes.result c.in_ok-form.form.value) c.items.ensures) in
    subst (λ j. IsTrue (breaks rule.CONSTANT j)) (sym (tried ∙ ap (λ t. if t then Accepts c.in_ok-form.form else Breaks (rule.CONSTANT ∷ [])) c.if-branch.false)) refl
