-- The constant of an initial state is refused, or fits its type or not.
use Rattle.std.proofs.Common.{◌≡◌, ℕ, true, false, List, [], ◌∷◌, Option, Err, sym, ap, ◌∙◌, subst}
use Rattle.std.specs.Prelude.{if◌then◌else◌}
use Rattle.ep_tree.specs.declared.expression.ComponentValue.{ComponentValue}
use Rattle.ep_scope.specs.Scopes.{Region}
use Rattle.ep_scope.specs.declared.rule.TheConstants as rule
use Rattle.ep_rules.specs.Answers.{AnswersJudged}
use Rattle.ep_check_expr.specs.Constants.{initial_state_judged}
use Rattle.ep_rules.specs.Judgements.{Accepts, Breaks}
use Rattle.ep_check_expr.specs.StructuredValues.{asked_by}
use Rattle.ep_check_expr.specs.declared.constants.ConstantForm.{ConstantForm}
use Rattle.ep_rules.specs.declared.forms.Refusal.{Refusal}
use Rattle.ep_rules.specs.Answers.{Refuses}
use Rattle.ep_rules.proofs.public.Refusing.{from_judged, part_refused, then_accepted}
use Rattle.ep_unit_rules.specs.InitialStates.{may_begin}
use Rattle.ep_check_unit.specs.Declarations.{Written, begun_with, fitting_state, scopes_of, with_initial_state}

module _ (line : ℕ) (v : ComponentValue) (w : Written) (scopes : List Region) (is : scopes ≡ scopes_of w.block) (asked : Option ℕ) (asks : asked ≡ asked_by w.kind) where
  -- it is refused
  pub state_refused : (e : Refusal) → AnswersJudged (λ (c : ConstantForm). c) (Err e) (initial_state_judged scopes asked v) → Refuses e (begun_with line v w)
  state_refused e h =
      part_refused (fitting_state line w) e (initial_state_judged (scopes_of w.block) (asked_by w.kind) v)
      (subst (λ a. Refuses e (initial_state_judged (scopes_of w.block) a v)) asks (subst (λ s. Refuses e (initial_state_judged s asked v)) is (from_judged (λ (c : ConstantForm). c) e (initial_state_judged scopes asked v) h)))

  module _ (c : ConstantForm) (judged : initial_state_judged scopes asked v ≡ Accepts c) where
    taken : begun_with line v w ≡ fitting_state line w c
    taken =
        then_accepted (fitting_state line w) (initial_state_judged (scopes_of w.block) (asked_by w.kind) v) c
        (ap (λ a. initial_state_judged (scopes_of w.block) a v) (sym asks) ∙ (ap (λ s. initial_state_judged s asked v) (sym is) ∙ judged))

    -- it does not fit the type
    pub state_misfits : may_begin c.kind w.kind ≡ false → begun_with line v w ≡ Breaks (rule.INITIAL_STATE ∷ [])
    state_misfits misfit = taken ∙ ap (λ b. if b then Accepts (with_initial_state line w c) else Breaks (rule.INITIAL_STATE ∷ [])) misfit

    -- it fits
    pub state_fits : may_begin c.kind w.kind ≡ true → begun_with line v w ≡ Accepts (with_initial_state line w c)
    state_fits fit = taken ∙ ap (λ b. if b then Accepts (with_initial_state line w c) else Breaks (rule.INITIAL_STATE ∷ [])) fit
