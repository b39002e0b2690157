-- A constant definition, by the steps that its function takes.
use Rattle.std.proofs.Common.{◌≡◌, Bool, List, [], ◌∷◌, Err, refl, sym, ap, ◌∙◌, subst}
use Rattle.std.specs.Prelude.{if◌then◌else◌}
use Rattle.ep_tree.specs.declared.declaration.ConstantDefinition.{ConstantDefinition}
use Rattle.ep_tree.specs.declared.expression.ComponentValue.{ComponentValue}
use Rattle.ep_scope.specs.Scopes.{Region}
use Rattle.ep_scope.specs.declared.rule.TheConstants as rule
use Rattle.ep_rules.specs.Answers.{AnswersJudged}
use Rattle.ep_check_expr.specs.Constants.{constant_judged}
use Rattle.ep_rules.specs.Judgements.{Judged, Accepts, Breaks, when_accepted}
use Rattle.ep_check_expr.specs.declared.constants.ConstantForm.{ConstantForm}
use Rattle.ep_rules.specs.declared.forms.Refusal.{Refusal}
use Rattle.ep_rules.specs.declared.forms.Refusal.TheVariants.{Rule, NoMemory}
use Rattle.ep_rules.specs.Answers.{Refuses}
use Rattle.ep_rules.proofs.public.Refusing.{from_judged, first_refused, both_accepted}
use Rattle.ep_check_unit.specs.Declarations.{constant_definition, constant_entered, constant_fitting, noted, scopes_of, unused, with_constant}
use Rattle.ep_unit_rules.specs.FittingConstants.{fits, unless_outside}
use Rattle.ep_check_unit.specs.Blocks.{Block}

-- the value of a definition is refused, lies in its type, or does not
fitting_refused : (P : ConstantForm → Judged ConstantForm) (e : Refusal) (j : Judged ConstantForm) → AnswersJudged (λ (c : ConstantForm). c) (Err e) j → AnswersJudged (λ (c : ConstantForm). c) (Err e) (when_accepted P j)
fitting_refused P (Rule r) (Accepts c) h = cc
fitting_refused P (Rule r) (Breaks rules) h = h
fitting_refused P NoMemory j h = tt

pub value_judged : (scopes : List Region) (b : Block) (v : ComponentValue) (e : Refusal) → scopes ≡ scopes_of b → AnswersJudged (λ (c : ConstantForm). c) (Err e) (constant_judged scopes v) → AnswersJudged (λ (c : ConstantForm). c) (Err e) (constant_fitting v b)
value_judged scopes b v e is h =
    fitting_refused (unless_outside b.types (scopes_of b)) e (constant_judged (scopes_of b) v) (subst (λ s. AnswersJudged (λ (c : ConstantForm). c) (Err e) (constant_judged s v)) is h)

pub value_tried : (scopes : List Region) (b : Block) (v : ComponentValue) (form : ConstantForm) (t : Bool) → scopes ≡ scopes_of b → constant_judged scopes v ≡ Accepts form → t ≡ fits b.types scopes form.value → constant_fitting v b ≡ (if t then Accepts form else Breaks (rule.CONSTANT ∷ []))
value_tried scopes b v form t is value told =
    ap (λ j. when_accepted (unless_outside b.types (scopes_of b)) j) (subst (λ s. constant_judged s v ≡ Accepts form) is value)
    ∙ ap (λ x. if x then Accepts form else Breaks (rule.CONSTANT ∷ [])) (sym (told ∙ ap (λ s. fits b.types s form.value) is))

-- the value is refused
pub value_refused : (b : Block) (d : ConstantDefinition) (e : Refusal) → AnswersJudged (λ (c : ConstantForm). c) (Err e) (constant_fitting d.value b) → Refuses e (constant_definition d b)
value_refused b d e h =
    first_refused (λ form new. Accepts (noted form.built d.line (with_constant d.name form.kind form.value form.depth b))) e (constant_fitting d.value b) (unused d.name b)
    (from_judged (λ (c : ConstantForm). c) e (constant_fitting d.value b) h)

-- what is entered where the name is not there
entered_is : (free : Judged (Unit {0})) (after middle : Block) → when_accepted (λ _. Accepts after) free ≡ Accepts middle → (free ≡ Accepts tt) × (after ≡ middle)
entered_is (Accepts tt) after middle h = (refl, cc)
entered_is (Breaks rules) after middle h = cc

-- both are accepted
pub definition_accepted : (b middle : Block) (d : ConstantDefinition) (form : ConstantForm) → constant_fitting d.value b ≡ Accepts form → constant_entered d.name form.kind form.value form.depth b ≡ Accepts middle
    → constant_definition d b ≡ Accepts (noted form.built d.line middle)
definition_accepted b middle d form value h =
    let p = entered_is (unused d.name b) (with_constant d.name form.kind form.value form.depth b) middle h in
    both_accepted (λ f new. Accepts (noted f.built d.line (with_constant d.name f.kind f.value f.depth b))) (constant_fitting d.value b) (unused d.name b) form tt value p.0
    ∙ ap (λ m. Accepts (noted form.built d.line m)) p.1
