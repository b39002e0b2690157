-- What the public calls answer of an expression on its own.
use Rattle.std.specs.Prelude.{◌≡◌, ℕ, List, true, false, Option, Some, None, Result, Ok, Err, IsTrue, ⊤}
use Rattle.ep_typed.specs.Viewed.{expr_of}
use Rattle.ep_typed.specs.declared.tree.TypedExpr.{TypedExpr}
use Rattle.ep_typed.specs.declared.value.Value.{Value}
use Rattle.ep_scope.specs.Scopes.{Region}
use Rattle.ep_expr_laws.specs.Agreement.{IsSound}
use Rattle.ep_expr_laws.specs.Agreement.{IsSoundConstant}
use Rattle.ep_rules.specs.Judgements.{Judged, Accepts, Typed, breaks}
use Rattle.ep_expr_laws.specs.declared.answers.ExpressionRefusal.{ExpressionRefusal}
use Rattle.ep_expr_laws.specs.declared.answers.ExpressionRefusal.TheVariants as refusal
use Rattle.ep_check_expr.specs.declared.constants.ConstantForm.{ConstantForm}
use Rattle.ep_rules.specs.declared.forms.Refusal.{Refusal}
use Rattle.ep_rules.specs.declared.forms.Refusal.TheVariants.{Rule, NoMemory}

-- a refusal with its line
abbrev pub refused : Refusal → ℕ → ExpressionRefusal
refused (Rule rule) line = refusal.Broken (record { rule = rule; line = line })
refused NoMemory line = refusal.NoMemory

-- Where a node on this line is not built, the refusal says so. Else the answer is by the rules.
abbrev pub UnlessUnbuilt : {A : Type 0} → Option ℕ → Result A ExpressionRefusal → Type 0 → Type 0
UnlessUnbuilt (Some line) result by_rules = result ≡ Err (refusal.NotBuilt line)
UnlessUnbuilt None result by_rules = by_rules

-- The typed form exactly where the expression has one, a rule that fails in it on its line exactly where rules fail,
-- and that it is not built exactly where it is accepted and has no code.
abbrev pub AnswersExpression : Result TypedExpr ExpressionRefusal → ℕ → Judged Typed → Type 0
AnswersExpression (Ok e) line judged = (t : Typed) × (judged ≡ Accepts t) × (t.form ≡ Some (expr_of e))
AnswersExpression (Err (refusal.Broken b)) line judged = IsTrue (breaks b.rule judged) × (b.line ≡ line)
AnswersExpression (Err (refusal.NotBuilt at)) line judged =
    ((t : Typed) × (judged ≡ Accepts t) × (t.form ≡ None)) × (at ≡ line)
AnswersExpression (Err refusal.NoMemory) line judged = ⊤

-- alike, of the value of a constant expression
abbrev pub AnswersConstant : Result Value ExpressionRefusal → ℕ → Judged ConstantForm → Type 0
AnswersConstant (Ok v) line judged = (c : ConstantForm) × (judged ≡ Accepts c) × (c.built ≡ true) × (c.value ≡ v)
AnswersConstant (Err (refusal.Broken b)) line judged = IsTrue (breaks b.rule judged) × (b.line ≡ line)
AnswersConstant (Err (refusal.NotBuilt at)) line judged =
    ((c : ConstantForm) × (judged ≡ Accepts c) × (c.built ≡ false)) × (at ≡ line)
AnswersConstant (Err refusal.NoMemory) line judged = ⊤

-- the form that is accepted is valid under all declarations that hold what the scopes declare
abbrev pub IsValidForm : List Region → Judged Typed → Type 0
IsValidForm scopes judged = (t : Typed) → judged ≡ Accepts t → IsSound scopes t

-- the constant that is accepted is of its kind
abbrev pub IsValidConstant : List Region → Judged ConstantForm → Type 0
IsValidConstant scopes judged = (c : ConstantForm) → judged ≡ Accepts c → IsSoundConstant scopes c
