-- The rules of constant expressions (ISO 10206, 6.3.1 and 6.8.2).
use Rattle.std.specs.Prelude.{Bool, if◌then◌else◌, ℕ, pos, true, false, List, [], ◌∷◌, Option, Some, None, Ok, Err}
use Rattle.std.specs.Option.{is_some, option_and_then}
use Rattle.ep_tree.specs.Shapes.{access_in, bare}
use Rattle.ep_tree.specs.declared.expression.ComponentValue.{ComponentValue, out-ComponentValue}
use Rattle.ep_tree.specs.declared.expression.ComponentValue.TheOpen.{ComponentValue-F}
use Rattle.ep_tree.specs.declared.expression.Expression.{Expression}
use Rattle.ep_tree.specs.declared.expression.Factor.{Factor, out-Factor}
use Rattle.ep_typed.specs.Trees.{Expr, Text}
use Rattle.ep_typed.specs.declared.value.Value.{Value}
use Rattle.ep_typed.specs.declared.value.Value.TheVariants as value
use Rattle.ep_scope.specs.Scopes.{Region}
use Rattle.ep_scope.specs.declared.kind.Kind.{Kind}
use Rattle.ep_scope.specs.declared.kind.Kind.TheVariants as kind
use Rattle.ep_scope.specs.declared.rule.TheConstants as rule
use Rattle.ep_check_expr.specs.Expressions.{judged, judged_value}
use Rattle.ep_rules.specs.Judgements.{Judged, Accepts, Breaks, Typed, when_accepted}
use Rattle.ep_check_expr.specs.StructuredConstants.{Constancy, constancy, value_in}
use Rattle.ep_rules.specs.declared.access.Access.{Access}
use Rattle.ep_rules.specs.declared.access.Access.TheVariants as access
use Rattle.ep_check_expr.specs.declared.constants.ConstantForm.{ConstantForm}
use Rattle.ep_check_expr.specs.declared.constants.Purpose.{Purpose}
use Rattle.ep_check_expr.specs.declared.constants.Purpose.TheVariants as purpose
use Rattle.ep_check_expr.specs.declared.structured_constants.ConstantValue.{ConstantValue}
use Rattle.ep_check_expr.specs.declared.structured_constants.ConstantValue.TheVariants as constant
use Rattle.ep_check_expr.specs.declared.structured_constants.NoConstant.TheVariants as reason

-- the value of a form that is not built stands for none: the number 0, the empty set, or the empty text (own)
abbrev pub stand_in : Kind → Value
stand_in (kind.Ordinal h) = value.Word (pos 0)
stand_in (kind.Structured n) = value.Text []
stand_in (kind.Set h) = value.Set []
stand_in kind.EmptySet = value.Set []
stand_in kind.Text = value.Text []
stand_in kind.File = value.Text []

-- a constant with its value, and how deep the form nests for which its name stands
abbrev pub known : Kind → Value → ℕ → Judged ConstantForm
known kind v depth = Accepts (record { value = v; kind = kind; depth = depth; built = true })

-- a constant without its value
abbrev pub unbuilt_of : Kind → Judged ConstantForm
unbuilt_of k = Accepts (record { value = stand_in k; kind = k; depth = 1; built = false })

-- Whether a form that is not built may be constant. Of a structured type it is what a function gives, or a component
-- of that,
-- which is not: but for a component of a constant, and for what may be a structured value.
abbrev pub may_be_constant : Purpose → Access → Kind → Bool
may_be_constant purpose.Definition a k = true
may_be_constant purpose.InitialState a k = true
may_be_constant for access.Constant k = true
may_be_constant for a (kind.Structured n) = false
may_be_constant for a k = true

-- a form that is not built, as a constant
abbrev pub unbuilt_form : Purpose → Access → Kind → Judged ConstantForm
unbuilt_form for a k = if may_be_constant for a k then unbuilt_of k else Breaks (rule.CONSTANT ∷ [])

-- The rules that fail where a variable is read or a function is called: that of constant expressions, and that of what
-- the
-- constant is asked for. These are bounds (ISO 10206, 6.4.2.4), labels of a `case` (6.9.3.5) and initial states (6.6).
abbrev pub varying : Purpose → List ℕ
varying purpose.Definition = rule.CONSTANT ∷ []
varying purpose.Expression = rule.CONSTANT ∷ []
varying purpose.Bound = rule.BOUND_CONSTANT ∷ rule.CONSTANT ∷ []
varying purpose.Label = rule.CASE_LABELS ∷ rule.CONSTANT ∷ []
varying purpose.InitialState = rule.INITIAL_STATE ∷ rule.CONSTANT ∷ []

-- an array or a record nests as deep as its expression, and any other constant is one node
abbrev pub nesting : ConstantValue → ℕ → ℕ
nesting (constant.Known x) depth = 1
nesting (constant.Structured of es) depth = depth

-- a constant expression, which nests so deep, is constant, and no error
abbrev pub constant_by : Purpose → Kind → ℕ → Constancy ConstantValue → Judged ConstantForm
constant_by for kind depth (Ok v) = known kind (value_in v) (nesting v depth)
constant_by for kind depth (Err reason.Varies) = Breaks (varying for)
constant_by for kind depth (Err reason.Errs) = Breaks (rule.CONSTANT ∷ [])

-- whether an expression is a name with what is selected of it, and nothing more
abbrev pub is_access : Expression → Bool
is_access e = is_some (option_and_then (λ (f : Factor). access_in (out-Factor f)) (bare e))

-- what the value of a constant definition is asked for
abbrev pub purpose_of : {A B C D E F G H I J K L M : Type 0} → ComponentValue-F A B C D E F G H Expression I J K L M
    → Purpose
purpose_of (ComponentValue-F.Expression e) = if is_access e then purpose.Expression else purpose.Definition
purpose_of (ComponentValue-F.Bracketed line values) = purpose.Definition

module _ (scopes : List Region) where
  -- a typed form of this kind as a constant
  abbrev pub constant_of : Purpose → Access → Kind → ℕ → Option Expr → Judged ConstantForm
  constant_of for access kind depth None = unbuilt_form for access kind
  constant_of for access kind depth (Some (Text bytes)) = known kind (value.Text bytes) 1
  constant_of for access kind depth (Some x) = constant_by for kind depth (constancy scopes x)

  -- what an expression that is accepted is as a constant
  abbrev pub as_constant : Purpose → Typed → Judged ConstantForm
  as_constant for t = constant_of for t.access t.kind t.depth t.form

  -- the value of a constant definition
  abbrev pub constant_judged : ComponentValue → Judged ConstantForm
  constant_judged v = when_accepted (as_constant (purpose_of (out-ComponentValue v))) (judged_value scopes v None)

  -- a constant expression
  abbrev pub constant_expression : Expression → Judged ConstantForm
  constant_expression e = when_accepted (as_constant purpose.Expression) (judged scopes e)

  -- a bound outside of a schema
  abbrev pub bound_judged : Expression → Judged ConstantForm
  bound_judged e = when_accepted (as_constant purpose.Bound) (judged scopes e)

  -- an end of a label of a `case`
  abbrev pub label_judged : Expression → Judged ConstantForm
  label_judged e = when_accepted (as_constant purpose.Label) (judged scopes e)

  -- an initial state, where a value of the structured type of this number is asked for, or of another type
  abbrev pub initial_state_judged : Option ℕ → ComponentValue → Judged ConstantForm
  initial_state_judged asked v = when_accepted (as_constant purpose.InitialState) (judged_value scopes v asked)
