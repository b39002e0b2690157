-- What the static rules say of values that are given to variables, and of the arguments of a call of a procedure or
-- function of a unit (ISO 10206, 6.4.6, 6.7.3 and 6.8.5).
use Rattle.std.specs.Prelude.{◌≡◌, ⊤, ℕ, zero, suc, ◌-◌, ◌==◌, max, List, [], ◌∷◌, ◌++◌, Option, Some, None}
use Rattle.std.specs.Prelude.{if◌then◌else◌}
use Rattle.std.specs.Option.{option_map}
use Rattle.ep_typed.specs.Trees as tree
use Rattle.ep_typed.specs.Trees.{Actual, Callee, Expr, Place, actuals}
use Rattle.ep_typed.specs.declared.interface.FormalMode.{FormalMode}
use Rattle.ep_typed.specs.declared.interface.FormalMode.TheVariants as mode
use Rattle.ep_scope.specs.Kinds.{same_host}
use Rattle.ep_scope.specs.Parameters.{same_type}
use Rattle.ep_scope.specs.declared.kind.Host.TheVariants as host
use Rattle.ep_scope.specs.declared.kind.Kind.{Kind}
use Rattle.ep_scope.specs.declared.kind.Kind.TheVariants as kind
use Rattle.ep_scope.specs.declared.parameter.FormalParameter.{FormalParameter}
use Rattle.ep_scope.specs.declared.parameter.Protection.{Protection}
use Rattle.ep_scope.specs.declared.parameter.Protection.TheVariants as protection
use Rattle.ep_scope.specs.declared.parameter.TypeName.{TypeName}
use Rattle.ep_scope.specs.declared.rule.TheConstants as rule
use Rattle.ep_scope.specs.declared.thing.Declared.{Declared}
use Rattle.ep_rules.specs.declared.access.Access.{Access}
use Rattle.ep_rules.specs.declared.access.Access.TheVariants as access
use Rattle.ep_rules.specs.Functions.{Given, given_faults, unless_faults}
use Rattle.ep_rules.specs.Judgements.{Judged, Accepts, Breaks, Typed, both, when_accepted}
use Rattle.ep_rules.specs.Operators.{map_both, within_depth}

-- ---- what is declared as code names it that so many routines are around, which is its depth

-- the place of a variable of a routine, which is so many levels further up
abbrev pub own_place : ℕ → Declared → Place
own_place depth d = tree.Own (depth - d.level) d.number

-- how a call says where a routine is declared: 0 for one of the unit, and else one more than how many levels further
-- up
abbrev pub callee_levels : ℕ → ℕ → ℕ
callee_levels depth zero = 0
callee_levels depth (suc level) = suc (depth - suc level)

-- a routine that is called
abbrev pub callee_at : ℕ → Declared → Callee
callee_at depth d = record { unit = d.unit; number = d.number; levels = callee_levels depth d.level }

-- ---- values that are given (ISO 10206, 6.4.6)

-- What is made of a value that is given to something of a kind: of an ordinal type whose host is the same, of the same
-- structured type, or a set over the same host. A text that is given to a char is not built.
abbrev pub given_to : {A : Type 0} → (Expr → A) → Kind → Kind → Option Expr → Judged (Option A)
given_to form (kind.Ordinal h) (kind.Ordinal g) value =
    if same_host h g then Accepts (option_map form value) else Breaks (rule.ASSIGNMENT ∷ [])
given_to form (kind.Ordinal host.Char) kind.Text value = Accepts None
given_to form (kind.Structured m) (kind.Structured n) value =
    if m == n then Accepts (option_map form value) else Breaks (rule.ASSIGNMENT ∷ [])
given_to form (kind.Set h) (kind.Set g) value =
    if same_host h g then Accepts (option_map form value) else Breaks (rule.ASSIGNMENT ∷ [])
given_to form (kind.Set h) kind.EmptySet value = Accepts (option_map form value)
given_to form kind.File from value = Breaks (rule.FILE_TYPE ∷ rule.ASSIGNMENT ∷ [])
given_to form to kind.File value = Breaks (rule.FILE_TYPE ∷ rule.ASSIGNMENT ∷ [])
given_to form to from value = Breaks (rule.ASSIGNMENT ∷ [])

-- a value parameter of this kind takes a value (ISO 10206, 6.7.3.2)
abbrev pub value_taken : Kind → Typed → Judged (Option Actual)
value_taken k v = given_to tree.Evaluated k v.kind v.form

-- ---- variables that are given (ISO 10206, 6.7.3.3)

-- what is read of a place, where it is built
abbrev pub IsReadingIf : Option Expr → Type 0
IsReadingIf None = ⊤
IsReadingIf (Some x) = (place : Place) × (x ≡ tree.Read place)

-- what is read of the one component of a component, where it is built
abbrev pub IsTagReadingIf : Option Expr → Type 0
IsTagReadingIf None = ⊤
IsTagReadingIf (Some x) = (whole : Place) × (number : ℕ) × (x ≡ tree.Read (tree.Field (tree.Field whole number) 0))

-- so is what is a variable, or a tag
abbrev pub IsReading : Access → Option Expr → Type 0
IsReading (access.Variable of guarded) form = IsReadingIf form
IsReading (access.Tag of guarded tag) form = IsTagReadingIf form
IsReading access.File form = ⊤
IsReading access.Constant form = ⊤
IsReading access.Value form = ⊤

-- the place that is read
abbrev pub place_read : Option Expr → Option Place
place_read (Some (tree.Read place)) = Some place
place_read _ = None

-- the place of the record whose tag is read
abbrev pub tagged_read : Option Expr → Option Place
tagged_read (Some (tree.Read (tree.Field (tree.Field whole number) own))) = Some whole
tagged_read _ = None

-- the variable whose value is read
abbrev pub accessed : Option Expr → Option Actual
accessed form = option_map tree.Accessed (place_read form)

-- the rule that fails where a variable has another type than the parameter
abbrev pub other_type : TypeName → TypeName → List ℕ
other_type parameter of = if same_type parameter of then [] else rule.VARIABLE_ARGUMENT ∷ []

-- A variable parameter takes a variable of its type that is no tag (ISO 10206, 6.7.3.3); none has the type of text
-- files so far.
abbrev pub variable_taken : TypeName → Access → Option Expr → Judged (Option Actual)
variable_taken parameter (access.Variable of guarded) form =
    if same_type parameter of then Accepts (accessed form) else Breaks (rule.VARIABLE_ARGUMENT ∷ [])
variable_taken parameter (access.Tag of guarded tag) form = Breaks (rule.ARGUMENT_COMPONENT ∷ other_type parameter of)
variable_taken parameter access.File form = Breaks (rule.VARIABLE_ARGUMENT ∷ [])
variable_taken parameter access.Constant form = Breaks (rule.CONSTANT_THREATENED ∷ rule.VARIABLE_NEEDED ∷ [])
variable_taken parameter access.Value form = Breaks (rule.VARIABLE_NEEDED ∷ [])

-- what is protected is not threatened (ISO 10206, 6.9.4)
abbrev pub unless_protected : Protection → Judged (Unit {0})
unless_protected protection.Unprotected = Accepts tt
unless_protected protection.Protected = Breaks (rule.PROTECTED ∷ [])

-- a variable is not protected that is given for a variable parameter that is not
abbrev pub threatened : Access → Judged (Unit {0})
threatened (access.Variable of guarded) = unless_protected guarded
threatened (access.Tag of guarded tag) = unless_protected guarded
threatened access.File = Accepts tt
threatened access.Constant = Accepts tt
threatened access.Value = Accepts tt

-- ---- arguments (ISO 10206, 6.7.3.1)

-- what is given for formal parameters: the actual parameters, where all are built, and how deep the deepest argument
-- is
pub record Taken : Type 0 where
  pub actuals : Option (List Actual)
  pub depth : ℕ

-- what is given for no parameter
abbrev pub nothing_taken : Taken
nothing_taken = record { actuals = Some []; depth = 0 }

-- and for one
abbrev pub one_taken : ℕ → Option Actual → Taken
one_taken depth actual = record { actuals = option_map (λ a. a ∷ []) actual; depth = depth }

-- what is given for some parameters and then for others
abbrev pub joined : Taken → Taken → Taken
joined x y = record { actuals = map_both (λ xs ys. xs ++ ys) x.actuals y.actuals; depth = max x.depth y.depth }

-- a value for a formal parameter that is given in this way
abbrev pub actual_taken : FormalMode → FormalParameter → Typed → Judged (Option Actual)
actual_taken mode.Value p v = value_taken p.kind v
actual_taken mode.ProtectedValue p v = value_taken p.kind v
actual_taken mode.Variable p v =
    both (λ actual done. Accepts actual) (variable_taken p.of.is v.access v.form) (threatened v.access)
actual_taken mode.ProtectedVariable p v = variable_taken p.of.is v.access v.form

-- a value that is accepted for a formal parameter
abbrev pub argument_taken : FormalParameter → Typed → Judged Taken
argument_taken p v = when_accepted (λ actual. Accepts (one_taken v.depth actual)) (actual_taken p.mode p v)

-- an argument for a formal parameter: all rules that fail in it, or else that of its value
abbrev pub argument_judged : FormalParameter → Given → Judged Taken
argument_judged p g = when_accepted (argument_taken p) (unless_faults (given_faults g) g.value)

-- one for each formal parameter, in order; where there are more of the ones or the others, their number is what fails
abbrev pub arguments_judged : List FormalParameter → List Given → Judged Taken
arguments_judged [] [] = Accepts nothing_taken
arguments_judged (p ∷ ps) (g ∷ gs) =
    both (λ x xs. Accepts (joined x xs)) (argument_judged p g) (arguments_judged ps gs)
arguments_judged ps gs = Breaks (rule.ARGUMENTS ∷ [])

-- ---- function designators (ISO 10206, 6.8.5)

-- what is built of a call of a function with a result of this kind: the call where that is ordinal, structured or a
-- set, and so far nothing else
abbrev pub call_form : Callee → Kind → Option (List Actual) → Option Expr
call_form callee (kind.Ordinal h) given = option_map (λ xs. tree.Function callee (actuals xs)) given
call_form callee (kind.Structured n) given = option_map (λ xs. tree.Function callee (actuals xs)) given
call_form callee (kind.Set h) given = option_map (λ xs. tree.Function callee (actuals xs)) given
call_form callee kind.EmptySet given = None
call_form callee kind.Text given = None
call_form callee kind.File given = None

-- a function with a result of this kind is called
abbrev pub function_typed : Callee → Kind → Taken → Judged Typed
function_typed callee k given = within_depth (call_form callee k given.actuals) k (suc given.depth)

-- and has these formal parameters
abbrev pub function_called : Callee → List FormalParameter → Kind → List Given → Judged Typed
function_called callee ps k gs = when_accepted (function_typed callee k) (arguments_judged ps gs)
