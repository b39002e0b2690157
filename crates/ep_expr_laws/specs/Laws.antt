-- The laws of typed forms: what the rules accept is valid wherever the declarations hold what the scopes declare, and
-- of a host that is known.
use Rattle.std.specs.Prelude.{◌≡◌, ℕ, List, Option, map}
use Rattle.ep_tree.specs.declared.expression.Access.{Access}
use Rattle.ep_tree.specs.declared.expression.Argument.{Argument}
use Rattle.ep_tree.specs.declared.expression.ComponentValue.{ComponentValue}
use Rattle.ep_tree.specs.declared.expression.Expression.{Expression}
use Rattle.ep_scope.specs.Scopes.{Region}
use Rattle.ep_scope.specs.declared.parameter.FormalParameter.{FormalParameter}
use Rattle.ep_expr_laws.specs.Agreement.{IsSound, IsSoundAccess, IsSoundTaken}
use Rattle.ep_rules.specs.Arguments.{Taken, arguments_judged}
use Rattle.ep_expr_laws.specs.Agreement.{IsSoundConstant}
use Rattle.ep_check_expr.specs.Constants.{constant_judged, bound_judged, initial_state_judged, label_judged}
use Rattle.ep_check_expr.specs.Expressions.{given, judged, judged_value, name_judged}
use Rattle.ep_rules.specs.Judgements.{Accepts, Typed}
use Rattle.ep_expr_laws.specs.Origins.{IsKnownKind}
use Rattle.ep_check_expr.specs.declared.constants.ConstantForm.{ConstantForm}

-- an expression that is accepted has a valid form
abbrev pub ExpressionsAreSound : Type 0
ExpressionsAreSound =
    (scopes : List Region) (e : Expression) (t : Typed) → judged scopes e ≡ Accepts t → IsSound scopes t

-- and is read of a variable of its type where it is one
abbrev pub AccessesAreSound : Type 0
AccessesAreSound =
    (scopes : List Region) (e : Expression) (t : Typed) → judged scopes e ≡ Accepts t → IsSoundAccess scopes t

-- an access that is accepted, as that of what is assigned to, has a valid form, and is read of a variable of its type
-- where it is one
abbrev pub VariablesAreSound : Type 0
VariablesAreSound =
    (scopes : List Region) (a : Access) (t : Typed) → name_judged scopes a ≡ Accepts t
    → IsSound scopes t × IsSoundAccess scopes t

-- arguments that are accepted are valid for formal parameters
abbrev pub ArgumentsAreSound : Type 0
ArgumentsAreSound =
    (scopes : List Region) (ps : List FormalParameter) (arguments : List Argument) (t : Taken)
    → arguments_judged ps (map (given scopes) arguments) ≡ Accepts t → IsSoundTaken scopes ps t

-- so has the value of a definition or of an assignment, whatever is asked of it
abbrev pub ValuesAreSound : Type 0
ValuesAreSound =
    (scopes : List Region) (v : ComponentValue) (asked : Option ℕ) (t : Typed)
    → judged_value scopes v asked ≡ Accepts t → IsSound scopes t

-- a constant that is accepted is of its kind
abbrev pub ConstantsAreSound : Type 0
ConstantsAreSound =
    (scopes : List Region) (v : ComponentValue) (c : ConstantForm) → constant_judged scopes v ≡ Accepts c
    → IsSoundConstant scopes c

-- so is a bound
abbrev pub BoundsAreSound : Type 0
BoundsAreSound =
    (scopes : List Region) (e : Expression) (c : ConstantForm) → bound_judged scopes e ≡ Accepts c
    → IsSoundConstant scopes c

-- an end of a label
abbrev pub LabelsAreSound : Type 0
LabelsAreSound =
    (scopes : List Region) (e : Expression) (c : ConstantForm) → label_judged scopes e ≡ Accepts c
    → IsSoundConstant scopes c

-- and an initial state, whatever is asked of it
abbrev pub InitialStatesAreSound : Type 0
InitialStatesAreSound =
    (scopes : List Region) (asked : Option ℕ) (v : ComponentValue) (c : ConstantForm)
    → initial_state_judged scopes asked v ≡ Accepts c → IsSoundConstant scopes c

-- the host of an expression that is accepted is required or declared
abbrev pub ExpressionsAreKnown : Type 0
ExpressionsAreKnown =
    (scopes : List Region) (e : Expression) (t : Typed) → judged scopes e ≡ Accepts t → IsKnownKind scopes t.kind

-- so is that of a constant
abbrev pub ConstantsAreKnown : Type 0
ConstantsAreKnown =
    (scopes : List Region) (v : ComponentValue) (c : ConstantForm) → constant_judged scopes v ≡ Accepts c
    → IsKnownKind scopes c.kind

-- and that of a bound
abbrev pub BoundsAreKnown : Type 0
BoundsAreKnown =
    (scopes : List Region) (e : Expression) (c : ConstantForm) → bound_judged scopes e ≡ Accepts c
    → IsKnownKind scopes c.kind
