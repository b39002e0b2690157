-- Whether statements threaten a variable (ISO 10206, 6.9.4), and whether they assign to the name of a function
-- (6.7.2).
use Rattle.std.specs.Prelude.{ℕ, suc, nat_eq, position, Bool, true, false, ◌==◌, ◌||◌, ◌&&◌, List, [], ◌∷◌, Option}
use Rattle.std.specs.Prelude.{Some, None}
use Rattle.std.specs.List.{list_any}
use Rattle.std.specs.Str.{bytes_eq}
use Rattle.ep_tree.specs.declared.expression.Access.{Access, out-Access}
use Rattle.ep_tree.specs.declared.expression.Selector.{Selector}
use Rattle.ep_tree.specs.Folds as fold
use Rattle.ep_tree.specs.declared.statement.Statement.TheOpen.{Statement-F}
use Rattle.ep_tree.specs.declared.statement.Statement.{Statement}
use Rattle.ep_tree.specs.declared.statement.Arm.{Arm}
use Rattle.ep_tree.specs.declared.statement.Compound.{Compound}
use Rattle.ep_typed.specs.Trees.{Structured, Element, AtIndex, AtField, SameField, AtRanges, AtIndexes, Elements}
use Rattle.ep_typed.specs.Trees.{no_element, next_element, Entire, OfUnit, OfRoutine, entire, Place, Variable, Own}
use Rattle.ep_typed.specs.Trees.{Standard, Indexed, Field, Variant, Expr, Constant, Text, Read, One, Two, Short, Step}
use Rattle.ep_typed.specs.Trees.{Function, IndexedValue, FieldValue, VariantValue, Actual, Evaluated, Accessed}
use Rattle.ep_typed.specs.Trees.{Actuals, no_actual, next_actual, Item, Plain, Wide, Stmt, Stmts, Empty, Assign}
use Rattle.ep_typed.specs.Trees.{AssignTag, If, While, Repeat, For, ForIn, With, Procedure, Case, Halt, Write, none}
use Rattle.ep_typed.specs.Trees.{next, Arms, no_arm, next_arm, Other, no_other, otherwise_do, SetOf, OnSets, Card}
use Rattle.ep_typed.specs.Trees.{Designator, Single, Range, Designators, no_member, next_member, SetConstant}
use Rattle.ep_typed.specs.Trees as tree
use Rattle.ep_typed.specs.declared.interface.Formal.{Formal}
use Rattle.ep_typed.specs.declared.interface.FormalMode.{FormalMode}
use Rattle.ep_typed.specs.declared.interface.FormalMode.TheVariants as mode
use Rattle.ep_threats.specs.Callees.{Callees, formals_at}
use Rattle.ep_threats.specs.RoutineForms.{RoutineForm}

-- ---- threats to a variable, by typed statements (ISO 10206, 6.9.4)

-- whether what is given for a parameter of this mode is threatened: a variable parameter that is not protected
abbrev pub mode_threatens : FormalMode → Bool
mode_threatens mode.Value = false
mode_threatens mode.Variable = true
mode_threatens mode.ProtectedValue = false
mode_threatens mode.ProtectedVariable = false

-- whether a place is that of an entire variable, or of a component of it, however deep (ISO 10206, 6.5.2)
abbrev pub is_variable : Entire → Place → Bool
is_variable v (Indexed array index) = is_variable v array
is_variable v (Field whole number) = is_variable v whole
is_variable v (Variant whole selection number) = is_variable v whole
is_variable (OfUnit unit number) (Variable other place) = bytes_eq unit other && number == place
is_variable (OfRoutine up number) (Own other place) = up == other && number == place
is_variable v place = false

-- by the formal parameters of each routine, for an entire variable
module _ (formals_of : List ℕ → ℕ → List Formal) (variable : Entire) where
  abbrev mutual
    -- whether an expression has a function designator that threatens the variable
    pub expr_threatens : Expr → Bool
    expr_threatens (Constant value) = false
    expr_threatens (Text bytes) = false
    expr_threatens (Read place) = place_threatens place
    expr_threatens (One operation x) = expr_threatens x
    expr_threatens (Two operation x y) = expr_threatens x || expr_threatens y
    expr_threatens (Short operation x y) = expr_threatens x || expr_threatens y
    expr_threatens (Step down low high x y) = expr_threatens x || expr_threatens y
    expr_threatens (Function callee given) = actuals_threaten (formals_of callee.unit callee.number) given
    expr_threatens (IndexedValue array index) = expr_threatens array || expr_threatens index
    expr_threatens (FieldValue whole number) = expr_threatens whole
    expr_threatens (VariantValue whole selection number) = expr_threatens whole
    expr_threatens (SetConstant members) = false
    expr_threatens (SetOf members) = members_threaten members
    expr_threatens (OnSets operation x y) = expr_threatens x || expr_threatens y
    expr_threatens (Card x) = expr_threatens x
    expr_threatens (Structured number es) = elements_threaten es

    -- whether an index or a value in what a component of a structured value is given does
    pub element_threatens : Element → Bool
    element_threatens (AtIndex x y) = expr_threatens x || expr_threatens y
    element_threatens (AtField steps x) = expr_threatens x
    element_threatens (SameField from to) = false
    element_threatens (AtRanges ranges x) = expr_threatens x
    element_threatens (AtIndexes ds x) = members_threaten ds || expr_threatens x

    pub elements_threaten : Elements → Bool
    elements_threaten no_element = false
    elements_threaten (next_element e more) = element_threatens e || elements_threaten more

    -- whether a value of a member designator does
    pub member_threatens : Designator → Bool
    member_threatens (Single x) = expr_threatens x
    member_threatens (Range x y) = expr_threatens x || expr_threatens y

    pub members_threaten : Designators → Bool
    members_threaten no_member = false
    members_threaten (next_member d more) = member_threatens d || members_threaten more

    -- whether an index in a place does
    pub place_threatens : Place → Bool
    place_threatens (Variable unit number) = false
    place_threatens (Own up number) = false
    place_threatens (Standard file) = false
    place_threatens (Indexed array index) = place_threatens array || expr_threatens index
    place_threatens (Field whole number) = place_threatens whole
    place_threatens (Variant whole selection number) = place_threatens whole

    -- whether what is given for a parameter of this mode threatens the variable: it is the variable itself or a
    -- component of it, a place with an index that threatens it, or an expression that does
    pub actual_threatens : FormalMode → Actual → Bool
    actual_threatens m (Evaluated x) = expr_threatens x
    actual_threatens m (Accessed place) = mode_threatens m && is_variable variable place || place_threatens place

    -- whether what is given for these formal parameters does, one for one
    pub actuals_threaten : List Formal → Actuals → Bool
    actuals_threaten formals no_actual = false
    actuals_threaten [] (next_actual a more) = false
    actuals_threaten (f ∷ fs) (next_actual a more) = actual_threatens f.mode a || actuals_threaten fs more

  -- whether an expression that is written, or its width, threatens the variable
  abbrev pub item_threatens : Item → Bool
  item_threatens (Plain print x) = expr_threatens x
  item_threatens (Wide print x width) = expr_threatens x || expr_threatens width

  -- whether one of these does
  abbrev pub items_threaten : List Item → Bool
  items_threaten [] = false
  items_threaten (i ∷ is) = item_threatens i || items_threaten is

-- by the formal parameters of each routine
module _ (formals_of : List ℕ → ℕ → List Formal) where
  abbrev mutual
    -- whether a statement, or one inside of it, assigns to an entire variable or a component of it, or gives it for a
    -- variable parameter that is not protected
    pub threatens : Entire → Stmt → Bool
    threatens v Empty = false
    threatens v (tree.Compound ss) = stmts_threaten v ss
    threatens v (Assign line place x) =
        is_variable v place || (place_threatens formals_of v place || expr_threatens formals_of v x)
    -- a tag is a component of its record
    threatens v (AssignTag line c place s x) =
        is_variable v place || (place_threatens formals_of v place || expr_threatens formals_of v x)
    threatens v (If line x a b) = expr_threatens formals_of v x || (threatens v a || threatens v b)
    threatens v (While line x s) = expr_threatens formals_of v x || threatens v s
    threatens v (Repeat line ss x) = stmts_threaten v ss || expr_threatens formals_of v x
    -- the control variable of a `for` is threatened by it
    threatens v (For line c x y s) =
        is_variable v (entire c.variable)
        || (expr_threatens formals_of v x || (expr_threatens formals_of v y || threatens v s))
    threatens v (ForIn line c x s) =
        is_variable v (entire c.variable) || (expr_threatens formals_of v x || threatens v s)
    -- what threatens the variable that stands for a place threatens that of which the place is a component
    threatens v (With line stands of place s) =
        place_threatens formals_of v place || (threatens v s || is_variable v place && threatens stands s)
    threatens v (Procedure line callee given) =
        actuals_threaten formals_of v (formals_of callee.unit callee.number) given
    threatens v (Case line x arms other) =
        expr_threatens formals_of v x || (arms_threaten v arms || other_threatens v other)
    threatens v (Halt line) = false
    threatens v (Write line items ends_line) = items_threaten formals_of v items

    -- whether one of these does
    pub stmts_threaten : Entire → Stmts → Bool
    stmts_threaten v none = false
    stmts_threaten v (next s ss) = threatens v s || stmts_threaten v ss

    -- whether the statement of one of these arms does
    pub arms_threaten : Entire → Arms → Bool
    arms_threaten v no_arm = false
    arms_threaten v (next_arm ranges s arms) = threatens v s || arms_threaten v arms

    -- whether one of the statements behind `otherwise` does
    pub other_threatens : Entire → Other → Bool
    other_threatens v no_other = false
    other_threatens v (otherwise_do ss) = stmts_threaten v ss

-- ---- threats by the routines in a routine, however deep (ISO 10206, 6.9.4)

-- Whether this routine threatens a variable, by its number, of a routine around it, where so many stand between.
abbrev pub threatens_from : Callees → ℕ → Stmt → Option ℕ → Bool
threatens_from callees number s None = false
threatens_from callees number s (Some between) = threatens (formals_at callees) (OfRoutine (suc between) number) s

-- whether one of some routines does, where it is in the one of this number
abbrev pub some_threaten : ℕ → Callees → ℕ → List RoutineForm → Bool
some_threaten routine callees number some =
    list_any (λ r. threatens_from callees number r.block (position (nat_eq routine) r.around)) some

-- whether a routine in the one of this number does
abbrev pub inner_threatens : ℕ → Callees → ℕ → Bool
inner_threatens routine callees number = some_threaten routine callees number callees.own

-- ---- assignments to a name, by the text (ISO 10206, 6.9.2.2)

-- whether what is there passes
abbrev pub true_if : Option Bool → Bool
true_if None = false
true_if (Some b) = b

-- whether one of these passes
abbrev pub any_true : List Bool → Bool
any_true [] = false
any_true (b ∷ bs) = b || any_true bs

module _ (name : List ℕ) where
  -- whether another name with these selectors is the name alone
  abbrev pub stands_alone : List ℕ → List Selector → Bool
  stands_alone other [] = bytes_eq other name
  stands_alone other _ = false

  -- whether an access is the name without selectors
  abbrev pub is_bare : Access → Bool
  is_bare a = stands_alone (out-Access a).name (out-Access a).selectors

  -- an assignment to the name, or a statement with one inside of it, whatever its form
  abbrev pub in_statement : fold.StatementOf (fold.statements_as Bool) → Bool
  in_statement (Statement-F.Empty line) = false
  in_statement (Statement-F.Assignment line access value) = is_bare access
  in_statement (Statement-F.Call line access) = false
  in_statement (Statement-F.Compound compound) = compound
  in_statement (Statement-F.If line condition then other) = then || true_if other
  in_statement (Statement-F.Case line selector arms other) = any_true arms || true_if other
  in_statement (Statement-F.While line condition body) = body
  in_statement (Statement-F.Repeat line statements condition) = any_true statements
  in_statement (Statement-F.For line variable start direction end body) = body
  in_statement (Statement-F.ForIn line variable members body) = body
  in_statement (Statement-F.With line accesses body) = body

  -- the statement of an arm
  abbrev pub in_arm : fold.ArmOf (fold.statements_as Bool) → Bool
  in_arm a = a.body

  -- the statements between `begin` and `end`
  abbrev pub in_compound : fold.CompoundOf (fold.statements_as Bool) → Bool
  in_compound c = any_true c.statements

  -- the statements behind `otherwise`
  abbrev pub in_otherwise : fold.OtherwiseOf (fold.statements_as Bool) → Bool
  in_otherwise o = any_true o.statements

  -- these rules together
  abbrev pub in_statements : fold.StatementRules (fold.statements_as Bool)
  in_statements =
      record {
        statement = in_statement;
        arm = in_arm;
        compound = in_compound;
        otherwise = in_otherwise;
      }

  -- whether a statement, or one inside of it, assigns to the name
  abbrev pub statement_assigns : Statement → Bool
  statement_assigns = fold.of_statement in_statements

  -- whether an arm does
  abbrev pub arm_assigns : Arm → Bool
  arm_assigns = fold.of_arm in_statements

  -- whether a statement part has an assignment to the name, also where a field of an open record hides what the name
  -- means around (ISO 10206, 6.7.2)
  abbrev pub assigns : Compound → Bool
  assigns = fold.of_compound in_statements
