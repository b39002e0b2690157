-- Typed trees as plain data, on which meaning, validity and code are defined by recursion.
use Rattle.std.specs.Prelude.{ℕ, ℤ, Bool, List, [], ◌∷◌, Option, Some, None}
use Rattle.ep_values.specs.declared.operations.Unary.{Unary}
use Rattle.ep_values.specs.declared.operations.Binary.{Binary}
use Rattle.ep_values.specs.declared.operations.ShortOperation.{ShortOperation}
use Rattle.ep_values.specs.declared.operations.Print.{Print}
use Rattle.ep_values.specs.declared.operations.SetOperation.{SetOperation}
use Rattle.ep_typed.specs.declared.denoter.RequiredType.{RequiredType}
use Rattle.ep_typed.specs.declared.tree.CaseRange.{CaseRange}
use Rattle.ep_typed.specs.declared.tree.Selection.{Selection}
use Rattle.ep_typed.specs.declared.tree.StandardFile.{StandardFile}

-- a bound of a type: a constant, by its ordinal number
pub data Bound : Type 0 where
  Fixed : (value : ℤ) → Bound

-- A routine that is called: its unit, its number in that unit, and 0 for a routine of the unit, or one more than how
-- many
-- levels up from the one that runs stands that in which it is declared.
pub record Callee : Type 0 where
  pub unit : List ℕ
  pub number : ℕ
  pub levels : ℕ

mutual
  -- where a variable is
  pub data Place : Type 0 where
    -- the variable of this number of the unit of this name
    Variable : (unit : List ℕ) (number : ℕ) → Place
    -- the variable of this number of the routine so many levels up from the one that runs
    Own : (levels number : ℕ) → Place
    Standard : (file : StandardFile) → Place
    -- the component of an array at an index
    Indexed : (array : Place) (index : Expr) → Place
    -- the component of a record with this number
    Field : (whole : Place) (number : ℕ) → Place
    -- the variant of a record with this number, as the record of its fields
    Variant : (whole : Place) (selection : Selection) (number : ℕ) → Place

  -- an expression
  pub data Expr : Type 0 where
    Constant : (value : ℤ) → Expr
    Text : (bytes : List ℕ) → Expr
    Read : (place : Place) → Expr
    One : (operation : Unary) (operand : Expr) → Expr
    Two : (operation : Binary) (left right : Expr) → Expr
    -- the right operand is evaluated only where the left one decides nothing
    Short : (operation : ShortOperation) (left right : Expr) → Expr
    -- `succ`, or `pred` where the mark says that the count is taken away, within the least and the greatest value
    Step : (down : Bool) (low high : ℤ) (value count : Expr) → Expr
    -- the function is called with these parameters
    Function : (callee : Callee) (given : Actuals) → Expr
    -- the component at an index of an array that a function gives (ISO 10206, 6.8.6.2)
    IndexedValue : (array index : Expr) → Expr
    -- the component with this number of a record that a function gives (ISO 10206, 6.8.6.3)
    FieldValue : (whole : Expr) (number : ℕ) → Expr
    -- the variant with this number of a record that a function gives, as the record of its fields (ISO 10206, 6.8.6.3)
    VariantValue : (whole : Expr) (selection : Selection) (number : ℕ) → Expr
    -- a constant that is a set, by its members in rising order
    SetConstant : (members : List ℕ) → Expr
    -- a set constructor, by its member designators (ISO 10206, 6.8.7.4)
    SetOf : (members : Designators) → Expr
    -- an operation on two values of which the right one at least is a set
    OnSets : (operation : SetOperation) (left right : Expr) → Expr
    -- how many members a set has
    Card : (operand : Expr) → Expr
    -- a structured value (ISO 10206, 6.8.7.1): the type at this place of the unit's list of types, and what its
    -- components are
    -- given
    Structured : (of : ℕ) (elements : Elements) → Expr

  -- What a component of a structured value is given: the one of an array at an index, or the one of a record to which
  -- steps
  -- lead, each the number of a component.
  pub data Element : Type 0 where
    AtIndex : (index value : Expr) → Element
    AtField : (steps : List ℕ) (value : Expr) → Element
    -- the component to which the second steps lead, which is given what that has to which the first lead
    SameField : (from to : List ℕ) → Element
    -- the components of an array at the indexes in ranges, which are all given one value
    AtRanges : (ranges : List CaseRange) (value : Expr) → Element
    -- the components of an array at the indexes that designators give, which are all given one value
    AtIndexes : (indexes : Designators) (value : Expr) → Element

  -- what components are given, in order
  pub data Elements : Type 0 where
    no_element : Elements
    next_element : (first : Element) (rest : Elements) → Elements

  -- an actual parameter: the value of an expression, or a variable that is accessed
  pub data Actual : Type 0 where
    Evaluated : (value : Expr) → Actual
    Accessed : (place : Place) → Actual

  -- actual parameters, in order
  pub data Actuals : Type 0 where
    no_actual : Actuals
    next_actual : (first : Actual) (rest : Actuals) → Actuals

  -- a member designator: a value that is a member, or the first and the last of values that are
  pub data Designator : Type 0 where
    Single : (value : Expr) → Designator
    Range : (first last : Expr) → Designator

  -- member designators, in order
  pub data Designators : Type 0 where
    no_member : Designators
    next_member : (first : Designator) (rest : Designators) → Designators

abbrev pub designators : List Designator → Designators
designators [] = no_member
designators (d ∷ more) = next_member d (designators more)

abbrev pub elements : List Element → Elements
elements [] = no_element
elements (e ∷ more) = next_element e (elements more)

abbrev pub actuals : List Actual → Actuals
actuals [] = no_actual
actuals (a ∷ more) = next_actual a (actuals more)

mutual
  -- a type denoter (ISO 10206, 6.4.1)
  pub data Denoter : Type 0 where
    Required : (required : RequiredType) → Denoter
    -- the type at this place of a list of types, with the bounds of its tuple
    Named : (index : ℕ) (tuple : List Bound) → Denoter
    Subrange : (host : Denoter) (low high : Bound) → Denoter
    Enumeration : (names : List (List ℕ)) → Denoter
    -- an array, by its index type and the type of its components
    Array : (index component : Denoter) → Denoter
    -- a record, by the types of its components
    Record : (components : Denoters) → Denoter
    -- a set, by its base type
    Set : (base : Denoter) → Denoter
    -- a type with an initial state, which is a constant, by its form as an expression (ISO 10206, 6.6)
    Initial : (of : Denoter) (value : Expr) → Denoter

  -- denoters, in order
  pub data Denoters : Type 0 where
    no_denoter : Denoters
    next_denoter : (first : Denoter) (rest : Denoters) → Denoters

abbrev pub denoters : List Denoter → Denoters
denoters [] = no_denoter
denoters (d ∷ more) = next_denoter d (denoters more)

-- an expression that is written, with its width where there is one
pub data Item : Type 0 where
  Plain : (print : Print) (value : Expr) → Item
  Wide : (print : Print) (value width : Expr) → Item

-- an entire variable (ISO 10206, 6.5.2): the one of this number of the unit of this name, or of the routine so many
-- levels
-- up from the one that runs
pub data Entire : Type 0 where
  OfUnit : (unit : List ℕ) (number : ℕ) → Entire
  OfRoutine : (levels number : ℕ) → Entire

-- its place
abbrev pub entire : Entire → Place
entire (OfUnit unit number) = Variable unit number
entire (OfRoutine levels number) = Own levels number

-- What a `for` statement counts with (ISO 10206, 6.9.3.9.2): the control variable, the auxiliary variables that have
-- the
-- initial and the final value, whether the values fall, and the least and the greatest value of the control variable's
-- host.
pub record Control : Type 0 where
  pub variable : Entire
  pub initial : Entire
  pub last : Entire
  pub falls : Bool
  pub low : ℤ
  pub high : ℤ

-- What an assignment to a tag works with: the auxiliary variable that has the value, and the least and the greatest
-- value of
-- the tag's type.
pub record Tagging : Type 0 where
  pub value : Entire
  pub low : ℤ
  pub high : ℤ

-- What a `for` statement over the members of a set goes by (ISO 10206, 6.9.3.9.3): the control variable, and the
-- auxiliary
-- variable that has the members that are still to come.
pub record MemberControl : Type 0 where
  pub variable : Entire
  pub rest : Entire

-- A record that a `with` opens (ISO 10206, 6.9.3.10): the variable that stands for it, the number of its record type,
-- and its place.
pub record WithRecord : Type 0 where
  pub variable : Entire
  pub of : ℕ
  pub place : Place

mutual
  -- a statement, with the line of its first token
  pub data Stmt : Type 0 where
    Empty : Stmt
    Compound : (statements : Stmts) → Stmt
    Assign : (line : ℕ) (place : Place) (value : Expr) → Stmt
    -- an assignment to the tag of a record whose variants are selected so
    AssignTag : (line : ℕ) (tagging : Tagging) (whole : Place) (selection : Selection) (value : Expr) → Stmt
    If : (line : ℕ) (condition : Expr) (then_part else_part : Stmt) → Stmt
    While : (line : ℕ) (condition : Expr) (body : Stmt) → Stmt
    -- the statements, and then the condition
    Repeat : (line : ℕ) (body : Stmts) (condition : Expr) → Stmt
    -- the control, the initial and the final value, and the body
    For : (line : ℕ) (control : Control) (initial last : Expr) (body : Stmt) → Stmt
    -- the control, the set, and the body
    ForIn : (line : ℕ) (control : MemberControl) (set : Expr) (body : Stmt) → Stmt
    -- the variable that stands for the place, the number of its record type, the place, and the body
    With : (line : ℕ) (variable : Entire) (of : ℕ) (place : Place) (body : Stmt) → Stmt
    -- the procedure is called with these parameters
    Procedure : (line : ℕ) (callee : Callee) (given : Actuals) → Stmt
    -- the selector, the arms, and what is done where no range of theirs has its value
    Case : (line : ℕ) (selector : Expr) (arms : Arms) (other : Other) → Stmt
    Halt : (line : ℕ) → Stmt
    -- `write`, or with the mark `writeln`
    Write : (line : ℕ) (items : List Item) (ends_line : Bool) → Stmt

  pub data Stmts : Type 0 where
    none : Stmts
    next : (first : Stmt) (rest : Stmts) → Stmts

  -- the arms of a `case`: the ranges of each, and its statement
  pub data Arms : Type 0 where
    no_arm : Arms
    next_arm : (ranges : List CaseRange) (body : Stmt) (rest : Arms) → Arms

  -- the `otherwise` part of a `case`, where there is one
  pub data Other : Type 0 where
    no_other : Other
    otherwise_do : (statements : Stmts) → Other

abbrev pub stmts : List Stmt → Stmts
stmts [] = none
stmts (s ∷ ss) = next s (stmts ss)

-- an arm of a `case`
abbrev pub Arm : Type 0
Arm = List CaseRange × Stmt

abbrev pub arms : List Arm → Arms
arms [] = no_arm
arms (a ∷ more) = next_arm a.0 a.1 (arms more)

abbrev pub other : Option (List Stmt) → Other
other None = no_other
other (Some ss) = otherwise_do (stmts ss)

-- a `with` of several records: what stands in a list sees the fields of what stands before it, so that
-- `with a, b do s` is `with a do with b do s`
abbrev pub with_form : ℕ → List WithRecord → Stmt → Stmt
with_form line [] s = s
with_form line (r ∷ more) s = With line r.variable r.of r.place (with_form line more s)
