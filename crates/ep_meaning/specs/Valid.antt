-- Which typed trees the static rules give: each form has parts of the kinds, types and numbers that it asks for.
use Rattle.std.specs.Prelude.{◌≡◌, ℕ, ℤ, pos, zero, suc, ◌+◌, ◌<◌, ◌≤◌, Bool, true, false, All, List, [], ◌∷◌, ◌++◌}
use Rattle.std.specs.Prelude.{slice_get, drop, length, Option, Some, None, IsTrue, int_le, ⊤, ◌⊎◌}
use Rattle.ep_typed.specs.Denoters.{ArrayParts, array_of, base_of, definition_of, denoter_at, denoters_count}
use Rattle.ep_typed.specs.Denoters.{record_of, required_type, type_of, host_of, bare_type_of}
use Rattle.ep_typed.specs.Hosts.{Host, least, greatest, is_of_host}
use Rattle.ep_typed.specs.Hosts as host
use Rattle.ep_values.specs.Operations.{is_integer}
use Rattle.ep_typed.specs.CaseRanges.{is_apart}
use Rattle.ep_meaning.specs.Results.{has_base_for}
use Rattle.ep_values.specs.Sets.{IsSet, are_between, is_ordinal}
use Rattle.ep_values.specs.TypeValues.{is_within}
use Rattle.ep_typed.specs.Selections.{variant_number, variants_count}
use Rattle.ep_typed.specs.Trees as tree
use Rattle.ep_typed.specs.Trees.{Fixed, Denoter, Required, Named, Subrange, Enumeration, Array, Record, Denoters}
use Rattle.ep_typed.specs.Trees.{no_denoter, next_denoter, Initial, Callee, Place, Variable, Own, Standard, Indexed}
use Rattle.ep_typed.specs.Trees.{Field, Variant, Expr, Constant, Text, Read, One, Two, Short, Step, Function}
use Rattle.ep_typed.specs.Trees.{IndexedValue, FieldValue, VariantValue, SetOf, OnSets, Card, Designator, Single}
use Rattle.ep_typed.specs.Trees.{Range, Designators, no_member, next_member, Actual, Evaluated, Accessed, Actuals}
use Rattle.ep_typed.specs.Trees.{no_actual, next_actual, Item, Plain, Wide, Stmt, Stmts, Empty, Compound, Assign}
use Rattle.ep_typed.specs.Trees.{Tagging, AssignTag, If, While, Repeat, Control, For, MemberControl, ForIn, With}
use Rattle.ep_typed.specs.Trees.{Procedure, Halt, Write, none, next, Case, Arms, no_arm, next_arm, Other, no_other}
use Rattle.ep_typed.specs.Trees.{otherwise_do, Entire, OfUnit, OfRoutine, entire, SetConstant, Element, AtIndex}
use Rattle.ep_typed.specs.Trees.{AtField, SameField, AtRanges, AtIndexes, Elements, no_element, next_element}
use Rattle.ep_typed.specs.Viewed.{constant_expr, denoter_of}
use Rattle.ep_values.specs.declared.operations.Unary.{Unary}
use Rattle.ep_values.specs.declared.operations.Unary.TheVariants as unary
use Rattle.ep_values.specs.declared.operations.Binary.{Binary}
use Rattle.ep_values.specs.declared.operations.Binary.TheVariants as binary
use Rattle.ep_values.specs.declared.operations.SetOperation.{SetOperation}
use Rattle.ep_values.specs.declared.operations.SetOperation.TheVariants as set_operation
use Rattle.ep_values.specs.declared.operations.Print.{Print}
use Rattle.ep_values.specs.declared.operations.Print.TheVariants as print
use Rattle.ep_typed.specs.declared.denoter.RequiredType.{RequiredType}
use Rattle.ep_typed.specs.declared.interface.ConstantEntry.{ConstantEntry}
use Rattle.ep_typed.specs.declared.interface.Formal.{Formal}
use Rattle.ep_typed.specs.declared.interface.FormalMode.{FormalMode}
use Rattle.ep_typed.specs.declared.interface.FormalMode.TheVariants as mode
use Rattle.ep_typed.specs.declared.interface.RoutineEntry.{RoutineEntry}
use Rattle.ep_typed.specs.declared.interface.RoutineResult.{RoutineResult}
use Rattle.ep_typed.specs.declared.tree.CaseRange.{CaseRange}
use Rattle.ep_typed.specs.declared.tree.Selection.{Selection}
use Rattle.ep_values.specs.TypeValues.{TypeValue, ComponentTypes, bare_of, type_among}
use Rattle.ep_values.specs.TypeValues as type
use Rattle.ep_typed.specs.declared.value.Value.{Value}
use Rattle.ep_typed.specs.declared.value.Value.TheVariants as value
use Rattle.ep_typed.specs.declared.unit.UnitType.{UnitType}
use Rattle.ep_typed.specs.declared.unit.UnitVariable.{UnitVariable}

-- What an expression is: of an ordinal type with this host, a text, of an array or record type without initial states,
-- or a
-- set over this host.
pub data ValueKind : Type 0 where
  Ordinal : (host : Host) → ValueKind
  Bytes : ValueKind
  Structured : (type_value : TypeValue) → ValueKind
  Set : (host : Host) → ValueKind

-- the type value is that of an array or a record, and no initial state is given to it
abbrev pub IsStructured : TypeValue → Type 0
IsStructured (type.Ordinal low high) = ⊥
IsStructured type.Text = ⊥
IsStructured (type.Array low high of) = ⊤
IsStructured (type.Record ts) = ⊤
IsStructured (type.Set low high) = ⊥
IsStructured (type.Initial of start) = ⊥

-- under a list of types a value of the denoter's type is of the kind
abbrev pub IsOfKind : ValueKind → List UnitType → Denoter → Type 0
IsOfKind (Ordinal h) types d = host_of types d ≡ Some h
IsOfKind Bytes types d = ⊥
IsOfKind (Structured t) types d = (bare_type_of types d ≡ Some t) × IsStructured t
IsOfKind (Set h) types d = (base : Denoter) × (base_of types d ≡ Some base) × (host_of types base ≡ Some h)

-- a type without initial states is not empty, and its values are integers of the host
abbrev pub IsTypeOf : Host → TypeValue → Type 0
IsTypeOf h (type.Ordinal low high) =
    IsTrue (int_le low high) × IsTrue (is_of_host h low) × IsTrue (is_of_host h high) × IsTrue (is_integer low)
    × IsTrue (is_integer high)
IsTypeOf h type.Text = ⊥
IsTypeOf h (type.Array low high of) = ⊥
IsTypeOf h (type.Record ts) = ⊥
IsTypeOf h (type.Set low high) = ⊥
IsTypeOf h (type.Initial of start) = ⊥

-- the values of a type of the host may be members of sets
abbrev pub IsBaseOf : Host → ℤ → ℤ → Type 0
IsBaseOf h low high = IsTypeOf h (type.Ordinal low high) × IsTrue (is_ordinal low) × IsTrue (is_ordinal high)

-- values of the type value are sets over the host
abbrev pub IsSetOf : Host → TypeValue → Type 0
IsSetOf h (type.Set low high) = IsBaseOf h low high
IsSetOf h _ = ⊥

-- values of the type value, which has no initial states, are of the kind
abbrev pub IsTypeOfKind : ValueKind → TypeValue → Type 0
IsTypeOfKind (Ordinal h) t = IsTypeOf h t
IsTypeOfKind Bytes t = ⊥
IsTypeOfKind (Structured u) t = (u ≡ t) × IsStructured u
IsTypeOfKind (Set h) t = IsSetOf h t

-- the indexes of a range are in order, and lie within these bounds
abbrev pub IsRangeWithin : ℤ → ℤ → CaseRange → Type 0
IsRangeWithin low high r = IsTrue (int_le low r.low) × IsTrue (int_le r.low r.high) × IsTrue (int_le r.high high)

-- the steps, of which there is at least one, lead through records from one with these components to a component of the
-- type
abbrev pub LeadTo : ComponentTypes → List ℕ → TypeValue → Type 0
LeadTo ts [] of = ⊥
LeadTo ts (k ∷ []) of = type_among ts k ≡ Some of
LeadTo ts (k ∷ j ∷ more) of =
    (us : ComponentTypes) × (type_among ts k ≡ Some (type.Record us)) × LeadTo us (j ∷ more) of

-- they lead to one whose values are of the kind
abbrev pub LeadToKind : ComponentTypes → List ℕ → ValueKind → Type 0
LeadToKind ts steps kind = (of : TypeValue) × LeadTo ts steps of × IsTypeOfKind kind of

-- a routine by its number, with its variables, and the first number of those that no code makes
pub record Level : Type 0 where
  pub number : ℕ
  pub variables : List UnitVariable
  pub first_with : ℕ

-- What may be named in a block of a unit, which is at home there: what its own unit declares, and what the headings of
-- other units give, by the unit's name. All denoters name in the one list of types of the home.
pub record Declarations : Type 0 where
  -- the variable of this number of the unit
  pub variables : List ℕ → ℕ → Option UnitVariable
  pub routines : List ℕ → List RoutineEntry
  -- the routines around the routine of this number of the unit, the innermost first
  pub around : List ℕ → ℕ → List Level
  -- the types of the home
  pub types : List UnitType
  -- the home, and the routine in whose block they may be named and the ones around it, the innermost first: without
  -- routines they may be named in its start
  pub home : List ℕ
  pub levels : List Level
  -- the number, among the routines of the home's object, of the first one that no text writes
  pub first_private : ℕ
  -- the first number of the variables of the home that no code makes
  pub first_with : ℕ

-- the same declarations in the block of a routine of the unit, by its levels
abbrev pub in_routine : List Level → Declarations → Declarations
in_routine levels declared = record declared { levels = levels }

abbrev pub variables_at : Option Level → List UnitVariable
variables_at None = []
variables_at (Some level) = level.variables

-- the variables of the routine so many levels up
abbrev pub variables_up : Declarations → ℕ → List UnitVariable
variables_up declared up = variables_at (slice_get declared.levels up)

-- the variable is one of the routine, or else of the unit, in whose block it is named, and no code makes it
abbrev pub IsUnmade : Declarations → Entire → Type 0
IsUnmade declared (OfUnit unit number) =
    (declared.levels ≡ []) × (unit ≡ declared.home) × (declared.first_with ≤ number)
IsUnmade declared (OfRoutine zero number) =
    (level : Level) × (slice_get declared.levels 0 ≡ Some level) × (level.first_with ≤ number)
IsUnmade declared (OfRoutine (suc up) number) = ⊥

-- A routine is declared so: 0 says that it is one of the unit, and other numbers that the routine in which it is
-- declared
-- is the one so many levels less one up from the one in which code stands.
abbrev pub IsDeclaredUp : Declarations → Callee → ℕ → Type 0
IsDeclaredUp declared callee zero = declared.around callee.unit callee.number ≡ []
IsDeclaredUp declared callee (suc up) =
    (callee.unit ≡ declared.home) × (up < length declared.levels)
    × (declared.around callee.unit callee.number ≡ drop up declared.levels)

-- the routine has this heading, and is declared as many levels up as the call says
pub record IsCallee (declared : Declarations) (callee : Callee) (r : RoutineEntry) : Type 0 where
  pub there : slice_get (declared.routines callee.unit) callee.number ≡ Some r
  pub declared_up : IsDeclaredUp declared callee callee.levels

-- the kinds of an operation's operand and result; a value of which the number is taken is of a host whose numbers are
-- integers
abbrev pub IsUnary : Unary → ValueKind → ValueKind → Type 0
IsUnary unary.Same operand result =
    ((h : Host) × (operand ≡ Ordinal h) × IsTrue (int_le (greatest h) (greatest host.Integer)))
    × (result ≡ Ordinal host.Integer)
IsUnary unary.Negate operand result = (operand ≡ Ordinal host.Integer) × (result ≡ Ordinal host.Integer)
IsUnary unary.Not operand result = (operand ≡ Ordinal host.Boolean) × (result ≡ Ordinal host.Boolean)
IsUnary unary.Absolute operand result = (operand ≡ Ordinal host.Integer) × (result ≡ Ordinal host.Integer)
IsUnary unary.Square operand result = (operand ≡ Ordinal host.Integer) × (result ≡ Ordinal host.Integer)
IsUnary unary.Odd operand result = (operand ≡ Ordinal host.Integer) × (result ≡ Ordinal host.Boolean)
IsUnary unary.Character operand result = (operand ≡ Ordinal host.Integer) × (result ≡ Ordinal host.Char)

-- arithmetic takes and gives integers
abbrev pub IsArithmetic : ValueKind → ValueKind → ValueKind → Type 0
IsArithmetic left right result =
    (left ≡ Ordinal host.Integer) × (right ≡ Ordinal host.Integer) × (result ≡ Ordinal host.Integer)

-- logic takes and gives Booleans
abbrev pub IsLogical : ValueKind → ValueKind → ValueKind → Type 0
IsLogical left right result =
    (left ≡ Ordinal host.Boolean) × (right ≡ Ordinal host.Boolean) × (result ≡ Ordinal host.Boolean)

-- a comparison takes two values of one host
abbrev pub IsComparison : ValueKind → ValueKind → ValueKind → Type 0
IsComparison left right result =
    ((h : Host) × (left ≡ Ordinal h) × (right ≡ Ordinal h)) × (result ≡ Ordinal host.Boolean)

abbrev pub IsBinary : Binary → ValueKind → ValueKind → ValueKind → Type 0
IsBinary binary.Add = IsArithmetic
IsBinary binary.Subtract = IsArithmetic
IsBinary binary.Multiply = IsArithmetic
IsBinary binary.Divide = IsArithmetic
IsBinary binary.Modulo = IsArithmetic
IsBinary binary.And = IsLogical
IsBinary binary.Or = IsLogical
IsBinary binary.Equal = IsComparison
IsBinary binary.Unequal = IsComparison
IsBinary binary.Less = IsComparison
IsBinary binary.Greater = IsComparison
IsBinary binary.AtMost = IsComparison
IsBinary binary.AtLeast = IsComparison

-- an operation makes a set of two over one host
abbrev pub IsCombination : ValueKind → ValueKind → ValueKind → Type 0
IsCombination left right result = (h : Host) × (left ≡ Set h) × (right ≡ Set h) × (result ≡ Set h)

-- a comparison of sets takes two over one host
abbrev pub IsSetComparison : ValueKind → ValueKind → ValueKind → Type 0
IsSetComparison left right result = ((h : Host) × (left ≡ Set h) × (right ≡ Set h)) × (result ≡ Ordinal host.Boolean)

-- a value is looked for in a set over its host
abbrev pub IsMembership : ValueKind → ValueKind → ValueKind → Type 0
IsMembership left right result = ((h : Host) × (left ≡ Ordinal h) × (right ≡ Set h)) × (result ≡ Ordinal host.Boolean)

abbrev pub IsOnSets : SetOperation → ValueKind → ValueKind → ValueKind → Type 0
IsOnSets set_operation.Union = IsCombination
IsOnSets set_operation.Difference = IsCombination
IsOnSets set_operation.Intersection = IsCombination
IsOnSets set_operation.SymmetricDifference = IsCombination
IsOnSets set_operation.Equal = IsSetComparison
IsOnSets set_operation.Unequal = IsSetComparison
IsOnSets set_operation.Subset = IsSetComparison
IsOnSets set_operation.Superset = IsSetComparison
IsOnSets set_operation.In = IsMembership

-- the kind of what is printed so
abbrev pub printed_kind : Print → ValueKind
printed_kind print.Integer = Ordinal host.Integer
printed_kind print.Char = Ordinal host.Char
printed_kind print.Boolean = Ordinal host.Boolean
printed_kind print.Text = Bytes

-- the heading of a procedure
abbrev pub IsProcedure : RoutineEntry → Type 0
IsProcedure r = r.result ≡ None

-- the heading of a function whose result is of this kind, in a unit with these types
pub record IsFunction (types : List UnitType) (kind : ValueKind) (r : RoutineEntry) : Type 0 where
  pub result : RoutineResult
  pub has_result : r.result ≡ Some result
  pub has_kind : IsOfKind kind types (denoter_of result.denoter)

-- the ranges of all arms
abbrev pub ranges_of : Arms → List CaseRange
ranges_of no_arm = []
ranges_of (next_arm ranges s arms) = ranges ++ ranges_of arms

-- no value is in two ranges
abbrev pub AreApart : List CaseRange → Type 0
AreApart [] = ⊤
AreApart (r ∷ rs) = All (λ s. IsTrue (is_apart r s)) rs × AreApart rs

-- the ranges of all variants
abbrev pub labels_joined : List (List CaseRange) → List CaseRange
labels_joined [] = []
labels_joined (ranges ∷ more) = ranges ++ labels_joined more

-- an arm, a variant or one value of an array has at least one range
abbrev pub HasRange : List CaseRange → Type 0
HasRange [] = ⊥
HasRange (r ∷ rs) = ⊤

-- The denoter has the type value, which has no initial states, and breaks no rule: the bounds of a subrange are in
-- order and of its
-- host, and an enumeration has no more constants than there are integers; the values of a set's base type may be
-- members; an
-- initial state is one for the type.
mutual
  pub data IsTyped (types : List UnitType) : Denoter → TypeValue → Type 0 where
    required : (r : RequiredType) → IsTyped types (Required r) (required_type r)
    named : (index : ℕ) (t : UnitType) {v : TypeValue} → slice_get types index ≡ Some t
        → IsTyped types (definition_of t) v → IsTyped types (Named index []) v
    subrange : (of : Denoter) (low high : ℤ) (h : Host) → host_of types of ≡ Some h
        → IsTypeOf h (type.Ordinal low high)
        → IsTyped types (Subrange of (Fixed low) (Fixed high)) (type.Ordinal low high)
    enumeration : (first : List ℕ) (others : List (List ℕ)) → IsTrue (is_integer (pos (length others)))
        → IsTyped types (Enumeration (first ∷ others)) (type.Ordinal (pos 0) (pos (length others)))
    array : (index component : Denoter) (i : TypeValue) (low high : ℤ) (of : TypeValue) → IsTyped types index i
        → bare_of i ≡ type.Ordinal low high
        → IsTyped types component of → IsTyped types (Array index component) (type.Array low high of)
    components : (ds : Denoters) (ts : ComponentTypes) → AreTyped types ds ts
        → IsTyped types (Record ds) (type.Record ts)
    set : (base : Denoter) (b : TypeValue) (low high : ℤ) → IsTyped types base b → bare_of b ≡ type.Ordinal low high
        → IsTrue (is_ordinal low) → IsTrue (is_ordinal high)
        → IsTyped types (tree.Set base) (type.Set low high)
    initial : (of : Denoter) (x : Expr) (t : TypeValue) → IsTyped types of t → IsStartFor types t x
        → IsTyped types (Initial of x) t

  -- one for one
  pub data AreTyped (types : List UnitType) : Denoters → ComponentTypes → Type 0 where
    none_typed : AreTyped types no_denoter type.no_component
    next_typed : (d : Denoter) (ds : Denoters) (t : TypeValue) (ts : ComponentTypes) → IsTyped types d t
        → AreTyped types ds ts
        → AreTyped types (next_denoter d ds) (type.next_component t ts)

  -- The constant may be the initial state of a type, whose values it may still lie outside of (ISO 10206, 6.6): a
  -- value of the host
  -- of an ordinal type, a set over that of a set type, or an array or a record of that type of the list, whose
  -- components are given
  -- such constants.
  pub data IsStartFor (types : List UnitType) : TypeValue → Expr → Type 0 where
    word_start : (low high : ℤ) (h : Host) (w : ℤ) → IsTypeOf h (type.Ordinal low high) → IsTrue (is_of_host h w)
        → IsStartFor types (type.Ordinal low high) (Constant w)
    set_start : (low high : ℤ) (h : Host) (ms : List ℕ) → IsBaseOf h low high → IsSet ms
        → IsTrue (are_between (least h) (greatest h) ms)
        → IsStartFor types (type.Set low high) (SetConstant ms)
    structured_start : (of : ℕ) (t : TypeValue) (es : Elements) → type_of types (Named of []) ≡ Some t
        → IsTyped types (Named of []) t → IsStructured t → AreStartsFor types t es
        → IsStartFor types t (tree.Structured of es)

  -- what components are given
  pub data AreStartsFor (types : List UnitType) : TypeValue → Elements → Type 0 where
    none_given : (t : TypeValue) → AreStartsFor types t no_element
    ranges_given : (low high : ℤ) (h : Host) (of : TypeValue) (ranges : List CaseRange) (x : Expr) (more : Elements)
        → IsTypeOf h (type.Ordinal low high)
        → HasRange ranges → All (IsRangeWithin low high) ranges → IsStartFor types of x
        → AreStartsFor types (type.Array low high of) more
        → AreStartsFor types (type.Array low high of) (next_element (AtRanges ranges x) more)
    field_given : (ts : ComponentTypes) (steps : List ℕ) (of : TypeValue) (x : Expr) (more : Elements)
        → LeadTo ts steps of
        → IsStartFor types of x → AreStartsFor types (type.Record ts) more
        → AreStartsFor types (type.Record ts) (next_element (AtField steps x) more)
    same_given : (ts : ComponentTypes) (from to : List ℕ) (k : ValueKind) (more : Elements) → LeadToKind ts from k
        → LeadToKind ts to k
        → AreStartsFor types (type.Record ts) more
        → AreStartsFor types (type.Record ts) (next_element (SameField from to) more)

-- under a list of types a valid denoter has a type value
pub record IsDenoter (types : List UnitType) (d : Denoter) : Type 0 where
  pub type_value : TypeValue
  pub has_type : type_of types d ≡ Some type_value
  pub typed : IsTyped types d type_value

-- the type value of the record of a tag with these bounds
abbrev pub tag_type : ℤ → ℤ → TypeValue
tag_type low high = type.Record (type.next_component (type.Ordinal low high) type.no_component)

module _ (declared : Declarations) where
  -- the first value of a range is not above the last one, and both are of the host
  abbrev pub IsRange : Host → CaseRange → Type 0
  IsRange h r = IsTrue (int_le r.low r.high) × IsTrue (is_of_host h r.low) × IsTrue (is_of_host h r.high)

  -- Under a list of types the components of a record end with the record of a tag and with variants that it selects
  -- so: the
  -- tag is of an ordinal type, and the labels are values of its host, of which none is in two ranges (ISO 10206,
  -- 6.4.3.4).
  pub record IsSelection (types : List UnitType) (ds : Denoters) (s : Selection) : Type 0 where
    pub tag : Denoter
    pub host : Host
    pub has_tag : denoter_at ds s.tag ≡ Some (Record (next_denoter tag no_denoter))
    pub has_host : host_of types tag ≡ Some host
    pub all : denoters_count ds ≡ suc s.tag + variants_count s
    pub each : All HasRange s.labels
    pub labels : All (IsRange host) (labels_joined s.labels)
    pub apart : AreApart (labels_joined s.labels)

  abbrev mutual
    -- The place of a variable that is declared or of one of a routine, or of a component, of whose denoter, in the
    -- list of
    -- types in which it names, this holds; a standard file has no denoter.
    pub IsPlaceWhere : (List UnitType → Denoter → Type 0) → Place → Type 0
    IsPlaceWhere Holds (Variable unit number) =
        (v : UnitVariable) × (declared.variables unit number ≡ Some v)
        × Holds declared.types (denoter_of v.denoter)
    IsPlaceWhere Holds (Own up number) =
        (v : UnitVariable) × (slice_get (variables_up declared up) number ≡ Some v)
        × Holds declared.types (denoter_of v.denoter)
    IsPlaceWhere Holds (Standard file) = ⊥
    IsPlaceWhere Holds (Indexed p x) =
        IsPlaceWhere
        (λ types d. (a : ArrayParts) × (array_of types d ≡ Some a) × Holds types a.component
        × ((h : Host) × (host_of types a.index ≡ Some h) × IsExpr (Ordinal h) x))
        p
    IsPlaceWhere Holds (Field p number) =
        IsPlaceWhere
        (λ types d. (ds : Denoters) × (record_of types d ≡ Some ds) × (c : Denoter)
        × (denoter_at ds number ≡ Some c) × Holds types c)
        p
    IsPlaceWhere Holds (Variant p selection number) =
        IsPlaceWhere
        (λ types d. (ds : Denoters) × (record_of types d ≡ Some ds) × IsSelection types ds selection
        × (c : Denoter) × (denoter_at ds (variant_number selection number) ≡ Some c) × Holds types c)
        p

    -- an expression of this kind
    pub IsExpr : ValueKind → Expr → Type 0
    IsExpr kind (Constant z) = (h : Host) × (kind ≡ Ordinal h) × IsTrue (is_of_host h z)
    IsExpr kind (Text bytes) = kind ≡ Bytes
    IsExpr kind (Read p) = IsPlaceWhere (IsOfKind kind) p
    IsExpr kind (One operation x) = (k : ValueKind) × IsUnary operation k kind × IsExpr k x
    IsExpr kind (Two operation x y) = (k l : ValueKind) × IsBinary operation k l kind × IsExpr k x × IsExpr l y
    IsExpr kind (Short operation x y) =
        (kind ≡ Ordinal host.Boolean) × IsExpr (Ordinal host.Boolean) x × IsExpr (Ordinal host.Boolean) y
    IsExpr kind (Step down low high x y) =
        (h : Host) × (kind ≡ Ordinal h) × (low ≡ least h) × (high ≡ greatest h) × IsExpr (Ordinal h) x
        × IsExpr (Ordinal host.Integer) y
    IsExpr kind (Function callee given) =
        (r : RoutineEntry) × IsCallee declared callee r × IsFunction declared.types kind r
        × AreGiven declared.types r.formals given
    IsExpr kind (IndexedValue x y) =
        (low high : ℤ) × (of : TypeValue) × IsExpr (Structured (type.Array low high of)) x × IsTypeOfKind kind of
        × ((h : Host) × IsTypeOf h (type.Ordinal low high) × IsExpr (Ordinal h) y)
    IsExpr kind (SetConstant ms) =
        (h : Host) × (kind ≡ Set h) × IsSet ms × IsTrue (are_between (least h) (greatest h) ms)
    IsExpr kind (SetOf ds) = (h : Host) × (kind ≡ Set h) × AreDesignators h ds
    IsExpr kind (OnSets operation x y) = (k l : ValueKind) × IsOnSets operation k l kind × IsExpr k x × IsExpr l y
    IsExpr kind (Card x) = (h : Host) × (kind ≡ Ordinal host.Integer) × IsExpr (Set h) x
    -- a structured value of an array or record type of the unit in whose code it stands
    IsExpr kind (tree.Structured of es) =
        (d : IsDenoter declared.types (Named of [])) × (kind ≡ Structured (bare_of d.type_value))
        × IsStructured (bare_of d.type_value) × AreElements (bare_of d.type_value) es
    -- the record has the tag where the variants are selected by it, of an ordinal type
    IsExpr kind (VariantValue x selection number) =
        (ts inner : ComponentTypes) × (low high : ℤ) × IsExpr (Structured (type.Record ts)) x
        × (type_among ts selection.tag ≡ Some (tag_type low high))
        × (type_among ts (variant_number selection number) ≡ Some (type.Record inner))
        × (kind ≡ Structured (type.Record inner))
        × ((h : Host) × IsTypeOf h (type.Ordinal low high))
    IsExpr kind (FieldValue x number) =
        (ts : ComponentTypes) × (of : TypeValue) × IsExpr (Structured (type.Record ts)) x
        × (type_among ts number ≡ Some of) × IsTypeOfKind kind of

    -- what a component of the type is given is of a kind that it may have
    pub IsElement : TypeValue → Element → Type 0
    IsElement (type.Array low high of) (AtIndex x y) =
        ((h : Host) × IsTypeOf h (type.Ordinal low high) × IsExpr (Ordinal h) x)
        × ((k : ValueKind) × IsTypeOfKind k of × IsExpr k y)
    IsElement (type.Record ts) (AtField steps x) = (k : ValueKind) × LeadToKind ts steps k × IsExpr k x
    IsElement (type.Record ts) (SameField from to) = (k : ValueKind) × LeadToKind ts from k × LeadToKind ts to k
    IsElement (type.Array low high of) (AtRanges ranges x) =
        ((h : Host) × IsTypeOf h (type.Ordinal low high)) × HasRange ranges × All (IsRangeWithin low high) ranges
        × ((k : ValueKind) × IsTypeOfKind k of × IsExpr k x)
    IsElement (type.Array low high of) (AtIndexes ds x) =
        ((h : Host) × IsTypeOf h (type.Ordinal low high) × AreDesignators h ds)
        × ((k : ValueKind) × IsTypeOfKind k of × IsExpr k x)
    IsElement t e = ⊥

    pub AreElements : TypeValue → Elements → Type 0
    AreElements t no_element = ⊤
    AreElements t (next_element e more) = IsElement t e × AreElements t more

    -- what a designator gives is of the host
    pub IsDesignator : Host → Designator → Type 0
    IsDesignator h (Single x) = IsExpr (Ordinal h) x
    IsDesignator h (Range x y) = IsExpr (Ordinal h) x × IsExpr (Ordinal h) y

    pub AreDesignators : Host → Designators → Type 0
    AreDesignators h no_member = ⊤
    AreDesignators h (next_member d more) = IsDesignator h d × AreDesignators h more

    -- What may be given for a formal parameter of a unit with these types: for a value parameter an expression of its
    -- kind,
    -- and for a variable parameter a variable of its type.
    pub IsGiven : List UnitType → FormalMode → Formal → Actual → Type 0
    IsGiven types mode.Value f (Evaluated x) = (k : ValueKind) × IsOfKind k types (denoter_of f.denoter) × IsExpr k x
    IsGiven types mode.ProtectedValue f (Evaluated x) =
        (k : ValueKind) × IsOfKind k types (denoter_of f.denoter) × IsExpr k x
    IsGiven types mode.Variable f (Accessed p) =
        (t : TypeValue) × (bare_type_of types (denoter_of f.denoter) ≡ Some t)
        × IsPlaceWhere (λ list d. bare_type_of list d ≡ Some t) p
    IsGiven types mode.ProtectedVariable f (Accessed p) =
        (t : TypeValue) × (bare_type_of types (denoter_of f.denoter) ≡ Some t)
        × IsPlaceWhere (λ list d. bare_type_of list d ≡ Some t) p
    IsGiven types mode f a = ⊥

    -- one for each, in order
    pub AreGiven : List UnitType → List Formal → Actuals → Type 0
    AreGiven types [] no_actual = ⊤
    AreGiven types [] (next_actual a more) = ⊥
    AreGiven types (f ∷ fs) no_actual = ⊥
    AreGiven types (f ∷ fs) (next_actual a more) = IsGiven types f.mode f a × AreGiven types fs more

  -- the place of a variable whose type has this host
  abbrev pub IsPlace : Host → Place → Type 0
  IsPlace h = IsPlaceWhere (λ types d. host_of types d ≡ Some h)

  -- the place of a variable of this type value (ISO 10206, 6.7.3.3), whatever it begins with
  abbrev pub IsVariableOf : TypeValue → Place → Type 0
  IsVariableOf t = IsPlaceWhere (λ types d. bare_type_of types d ≡ Some t)

  abbrev pub IsItem : Item → Type 0
  IsItem (Plain print x) = IsExpr (printed_kind print) x
  IsItem (Wide print x w) = IsExpr (printed_kind print) x × IsExpr (Ordinal host.Integer) w

  abbrev pub AreItems : List Item → Type 0
  AreItems [] = ⊤
  AreItems (i ∷ is) = IsItem i × AreItems is

  -- `write` has at least one parameter, and `writeln` needs none (ISO 10206, 6.10.3)
  abbrev pub WritesSomething : List Item → Bool → Type 0
  WritesSomething [] false = ⊥
  WritesSomething [] true = ⊤
  WritesSomething (i ∷ is) ends_line = ⊤

  -- The control variable has this host, whose least and greatest values those are, and the auxiliary variables are
  -- integers.
  pub record IsControl (h : Host) (c : Control) : Type 0 where
    pub variable : IsPlace h (entire c.variable)
    pub initial : IsPlace host.Integer (entire c.initial)
    pub last : IsPlace host.Integer (entire c.last)
    pub low : c.low ≡ least h
    pub high : c.high ≡ greatest h

  -- The denoter is that of a record with variants that are selected so, by a tag of this host and with these bounds.
  abbrev pub IsTagged : Host → ℤ → ℤ → Selection → List UnitType → Denoter → Type 0
  IsTagged h low high s types d =
      (ds : Denoters) × (record_of types d ≡ Some ds)
      × ((selection : IsSelection types ds s) × (selection.host ≡ h)
      × (bare_type_of types selection.tag ≡ Some (type.Ordinal low high)))

  -- The auxiliary variable of an assignment to a tag is an integer, and the tag of the record is of this host and has
  -- those
  -- bounds.
  pub record IsTagging (h : Host) (c : Tagging) (p : Place) (s : Selection) : Type 0 where
    pub value : IsPlace host.Integer (entire c.value)
    pub record_is : IsPlaceWhere (IsTagged h c.low c.high s) p

  -- The control variable has this host, whose numbers are integers, and the auxiliary variable is of a set type over
  -- integers.
  pub record IsMemberControl (h : Host) (c : MemberControl) : Type 0 where
    pub variable : IsPlace h (entire c.variable)
    pub rest : IsPlaceWhere (IsOfKind (Set host.Integer)) (entire c.rest)
    pub numbered : IsTrue (int_le (greatest h) (greatest host.Integer))

  -- The variable that stands for the place is one that no code makes, of the record type of this number, which the
  -- place
  -- has too (ISO 10206, 6.9.3.10).
  pub record IsWith (v : Entire) (of : ℕ) (p : Place) : Type 0 where
    pub components : ComponentTypes
    pub unmade : IsUnmade declared v
    pub variable : IsPlaceWhere
        (λ types d. (d ≡ Named of []) × (bare_type_of types d ≡ Some (type.Record components))) (entire v)
    pub place : IsVariableOf (type.Record components) p

  abbrev mutual
    pub IsStmt : Stmt → Type 0
    IsStmt Empty = ⊤
    IsStmt (Compound ss) = AreStmts ss
    IsStmt (Assign line p x) = (k : ValueKind) × IsPlaceWhere (IsOfKind k) p × IsExpr k x
    IsStmt (AssignTag line c p s x) = (h : Host) × IsTagging h c p s × IsExpr (Ordinal h) x
    IsStmt (If line x a b) = IsExpr (Ordinal host.Boolean) x × IsStmt a × IsStmt b
    IsStmt (While line x s) = IsExpr (Ordinal host.Boolean) x × IsStmt s
    IsStmt (Repeat line ss x) = AreStmts ss × IsExpr (Ordinal host.Boolean) x
    IsStmt (For line c x y s) = ((h : Host) × IsControl h c × IsExpr (Ordinal h) x × IsExpr (Ordinal h) y) × IsStmt s
    IsStmt (ForIn line c x s) = ((h : Host) × IsMemberControl h c × IsExpr (Set h) x) × IsStmt s
    IsStmt (With line v of p s) = IsWith v of p × IsStmt s
    IsStmt (Procedure line callee given) =
        (r : RoutineEntry) × IsCallee declared callee r × IsProcedure r
        × AreGiven declared.types r.formals given
    IsStmt (Case line x arms o) =
        ((h : Host) × IsExpr (Ordinal h) x × AreArms h arms) × IsOther o × AreApart (ranges_of arms)
    IsStmt (Halt line) = ⊤
    IsStmt (Write line items ends_line) = AreItems items × WritesSomething items ends_line

    pub AreStmts : Stmts → Type 0
    AreStmts none = ⊤
    AreStmts (next s ss) = IsStmt s × AreStmts ss

    -- the selector has this host
    pub AreArms : Host → Arms → Type 0
    AreArms h no_arm = ⊤
    AreArms h (next_arm ranges s arms) = HasRange ranges × All (IsRange h) ranges × IsStmt s × AreArms h arms

    pub IsOther : Other → Type 0
    IsOther no_other = ⊤
    IsOther (otherwise_do ss) = AreStmts ss

abbrev mutual
  -- no type that a type value is made of is empty, and bounds are integers
  pub IsTypeValue : TypeValue → Type 0
  IsTypeValue (type.Ordinal low high) = IsTrue (int_le low high) × IsTrue (is_integer low) × IsTrue (is_integer high)
  IsTypeValue type.Text = ⊥
  IsTypeValue (type.Array low high of) =
      (IsTrue (int_le low high) × IsTrue (is_integer low) × IsTrue (is_integer high)) × IsTypeValue of
  IsTypeValue (type.Record ts) = AreTypeValues ts
  IsTypeValue (type.Set low high) =
      (IsTrue (int_le low high) × IsTrue (is_integer low) × IsTrue (is_integer high)) × IsTrue (is_ordinal low)
      × IsTrue (is_ordinal high)
  IsTypeValue (type.Initial of start) = IsTypeValue of

  pub AreTypeValues : ComponentTypes → Type 0
  AreTypeValues type.no_component = ⊤
  AreTypeValues (type.next_component t ts) = IsTypeValue t × AreTypeValues ts

-- under a list of types the denoter is that of an ordinal type
pub record IsOrdinal (types : List UnitType) (d : Denoter) : Type 0 where
  pub host : Host
  pub has_host : host_of types d ≡ Some host
  pub denoter : IsDenoter types d

-- under a list of types the denoter is of a kind that values have
pub record HasKind (types : List UnitType) (d : Denoter) : Type 0 where
  pub kind : ValueKind
  pub of_kind : IsOfKind kind types d
  pub denoter : IsDenoter types d

-- a number or a set lies in the type (ISO 10206, 6.4.6); what an array or a record is given lies in its own components
abbrev pub IsPlainIn : TypeValue → Expr → Type 0
IsPlainIn t (Constant z) = IsTrue (is_within t z)
IsPlainIn t (SetConstant ms) = IsTrue (has_base_for (Some t) ms)
IsPlainIn t _ = ⊤

-- the component of a record to which the steps lead is given this
abbrev pub Gives : Elements → List ℕ → Expr → Type 0
Gives no_element steps x = ⊥
Gives (next_element (AtField own y) more) steps x = ((own ≡ steps) × (y ≡ x)) ⊎ Gives more steps x
Gives (next_element e more) steps x = Gives more steps x

abbrev mutual
  -- a constant lies in a type, and so does what components are given, each in its own (ISO 10206, 6.4.6 and 6.8.7)
  pub LiesIn : TypeValue → Expr → Type 0
  LiesIn t (tree.Structured of es) = AllLieIn t es es
  LiesIn t x = IsPlainIn t x

  -- what one component is given, of an array or a record with all these
  pub ElementLiesIn : TypeValue → Elements → Element → Type 0
  ElementLiesIn (type.Array low high of) all (AtRanges ranges x) = LiesIn of x
  ElementLiesIn (type.Record ts) all (AtField steps x) = (of : TypeValue) × LeadTo ts steps of × LiesIn of x
  ElementLiesIn (type.Record ts) all (SameField from to) =
      (of : TypeValue) × LeadTo ts to of × ((x : Expr) × Gives all from x × IsPlainIn of x)
  ElementLiesIn t all e = ⊥

  pub AllLieIn : TypeValue → Elements → Elements → Type 0
  AllLieIn t all no_element = ⊤
  AllLieIn t all (next_element e more) = ElementLiesIn t all e × AllLieIn t all more

-- Under a list of types the value is one of the type. A text is of none so far.
abbrev pub IsValue : List UnitType → TypeValue → Value → Type 0
IsValue types t (value.Word w) = IsTrue (is_within t w)
IsValue types t (value.Text bytes) = ⊥
IsValue types t (value.Set ms) = IsSet ms × IsTrue (has_base_for (Some t) ms)
IsValue types t (value.Structured of es) =
    IsStartFor types t (constant_expr (value.Structured of es)) × LiesIn t (constant_expr (value.Structured of es))

-- a type that is no schema, of a valid denoter
pub record IsType (types : List UnitType) (t : UnitType) : Type 0 where
  pub formals : t.entry.formals ≡ []
  pub denoter : IsDenoter types (definition_of t)

-- a constant that is a value of its type
pub record IsConstant (types : List UnitType) (c : ConstantEntry) : Type 0 where
  pub kind : HasKind types (denoter_of c.denoter)
  pub value : IsValue types kind.denoter.type_value c.value

-- a variable of a valid denoter without discriminants
pub record IsVariable (types : List UnitType) (v : UnitVariable) : Type 0 where
  pub denoter : IsDenoter types (denoter_of v.denoter)
  pub tuple : v.tuple ≡ []
