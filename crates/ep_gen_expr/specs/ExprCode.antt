-- Which instructions are the code of an expression or a place, under given tables of texts and references. Jumps name
-- places of the object, so the code of an expression depends on where it begins, and so does that of a place, since an
-- index
-- is an expression.
use Rattle.std.specs.Prelude.{◌≡◌, ℕ, ℤ, pos, zero, suc, ◌+◌, ◌*◌, Bool, true, false, ◌&&◌, if◌then◌else◌, List, []}
use Rattle.std.specs.Prelude.{◌∷◌, ◌++◌, length, Some, slice_get}
pub use Rattle.ep_object.specs.Table.{instr}
use Rattle.ep_object.specs.declared.code.Instr.{Instr}
use Rattle.ep_object.specs.declared.code.Reference.{Reference}
use Rattle.ep_typed.specs.Nodes.{designators_count}
use Rattle.ep_values.specs.Operations.{last_char}
use Rattle.ep_meaning.specs.Steps.{is_number}
use Rattle.ep_typed.specs.Selections.{variant_number}
use Rattle.ep_typed.specs.Trees.{Place, Variable, Own, Standard, Indexed, Field, Variant, Expr, Constant, Text, Read}
use Rattle.ep_typed.specs.Trees.{One, Two, Short, Step, Function, IndexedValue, FieldValue, VariantValue, SetConstant}
use Rattle.ep_typed.specs.Trees.{SetOf, OnSets, Card, Structured, Element, AtIndex, AtField, SameField, AtRanges}
use Rattle.ep_typed.specs.Trees.{AtIndexes, Elements, no_element, next_element, Designator, Single, Range, Designators}
use Rattle.ep_typed.specs.Trees.{no_member, next_member, Actual, Evaluated, Accessed, Actuals, no_actual, next_actual}
use Rattle.ep_values.specs.declared.operations.Unary.{Unary}
use Rattle.ep_values.specs.declared.operations.Unary.TheVariants as unary
use Rattle.ep_values.specs.declared.operations.Binary.{Binary}
use Rattle.ep_values.specs.declared.operations.Binary.TheVariants as binary
use Rattle.ep_values.specs.declared.operations.SetOperation.{SetOperation}
use Rattle.ep_values.specs.declared.operations.SetOperation.TheVariants as set
use Rattle.ep_values.specs.declared.operations.ShortOperation.{ShortOperation}
use Rattle.ep_values.specs.declared.operations.ShortOperation.TheVariants as short
use Rattle.ep_gen_code.specs.Instructions.{◌▸◌, bare, instr, members_code, push, reference}
use Rattle.ep_gen_code.specs.Referring.{type_reference}
use Rattle.ep_gen_code.specs.declared.references.TheConstants as routine
use Rattle.ep_object.specs.declared.op.TheConstants as op
use Rattle.ep_gen_expr.specs.declared.operations.TheConstants as cmp
use Rattle.ep_gen_expr.specs.declared.standard.TheConstants as constant
use Rattle.ep_typed.specs.declared.tree.CaseRange.{CaseRange}
use Rattle.ep_typed.specs.declared.tree.Selection.{Selection}
use Rattle.ep_typed.specs.declared.tree.StandardFile.{StandardFile}
use Rattle.ep_typed.specs.declared.tree.StandardFile.TheVariants as file
use Rattle.ep_values.specs.declared.run_error.TheConstants as run_error

module _ (line : ℕ) where
  -- `Cmp`, which compares so
  abbrev pub compare : ℤ → Instr
  compare how = instr op.CMP how 0 line

  -- after the operand: `Dup` and `Drop`, which leave it and spend ticks for the step, `Neg`, `Not`, `Abs`, `Sqr`,
  -- `Odd`, or `Check` of a char
  abbrev pub one_code : Unary → List Instr
  one_code unary.Same = bare line op.DUP ∷ bare line op.DROP ∷ []
  one_code unary.Negate = bare line op.NEG ∷ []
  one_code unary.Not = bare line op.NOT ∷ []
  one_code unary.Absolute = bare line op.ABS ∷ []
  one_code unary.Square = bare line op.SQR ∷ []
  one_code unary.Odd = bare line op.ODD ∷ []
  one_code unary.Character =
      push line (pos 0) ∷ push line (pos last_char) ∷ instr op.CHECK (pos run_error.SUCCESSOR) 0 line ∷ []

  -- after both operands: `Add`, `Sub`, `Mul`, `Div`, `Mod`, `And`, `Or`, or `Cmp`
  abbrev pub two_code : Binary → Instr
  two_code binary.Add = bare line op.ADD
  two_code binary.Subtract = bare line op.SUB
  two_code binary.Multiply = bare line op.MUL
  two_code binary.Divide = bare line op.DIV
  two_code binary.Modulo = bare line op.MOD
  two_code binary.And = bare line op.AND
  two_code binary.Or = bare line op.OR
  two_code binary.Equal = compare cmp.EQUAL
  two_code binary.Unequal = compare cmp.UNEQUAL
  two_code binary.Less = compare cmp.LESS
  two_code binary.Greater = compare cmp.GREATER
  two_code binary.AtMost = compare cmp.AT_MOST
  two_code binary.AtLeast = compare cmp.AT_LEAST

  -- after both operands, of which the right one at least is a set: `SetOp`, `SetCmp` or `In`
  abbrev pub set_code : SetOperation → Instr
  set_code set.Union = instr op.SET_OP cmp.UNION 0 line
  set_code set.Difference = instr op.SET_OP cmp.DIFFERENCE 0 line
  set_code set.Intersection = instr op.SET_OP cmp.INTERSECTION 0 line
  set_code set.SymmetricDifference = instr op.SET_OP cmp.SYMMETRIC_DIFFERENCE 0 line
  set_code set.Equal = instr op.SET_CMP cmp.EQUAL 0 line
  set_code set.Unequal = instr op.SET_CMP cmp.UNEQUAL 0 line
  set_code set.Subset = instr op.SET_CMP cmp.AT_MOST 0 line
  set_code set.Superset = instr op.SET_CMP cmp.AT_LEAST 0 line
  set_code set.In = bare line op.IN

  -- after a left operand: it stands there twice, and the upper one is true where the operand decides nothing
  abbrev pub keep_code : ShortOperation → List Instr
  keep_code short.AndThen = bare line op.DUP ∷ []
  keep_code short.OrElse = bare line op.DUP ∷ bare line op.NOT ∷ []

  -- `Neg` of a count that is taken away
  abbrev pub count_code : Bool → List Instr
  count_code false = []
  count_code true = bare line op.NEG ∷ []

  -- after the value and the count: the count's sign, the bounds and `Step`
  abbrev pub step_code : Bool → ℤ → ℤ → List Instr
  step_code down low high = count_code down ++ (push line low ∷ push line high ∷ bare line op.STEP ∷ [])

-- the number of a standard file in the unit that has them
abbrev pub standard_number : StandardFile → ℕ
standard_number file.Input = constant.INPUT
standard_number file.Output = constant.OUTPUT

-- the place of a standard file
abbrev pub standard_code : ℕ → StandardFile → Instr
standard_code line file = instr op.UNIT constant.STANDARD_UNIT (standard_number file) line

-- how many labels variants have
abbrev pub labels_count : List (List CaseRange) → ℕ
labels_count [] = 0
labels_count (ranges ∷ more) = length ranges + labels_count more

-- where the error of the tests of all labels stands, which begin at this place
abbrev pub bad_place : ℕ → Selection → ℕ
bad_place at s = at + 6 * labels_count s.labels + 1

module _ (line : ℕ) where
  -- With the value of a selector on top: on to one place where the range has it, and else on behind this code, which
  -- begins at
  -- another place.
  abbrev pub test_code : ℕ → ℕ → CaseRange → List Instr
  test_code body at r =
      bare line op.DUP ∷ push line r.low ∷ push line r.high ∷ bare line op.BETWEEN
      ∷ instr op.JUMP_FALSE (pos (at + 6)) 0 line ∷ instr op.JUMP (pos body) 0 line ∷ []

  -- ranges, one after another
  abbrev pub tests_code : ℕ → ℕ → List CaseRange → List Instr
  tests_code body at [] = []
  tests_code body at (r ∷ rs) = test_code body at r ++ tests_code body (at + 6) rs

  -- With the value of a tag on top: on to one place where a label of the variant with this number has it, and to
  -- another one
  -- where a label of another variant has it. The first of these variants has the number k.
  abbrev pub labels_code : (good bad number k at : ℕ) → List (List CaseRange) → List Instr
  labels_code good bad number k at [] = []
  labels_code good bad number k at (ranges ∷ more) =
      tests_code (if is_number k number then good else bad) at ranges
      ++ labels_code good bad number (suc k) (at + 6 * length ranges) more

  -- With a record on top, from this place on: the place of its tag, or on to another place where that is undefined,
  -- and its value.
  abbrev pub tag_code : (bad tag : ℕ) → List Instr
  tag_code bad tag =
      bare line op.DUP ∷ instr op.FIELD (pos tag) 0 line ∷ instr op.FIELD (pos 0) 0 line ∷ bare line op.DUP
      ∷ bare line op.DEFINED ∷ instr op.JUMP_FALSE (pos bad) 0 line ∷ bare line op.LOAD ∷ []

  -- where no label has the value: on to one place where the completing variant has this number, and else to another
  -- one
  abbrev pub rest_code : (good bad : ℕ) → Selection → (number : ℕ) → Instr
  rest_code good bad s number =
      instr op.JUMP (pos (if s.completed && is_number (length s.labels) number then good else bad)) 0 line

  -- the error that the variant is not active; and, without the value of the tag, the variant
  abbrev pub ends_code : Selection → (number : ℕ) → List Instr
  ends_code s number =
      instr op.FAIL (pos run_error.INACTIVE_VARIANT) 0 line ∷ bare line op.DROP
      ∷ instr op.FIELD (pos (variant_number s number)) 0 line ∷ []

  -- With the value of the tag above a record, from this place on: the tests of all labels, and the variant with this
  -- number.
  abbrev pub selecting_code : ℕ → Selection → ℕ → List Instr
  selecting_code at s number =
      labels_code (bad_place at s + 1) (bad_place at s) number 0 at s.labels
      ++ rest_code (bad_place at s + 1) (bad_place at s) s number ∷ ends_code s number

  -- With the place of a record on top, from this place on: its variant with this number, where that is selected (ISO
  -- 10206,
  -- 6.5.3.3).
  abbrev pub variant_code : ℕ → Selection → ℕ → List Instr
  variant_code at s number = tag_code (bad_place (at + 7) s) s.tag ++ selecting_code (at + 7) s number

  -- With the value of a record on top: the value of its tag, or on to another place where that is undefined.
  abbrev pub tag_part_code : (bad tag : ℕ) → List Instr
  tag_part_code bad tag =
      bare line op.DUP ∷ instr op.FIELD (pos tag) 0 line ∷ bare line op.DUP ∷ bare line op.DEFINED
      ∷ instr op.JUMP_FALSE (pos bad) 0 line ∷ instr op.FIELD (pos 0) 0 line ∷ []

  -- its variant with this number, alike
  abbrev pub variant_part_code : ℕ → Selection → ℕ → List Instr
  variant_part_code at s number = tag_part_code (bad_place (at + 6) s) s.tag ++ selecting_code (at + 6) s number

-- Before the components of a structured value of the type with this number: the type, a variable of it without a name,
-- and its
-- place above its number.
abbrev pub begin_code : ℕ → ℕ → List Instr
begin_code line number =
    instr op.CALL (pos (type_reference number)) 0 line ∷ bare line op.NEW ∷ bare line op.DUP ∷ bare line op.DEREF ∷ []

-- Behind them: its value, the routine that leaves two operands in the other order, and the end of the variable.
abbrev pub end_code : ℕ → List Instr
end_code line = bare line op.LOAD ∷ instr op.CALL (pos routine.SWAP) 0 line ∷ bare line op.DISPOSE ∷ []

-- with a record on top: the component inside of it to which steps lead
abbrev pub steps_code : ℕ → List ℕ → List Instr
steps_code line [] = []
steps_code line (k ∷ ks) = instr op.FIELD (pos k) 0 line ∷ steps_code line ks

-- the same above the record
abbrev pub reach_code : ℕ → List ℕ → List Instr
reach_code line steps = bare line op.DUP ∷ steps_code line steps

-- With a record on top: the component that is given what another one has, the routine that leaves that and the record
-- in the
-- other order, the other component, its value, and `Store`.
abbrev pub same_code : ℕ → List ℕ → List ℕ → List Instr
same_code line from to =
    bare line op.DUP
    ∷ (reach_code line to ++ instr op.CALL (pos routine.SWAP) 0 line
    ∷ (steps_code line from ++ bare line op.LOAD ∷ bare line op.STORE ∷ []))

-- the first index of ranges, of which there is at least one
abbrev pub first_index : List CaseRange → ℤ
first_index [] = pos 0
first_index (r ∷ more) = r.low

-- with an array on top: the component of it with the first index of ranges, above it
abbrev pub first_code : ℕ → List CaseRange → List Instr
first_code line ranges = bare line op.DUP ∷ push line (first_index ranges) ∷ bare line op.INDEX ∷ []

-- With an array on top: what gives the value of the component with an index to those with the indexes of a range.
abbrev pub range_code : ℕ → ℤ → CaseRange → List Instr
range_code line from r =
    bare line op.DUP ∷ push line from ∷ push line r.low ∷ push line r.high ∷ instr op.CALL (pos routine.FILL) 0 line
    ∷ []

-- the same of ranges, in order
abbrev pub ranges_code : ℕ → ℤ → List CaseRange → List Instr
ranges_code line from [] = []
ranges_code line from (r ∷ more) = range_code line from r ++ ranges_code line from more

-- With the place of an array and two indexes on top, both are tested, and stay below the place.
abbrev pub tested_code : ℕ → List Instr
tested_code line =
    instr op.CALL (pos routine.RANGE) 0 line ∷ bare line op.INDEX ∷ bare line op.DROP ∷ bare line op.INDEX
    ∷ bare line op.DROP ∷ []

-- as many `Drop`s
abbrev pub drops_code : ℕ → ℕ → List Instr
drops_code line zero = []
drops_code line (suc n) = drops_code line n ++ bare line op.DROP ∷ []

-- The component with the first index of a range gets the value on top, and then all with its indexes have what that
-- has.
abbrev pub given_code : ℕ → List Instr
given_code line =
    bare line op.INDEX ∷ instr op.CALL (pos routine.SWAP) 0 line ∷ bare line op.STORE
    ∷ instr op.CALL (pos routine.FILL) 0 line ∷ []

-- so many instructions are those below
abbrev pub spread_length : ℕ
spread_length = 15

-- With two indexes, the place of an array and a value on top, the components with the indexes of that range get the
-- value, if there
-- are any; the place and the value stay. The code begins at this place.
abbrev pub spread_code : ℕ → ℕ → List Instr
spread_code line at =
    bare line op.DUP ∷ instr op.CALL (pos routine.SPREAD) 0 line ∷ instr op.JUMP_FALSE (pos (at + 8)) 0 line
    ∷ (given_code line ++ instr op.JUMP (pos (at + spread_length)) 0 line ∷ drops_code line 7)

-- so with as many ranges
abbrev pub spreads_code : ℕ → ℕ → ℕ → List Instr
spreads_code line at zero = []
spreads_code line at (suc n) = spreads_code line at n ++ spread_code line (at + spread_length * n)

module _ (texts : List (List ℕ)) (references : List Reference) (line : ℕ) where
  abbrev mutual
    -- The code of a place that begins at this place of the object, whose instructions have this line. An indexed
    -- variable (ISO
    -- 10206, 6.5.3.2) is the array, the index, and `Index`, and a field designator (6.5.3.3) the record and `Field`.
    pub IsPlaceCode : ℕ → Place → List Instr → Type 0
    IsPlaceCode at (Variable unit number) is =
        (k : ℕ) × (slice_get references k ≡ Some (reference unit number)) × (is ≡ instr op.UNIT (pos k) 0 line ∷ [])
    IsPlaceCode at (Own levels number) is = is ≡ instr op.SLOT (pos number) levels line ∷ []
    IsPlaceCode at (Standard file) is = is ≡ standard_code line file ∷ []
    IsPlaceCode at (Indexed p x) is =
        (xs ys : List Instr) × IsPlaceCode at p xs × IsExprCode (at ▸ xs) x ys
        × (is ≡ xs ++ (ys ++ bare line op.INDEX ∷ []))
    IsPlaceCode at (Field p number) is =
        (xs : List Instr) × IsPlaceCode at p xs × (is ≡ xs ++ instr op.FIELD (pos number) 0 line ∷ [])
    IsPlaceCode at (Variant p selection number) is =
        (xs : List Instr) × IsPlaceCode at p xs × (is ≡ xs ++ variant_code line (at ▸ xs) selection number)

    -- the code of an expression that begins at this place, whose instructions have this line
    pub IsExprCode : ℕ → Expr → List Instr → Type 0
    IsExprCode at (Constant z) is = is ≡ push line z ∷ []
    IsExprCode at (Text bytes) is =
        (k : ℕ) × (slice_get texts k ≡ Some bytes) × (is ≡ instr op.TEXT (pos k) 0 line ∷ [])
    IsExprCode at (Read p) is = (xs : List Instr) × IsPlaceCode at p xs × (is ≡ xs ++ bare line op.LOAD ∷ [])
    IsExprCode at (One operation x) is = (xs : List Instr) × IsExprCode at x xs × (is ≡ xs ++ one_code line operation)
    IsExprCode at (Two operation x y) is =
        (xs ys : List Instr) × IsExprCode at x xs × IsExprCode (at ▸ xs) y ys
        × (is ≡ xs ++ (ys ++ two_code line operation ∷ []))
    IsExprCode at (Short operation x y) is =
        (xs ys : List Instr) × IsExprCode at x xs
        × IsExprCode (at ▸ xs ▸ keep_code line operation + 2) y ys
        × (is ≡ xs ++ (keep_code line operation
        ++ instr op.JUMP_FALSE (pos (at ▸ xs ▸ keep_code line operation + 2 ▸ ys)) 0 line ∷ bare line op.DROP ∷ ys))
    IsExprCode at (Step down low high x n) is =
        (xs ns : List Instr) × IsExprCode at x xs × IsExprCode (at ▸ xs) n ns
        × (is ≡ xs ++ (ns ++ step_code line down low high))
    -- A function designator (ISO 10206, 6.8.5): the actual parameters, the call, and a jump to what comes next, which
    -- has the
    -- tick for the step that is spent when the call is done.
    IsExprCode at (Function callee given) is =
        (xs : List Instr) × (k : ℕ) × AreActualsCode at given xs
        × (slice_get references k ≡ Some (reference callee.unit callee.number))
        × (is ≡ xs ++ instr op.CALL (pos k) callee.levels line ∷ instr op.JUMP (pos (at ▸ xs + 2)) 0 line ∷ [])
    -- A component of what a function gives: the array, the index, and `Index` (ISO 10206, 6.8.6.2), or the record and
    -- `Field`
    -- (6.8.6.3).
    IsExprCode at (IndexedValue x y) is =
        (xs ys : List Instr) × IsExprCode at x xs × IsExprCode (at ▸ xs) y ys
        × (is ≡ xs ++ (ys ++ bare line op.INDEX ∷ []))
    IsExprCode at (FieldValue x number) is =
        (xs : List Instr) × IsExprCode at x xs × (is ≡ xs ++ instr op.FIELD (pos number) 0 line ∷ [])
    IsExprCode at (VariantValue x selection number) is =
        (xs : List Instr) × IsExprCode at x xs × (is ≡ xs ++ variant_part_code line (at ▸ xs) selection number)
    IsExprCode at (SetConstant ms) is = is ≡ bare line op.SET_NONE ∷ members_code line ms
    -- A set constructor (ISO 10206, 6.8.7.4): the empty set, to which each member designator adds what it gives.
    IsExprCode at (SetOf ds) is =
        (xs : List Instr) × AreDesignatorsCode (at + 1) ds xs × (is ≡ bare line op.SET_NONE ∷ xs)
    IsExprCode at (OnSets operation x y) is =
        (xs ys : List Instr) × IsExprCode at x xs × IsExprCode (at ▸ xs) y ys
        × (is ≡ xs ++ (ys ++ set_code line operation ∷ []))
    IsExprCode at (Card x) is = (xs : List Instr) × IsExprCode at x xs × (is ≡ xs ++ bare line op.CARD ∷ [])
    -- a structured value (ISO 10206, 6.8.7.1)
    IsExprCode at (Structured number es) is =
        (xs : List Instr) × AreElementsCode (at + 4) es xs × (is ≡ begin_code line number ++ (xs ++ end_code line))

    -- The code of what a component of the place on top is given: that place again, the index and `Index` (ISO 10206,
    -- 6.8.7.2), or
    -- a `Field` for each step (6.8.7.3), the value, and `Store`.
    pub IsElementCode : ℕ → Element → List Instr → Type 0
    IsElementCode at (AtIndex x y) is =
        (xs ys : List Instr) × IsExprCode (at + 1) x xs × IsExprCode (at + 1 ▸ xs + 1) y ys
        × (is ≡ bare line op.DUP ∷ (xs ++ bare line op.INDEX ∷ (ys ++ bare line op.STORE ∷ [])))
    IsElementCode at (AtField steps x) is =
        (xs : List Instr) × IsExprCode (at ▸ reach_code line steps) x xs
        × (is ≡ reach_code line steps ++ (xs ++ bare line op.STORE ∷ []))
    IsElementCode at (SameField from to) is = is ≡ same_code line from to
    IsElementCode at (AtRanges ranges x) is =
        (xs : List Instr) × IsExprCode (at ▸ first_code line ranges) x xs
        × (is ≡ first_code line ranges
        ++ (xs ++ bare line op.STORE ∷ ranges_code line (first_index ranges) ranges))
    -- the indexes, then the value, which the components are given that they lead to, and which goes then
    IsElementCode at (AtIndexes ds x) is =
        (xs ys : List Instr) × AreIndexesCode at ds xs × IsExprCode (at ▸ xs) x ys
        × (is ≡ xs ++ (ys ++ (spreads_code line (at ▸ xs ▸ ys) (designators_count ds) ++ bare line op.DROP ∷ [])))

    -- the code of the indexes of a range, of which one alone is there twice
    pub IsRangeCode : ℕ → Designator → List Instr → Type 0
    IsRangeCode at (Single x) is =
        (xs : List Instr) × IsExprCode at x xs × (is ≡ xs ++ bare line op.DUP ∷ tested_code line)
    IsRangeCode at (Range x y) is =
        (xs ys : List Instr) × IsExprCode at x xs × IsExprCode (at ▸ xs) y ys
        × (is ≡ xs ++ (ys ++ tested_code line))

    -- of those of ranges, in order
    pub AreIndexesCode : ℕ → Designators → List Instr → Type 0
    AreIndexesCode at no_member is = is ≡ []
    AreIndexesCode at (next_member d more) is =
        (xs ys : List Instr) × IsRangeCode at d xs × AreIndexesCode (at ▸ xs) more ys × (is ≡ xs ++ ys)

    -- in order
    pub AreElementsCode : ℕ → Elements → List Instr → Type 0
    AreElementsCode at no_element is = is ≡ []
    AreElementsCode at (next_element e more) is =
        (xs ys : List Instr) × IsElementCode at e xs × AreElementsCode (at ▸ xs) more ys × (is ≡ xs ++ ys)

    -- the code of a member designator: the value and `SetAdd`, or the first and the last value and `SetSpan`
    pub IsDesignatorCode : ℕ → Designator → List Instr → Type 0
    IsDesignatorCode at (Single x) is = (xs : List Instr) × IsExprCode at x xs × (is ≡ xs ++ bare line op.SET_ADD ∷ [])
    IsDesignatorCode at (Range x y) is =
        (xs ys : List Instr) × IsExprCode at x xs × IsExprCode (at ▸ xs) y ys
        × (is ≡ xs ++ (ys ++ bare line op.SET_SPAN ∷ []))

    -- member designators, from left to right
    pub AreDesignatorsCode : ℕ → Designators → List Instr → Type 0
    AreDesignatorsCode at no_member is = is ≡ []
    AreDesignatorsCode at (next_member d more) is =
        (xs ys : List Instr) × IsDesignatorCode at d xs × AreDesignatorsCode (at ▸ xs) more ys × (is ≡ xs ++ ys)

    -- the code of an actual parameter: that of the value, or of the variable (ISO 10206, 6.7.3)
    pub IsActualCode : ℕ → Actual → List Instr → Type 0
    IsActualCode at (Evaluated x) is = IsExprCode at x is
    IsActualCode at (Accessed p) is = IsPlaceCode at p is

    -- actual parameters, from left to right
    pub AreActualsCode : ℕ → Actuals → List Instr → Type 0
    AreActualsCode at no_actual is = is ≡ []
    AreActualsCode at (next_actual a more) is =
        (xs ys : List Instr) × IsActualCode at a xs × AreActualsCode (at ▸ xs) more ys × (is ≡ xs ++ ys)
