-- How many typed nodes a unit has: its expressions, places, statements, ranges of `case` statements, of variants, of
-- structured values, of places in variants and of assignments to tags, steps to components of structured values,
-- imports, routines, formals, variables, denoters, bounds and values. An expression that is a constant or a text
-- counts one, and its value one more; that of a set one more for each member. So do the values of constants.
use Rattle.std.specs.Prelude.{ℕ, suc, ◌+◌, ◌*◌, List, [], ◌∷◌, length, map, sum, Option, Some, None}
use Rattle.ep_typed.specs.Trees.{Place, Variable, Own, Standard, Indexed, Field, Variant, Expr, Constant, Text, Read}
use Rattle.ep_typed.specs.Trees.{One, Two, Short, Step, Function, IndexedValue, FieldValue, VariantValue, SetOf}
use Rattle.ep_typed.specs.Trees.{OnSets, Card, Designator, Single, Range, Designators, no_member, next_member, Actual}
use Rattle.ep_typed.specs.Trees.{Evaluated, Accessed, Actuals, no_actual, next_actual, Item, Plain, Wide, Stmt, Stmts}
use Rattle.ep_typed.specs.Trees.{Empty, Compound, Assign, AssignTag, If, While, Repeat, For, ForIn, With, Procedure}
use Rattle.ep_typed.specs.Trees.{Case, Halt, Write, none, next, Arm, Arms, no_arm, next_arm, Other, no_other}
use Rattle.ep_typed.specs.Trees.{otherwise_do, entire, SetConstant, Structured, Element, AtIndex, AtField, SameField}
use Rattle.ep_typed.specs.Trees.{AtRanges, AtIndexes, Elements, no_element, next_element, elements, WithRecord}
use Rattle.ep_typed.specs.Selections.{labels_nodes}
use Rattle.ep_typed.specs.Viewed.{element_of, expr_of, stmt_of}
use Rattle.ep_typed.specs.declared.denoter.Denoter.{Denoter}
use Rattle.ep_typed.specs.declared.denoter.Denoter.TheOpen as denoter
use Rattle.ep_typed.specs.declared.denoter.Denoter.TheOpen.{Denoter-F, Selector-F, FieldPart-F, RecordField-F}
use Rattle.ep_typed.specs.declared.denoter.Denoter.TheOpen.{Variant-F, VariantPart-F}
use Rattle.ep_typed.specs.declared.denoter.Denoter.TheFolds.{fold-Denoter}
use Rattle.ep_typed.specs.declared.denoter.FieldPart.{FieldPart, fold-FieldPart}
use Rattle.ep_typed.specs.declared.denoter.RecordField.{RecordField, fold-RecordField}
use Rattle.ep_typed.specs.declared.denoter.Selector.{Selector, fold-Selector}
use Rattle.ep_typed.specs.declared.denoter.Variant.{Variant as WrittenVariant, fold-Variant}
use Rattle.ep_typed.specs.declared.denoter.VariantPart.{VariantPart, fold-VariantPart}
use Rattle.ep_typed.specs.declared.interface.ConstantEntry.{ConstantEntry}
use Rattle.ep_typed.specs.declared.interface.Formal.{Formal}
use Rattle.ep_typed.specs.declared.interface.RoutineResult.{RoutineResult}
use Rattle.ep_typed.specs.declared.interface.SchemaFormal.{SchemaFormal}
use Rattle.ep_typed.specs.declared.tree.TypedExpr.{TypedExpr}
use Rattle.ep_typed.specs.declared.unit.Unit.{Unit as TypedUnit}
use Rattle.ep_typed.specs.declared.unit.UnitRoutine.{UnitRoutine}
use Rattle.ep_typed.specs.declared.unit.UnitType.{UnitType}
use Rattle.ep_typed.specs.declared.unit.UnitVariable.{UnitVariable}
use Rattle.ep_typed.specs.declared.value.Value.{Value}
use Rattle.ep_typed.specs.declared.value.Value.TheVariants as value

-- ---- expressions

-- how many designators these are
abbrev pub designators_count : Designators → ℕ
designators_count no_member = 0
designators_count (next_member d more) = suc (designators_count more)

abbrev mutual
  pub place_nodes : Place → ℕ
  place_nodes (Variable unit number) = 1
  place_nodes (Own levels number) = 1
  place_nodes (Standard file) = 1
  place_nodes (Indexed array index) = 1 + place_nodes array + expr_nodes index
  place_nodes (Field whole number) = 1 + place_nodes whole
  place_nodes (Variant whole selection number) = 1 + place_nodes whole + labels_nodes selection.labels

  pub expr_nodes : Expr → ℕ
  expr_nodes (Constant value) = 2
  expr_nodes (Text bytes) = 2
  expr_nodes (Read place) = 1 + place_nodes place
  expr_nodes (One operation x) = 1 + expr_nodes x
  expr_nodes (Two operation x y) = 1 + expr_nodes x + expr_nodes y
  expr_nodes (Short operation x y) = 1 + expr_nodes x + expr_nodes y
  expr_nodes (Step down low high x y) = 1 + expr_nodes x + expr_nodes y
  expr_nodes (Function callee given) = 1 + actuals_nodes given
  expr_nodes (IndexedValue array index) = 1 + expr_nodes array + expr_nodes index
  expr_nodes (FieldValue whole number) = 1 + expr_nodes whole
  expr_nodes (VariantValue whole selection number) = 1 + expr_nodes whole + labels_nodes selection.labels
  expr_nodes (SetConstant ms) = 2 + length ms
  expr_nodes (SetOf ds) = 1 + designators_nodes ds
  expr_nodes (OnSets operation x y) = 1 + expr_nodes x + expr_nodes y
  expr_nodes (Card x) = 1 + expr_nodes x
  expr_nodes (Structured of es) = 1 + elements_nodes es

  pub actual_nodes : Actual → ℕ
  actual_nodes (Evaluated x) = expr_nodes x
  actual_nodes (Accessed p) = place_nodes p

  pub actuals_nodes : Actuals → ℕ
  actuals_nodes no_actual = 0
  actuals_nodes (next_actual a more) = actual_nodes a + actuals_nodes more

  pub designator_nodes : Designator → ℕ
  designator_nodes (Single x) = expr_nodes x
  designator_nodes (Range x y) = expr_nodes x + expr_nodes y

  -- the index and the value, the steps and the value, or the ranges of indexes, their ends and the value; what a
  -- component has that is read is an expression
  pub element_nodes : Element → ℕ
  element_nodes (AtIndex x y) = expr_nodes x + expr_nodes y
  element_nodes (AtField steps x) = length steps + expr_nodes x
  element_nodes (SameField from to) = 1 + length from + length to
  element_nodes (AtRanges ranges x) = 3 * length ranges + expr_nodes x
  element_nodes (AtIndexes ds x) = designators_count ds + designators_nodes ds + expr_nodes x

  pub elements_nodes : Elements → ℕ
  elements_nodes no_element = 0
  elements_nodes (next_element e more) = element_nodes e + elements_nodes more

  pub designators_nodes : Designators → ℕ
  designators_nodes no_member = 0
  designators_nodes (next_member d more) = designator_nodes d + designators_nodes more

-- ---- types

-- the number that is there, or 0
abbrev pub count_where : Option ℕ → ℕ
count_where None = 0
count_where (Some n) = n

-- A value counts one, and that of a set one more for each member. That of an array or a record counts what its
-- components are given
-- besides.
abbrev pub value_nodes : Value → ℕ
value_nodes (value.Word z) = 1
value_nodes (value.Text bytes) = 1
value_nodes (value.Set ms) = 1 + length ms
value_nodes (value.Structured of es) = 1 + elements_nodes (elements (map element_of es))

-- A denoter, those in it, their bounds, initial states, and the labels of variants, each of which is a range with two
-- bounds.
abbrev pub denoter_count : Denoter-F ℕ ℕ ℕ ℕ ℕ ℕ → ℕ
denoter_count (denoter.Required required) = 1
denoter_count (denoter.Named index tuple) = 1 + length tuple
denoter_count (denoter.Subrange host low high) = 3 + host
denoter_count (denoter.Enumeration names) = 1
denoter_count (denoter.Array index component) = 1 + index + component
denoter_count (denoter.Record part) = 1 + part
denoter_count (denoter.Set base) = 1 + base
denoter_count (denoter.Initial of value) = 1 + of + value_nodes value

-- a field by its denoter
abbrev pub field_count : RecordField-F ℕ ℕ ℕ ℕ ℕ ℕ → ℕ
field_count f = f.denoter

-- the fields of a record or a variant, and its variant part, where it has one
abbrev pub part_count : FieldPart-F ℕ ℕ ℕ ℕ ℕ ℕ → ℕ
part_count p = sum p.fields + count_where p.variant_part

-- the selector, the variants, and the one that completes them
abbrev pub variant_part_count : VariantPart-F ℕ ℕ ℕ ℕ ℕ ℕ → ℕ
variant_part_count p = p.selector + sum p.variants + count_where p.completing

-- a tag field by its denoter
abbrev pub selector_count : Selector-F ℕ ℕ ℕ ℕ ℕ ℕ → ℕ
selector_count (denoter.Tag name of) = of

-- the labels and the fields of a variant
abbrev pub variant_count : Variant-F ℕ ℕ ℕ ℕ ℕ ℕ → ℕ
variant_count v = 3 * length v.ranges + v.part

abbrev pub denoter_nodes : Denoter → ℕ
denoter_nodes =
    fold-Denoter ℕ ℕ ℕ ℕ ℕ ℕ denoter_count selector_count part_count field_count variant_count variant_part_count

abbrev pub field_nodes : RecordField → ℕ
field_nodes =
    fold-RecordField ℕ ℕ ℕ ℕ ℕ ℕ denoter_count selector_count part_count field_count variant_count variant_part_count

abbrev pub part_nodes : FieldPart → ℕ
part_nodes =
    fold-FieldPart ℕ ℕ ℕ ℕ ℕ ℕ denoter_count selector_count part_count field_count variant_count variant_part_count

abbrev pub variant_part_nodes : VariantPart → ℕ
variant_part_nodes =
    fold-VariantPart ℕ ℕ ℕ ℕ ℕ ℕ denoter_count selector_count part_count field_count variant_count variant_part_count

abbrev pub selector_nodes : Selector → ℕ
selector_nodes =
    fold-Selector ℕ ℕ ℕ ℕ ℕ ℕ denoter_count selector_count part_count field_count variant_count variant_part_count

abbrev pub variant_nodes : WrittenVariant → ℕ
variant_nodes =
    fold-Variant ℕ ℕ ℕ ℕ ℕ ℕ denoter_count selector_count part_count field_count variant_count variant_part_count

-- ---- statements

abbrev pub item_nodes : Item → ℕ
item_nodes (Plain print x) = expr_nodes x
item_nodes (Wide print x w) = expr_nodes x + expr_nodes w

abbrev pub items_nodes : List Item → ℕ
items_nodes [] = 0
items_nodes (i ∷ is) = item_nodes i + items_nodes is

-- the records that a `with` opens, each of which is a `with` of its own with a place
abbrev pub with_nodes : List WithRecord → ℕ
with_nodes [] = 0
with_nodes (r ∷ more) = 1 + place_nodes r.place + with_nodes more

abbrev mutual
  pub stmt_nodes : Stmt → ℕ
  stmt_nodes Empty = 1
  stmt_nodes (Compound ss) = 1 + stmts_nodes ss
  stmt_nodes (Assign line p x) = 1 + place_nodes p + expr_nodes x
  -- the tag is a place, of the record
  stmt_nodes (AssignTag line c p s x) = 2 + place_nodes p + labels_nodes s.labels + expr_nodes x
  stmt_nodes (If line x a b) = 1 + expr_nodes x + stmt_nodes a + stmt_nodes b
  stmt_nodes (While line x s) = 1 + expr_nodes x + stmt_nodes s
  stmt_nodes (Repeat line ss x) = 1 + stmts_nodes ss + expr_nodes x
  -- the auxiliary variables are no nodes
  stmt_nodes (For line c x y s) = 1 + place_nodes (entire c.variable) + expr_nodes x + expr_nodes y + stmt_nodes s
  stmt_nodes (ForIn line c x s) = 1 + place_nodes (entire c.variable) + expr_nodes x + stmt_nodes s
  -- and neither is the variable that stands for the place
  stmt_nodes (With line v of p s) = 1 + place_nodes p + stmt_nodes s
  stmt_nodes (Procedure line callee given) = 1 + actuals_nodes given
  stmt_nodes (Case line x arms o) = 1 + expr_nodes x + arms_nodes arms + other_nodes o
  stmt_nodes (Halt line) = 1
  stmt_nodes (Write line items ends_line) = 1 + items_nodes items

  pub stmts_nodes : Stmts → ℕ
  stmts_nodes none = 0
  stmts_nodes (next s ss) = stmt_nodes s + stmts_nodes ss

  -- each range is a node, and so are its two bounds
  pub arms_nodes : Arms → ℕ
  arms_nodes no_arm = 0
  arms_nodes (next_arm ranges s arms) = 3 * length ranges + stmt_nodes s + arms_nodes arms

  pub other_nodes : Other → ℕ
  other_nodes no_other = 0
  other_nodes (otherwise_do ss) = stmts_nodes ss

abbrev pub arm_nodes : Arm → ℕ
arm_nodes a = 3 * length a.0 + stmt_nodes a.1

-- ---- declarations

-- a formal discriminant, and its denoter
abbrev pub schema_formal_nodes : SchemaFormal → ℕ
schema_formal_nodes f = 1 + denoter_nodes f.denoter

-- the formals and the denoter of a type
abbrev pub type_nodes : UnitType → ℕ
type_nodes t = sum (map schema_formal_nodes t.entry.formals) + denoter_nodes t.entry.denoter

-- the denoter of a constant, and its value
abbrev pub constant_nodes : ConstantEntry → ℕ
constant_nodes c = denoter_nodes c.denoter + value_nodes c.value

-- an expression of the code
abbrev pub typed_expr_nodes : TypedExpr → ℕ
typed_expr_nodes x = expr_nodes (expr_of x)

-- a variable, its denoter, and its discriminant values
abbrev pub variable_nodes : UnitVariable → ℕ
variable_nodes v = 1 + denoter_nodes v.denoter + sum (map typed_expr_nodes v.tuple)

-- a formal parameter, and its denoter
abbrev pub formal_nodes : Formal → ℕ
formal_nodes f = 1 + denoter_nodes f.denoter

-- the denoter of a result, where there is one
abbrev pub result_nodes : Option RoutineResult → ℕ
result_nodes None = 0
result_nodes (Some r) = denoter_nodes r.denoter

-- a routine, its formals, and its result
abbrev pub heading_nodes : List Formal → Option RoutineResult → ℕ
heading_nodes formals result = 1 + sum (map formal_nodes formals) + result_nodes result

-- a routine with its variables and its block
abbrev pub routine_nodes : UnitRoutine → ℕ
routine_nodes r =
    heading_nodes r.formals r.result + sum (map variable_nodes r.variables) + stmt_nodes (stmt_of r.block)

-- the imports of a unit, each of which is one node, its types, its constants and its variables
abbrev pub declared_nodes : TypedUnit → ℕ
declared_nodes u =
    length u.imports + sum (map type_nodes u.types) + sum (map constant_nodes u.constants)
    + sum (map variable_nodes u.variables)

-- all that a unit has; none has an interface so far
abbrev pub unit_nodes : TypedUnit → ℕ
unit_nodes u =
    declared_nodes u + sum (map routine_nodes u.routines) + stmt_nodes (stmt_of u.start) + stmt_nodes (stmt_of u.stop)
