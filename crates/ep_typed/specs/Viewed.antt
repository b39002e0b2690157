-- The plain data of the code's typed trees.
use Rattle.std.specs.Prelude.{List, [], ◌∷◌, ◌++◌, Option, None, Some, map}
use Rattle.std.specs.Option.{option_map}
use Rattle.ep_typed.specs.Trees as tree
use Rattle.ep_typed.specs.declared.denoter.Bound.{Bound}
use Rattle.ep_typed.specs.declared.denoter.Bound.TheVariants.{Constant}
use Rattle.ep_typed.specs.declared.denoter.Denoter.{Denoter}
use Rattle.ep_typed.specs.declared.denoter.Denoter.TheOpen as denoter
use Rattle.ep_typed.specs.declared.denoter.Denoter.TheOpen.{Denoter-F, Selector-F, FieldPart-F, RecordField-F}
use Rattle.ep_typed.specs.declared.denoter.Denoter.TheOpen.{Variant-F, VariantPart-F}
use Rattle.ep_typed.specs.declared.denoter.Denoter.TheFolds.{fold-Denoter}
use Rattle.ep_typed.specs.declared.denoter.FieldPart.{FieldPart, fold-FieldPart}
use Rattle.ep_typed.specs.declared.denoter.RecordField.{RecordField, fold-RecordField}
use Rattle.ep_typed.specs.declared.denoter.Selector.{Selector, fold-Selector}
use Rattle.ep_typed.specs.declared.denoter.Variant.{Variant, fold-Variant}
use Rattle.ep_typed.specs.declared.denoter.VariantPart.{VariantPart, fold-VariantPart}
use Rattle.ep_values.specs.declared.operations.Print.{Print}
use Rattle.ep_typed.specs.declared.tree.Actual.{Actual}
use Rattle.ep_typed.specs.declared.tree.Callee.{Callee}
use Rattle.ep_typed.specs.declared.tree.TypedPlace.{TypedPlace}
use Rattle.ep_typed.specs.declared.tree.TypedExpr.{TypedExpr}
use Rattle.ep_typed.specs.declared.tree.Actual.TheOpen as expr
use Rattle.ep_typed.specs.declared.tree.Actual.TheOpen.{Actual-F, Element-F, MemberDesignator-F, TypedExpr-F}
use Rattle.ep_typed.specs.declared.tree.Actual.TheOpen.{TypedPlace-F}
use Rattle.ep_typed.specs.declared.tree.Actual.TheFolds.{fold-Actual, fold-Element, fold-MemberDesignator}
use Rattle.ep_typed.specs.declared.tree.Actual.TheFolds.{fold-TypedExpr, fold-TypedPlace}
use Rattle.ep_typed.specs.declared.tree.Element.{Element}
use Rattle.ep_typed.specs.declared.tree.MemberDesignator.{MemberDesignator}
use Rattle.ep_typed.specs.declared.tree.WriteItem.{WriteItem}
use Rattle.ep_typed.specs.declared.tree.EntireVariable.{EntireVariable}
use Rattle.ep_typed.specs.declared.tree.EntireVariable.TheVariants as entire
use Rattle.ep_typed.specs.declared.tree.ForControl.{ForControl}
use Rattle.ep_typed.specs.declared.tree.TagControl.{TagControl}
use Rattle.ep_typed.specs.declared.tree.MemberControl.{MemberControl}
use Rattle.ep_typed.specs.declared.tree.WithRecord.{WithRecord}
use Rattle.ep_typed.specs.declared.tree.TypedStmt.{TypedStmt}
use Rattle.ep_typed.specs.declared.tree.TypedStmt.TheOpen as stmt
use Rattle.ep_typed.specs.declared.tree.TypedStmt.TheOpen.{TypedStmt-F, CaseArm-F}
use Rattle.ep_typed.specs.declared.tree.TypedStmt.TheFolds.{fold-TypedStmt, fold-CaseArm}
use Rattle.ep_typed.specs.declared.tree.CaseArm.{CaseArm}
use Rattle.ep_typed.specs.declared.value.Value.{Value}
use Rattle.ep_typed.specs.declared.value.Value.TheVariants as constant

abbrev pub bound_of : Bound → tree.Bound
bound_of (Constant value) = tree.Fixed value

abbrev pub callee_of : Callee → tree.Callee
callee_of c = record { unit = c.unit; number = c.number; levels = c.levels }

abbrev pub place_step : TypedPlace-F tree.Actual tree.Element tree.Designator tree.Expr tree.Place → tree.Place
place_step (expr.«TypedPlace::Variable» unit number) = tree.Variable unit number
place_step (expr.Own levels number) = tree.Own levels number
place_step (expr.Standard file) = tree.Standard file
place_step (expr.Indexed array index) = tree.Indexed array index
place_step (expr.Field whole number) = tree.Field whole number
place_step (expr.Variant whole selection number) = tree.Variant whole selection number

abbrev pub expr_step : TypedExpr-F tree.Actual tree.Element tree.Designator tree.Expr tree.Place → tree.Expr
expr_step (expr.Constant value) = tree.Constant value
expr_step (expr.Text bytes) = tree.Text bytes
expr_step (expr.Read place) = tree.Read place
expr_step (expr.Unary operation operand) = tree.One operation operand
expr_step (expr.Binary operation left right) = tree.Two operation left right
expr_step (expr.Short operation left right) = tree.Short operation left right
expr_step (expr.Step down low high value count) = tree.Step down low high value count
expr_step (expr.Function callee given) = tree.Function (callee_of callee) (tree.actuals given)
expr_step (expr.IndexedValue array index) = tree.IndexedValue array index
expr_step (expr.FieldValue whole number) = tree.FieldValue whole number
expr_step (expr.VariantValue whole selection number) = tree.VariantValue whole selection number
expr_step (expr.SetConstant members) = tree.SetConstant members
expr_step (expr.Set members) = tree.SetOf (tree.designators members)
expr_step (expr.OnSets operation left right) = tree.OnSets operation left right
expr_step (expr.Card operand) = tree.Card operand
expr_step (expr.Structured of elements) = tree.Structured of (tree.elements elements)

abbrev pub element_step : Element-F tree.Actual tree.Element tree.Designator tree.Expr tree.Place → tree.Element
element_step (expr.AtIndex index value) = tree.AtIndex index value
element_step (expr.AtField steps value) = tree.AtField steps value
element_step (expr.SameField from to) = tree.SameField from to
element_step (expr.AtRanges ranges value) = tree.AtRanges ranges value
element_step (expr.AtIndexes indexes value) = tree.AtIndexes (tree.designators indexes) value

abbrev pub actual_step : Actual-F tree.Actual tree.Element tree.Designator tree.Expr tree.Place → tree.Actual
actual_step (expr.Value value) = tree.Evaluated value
actual_step (expr.«Actual::Variable» place) = tree.Accessed place

abbrev pub designator_step : MemberDesignator-F tree.Actual tree.Element tree.Designator tree.Expr tree.Place
    → tree.Designator
designator_step (expr.Single value) = tree.Single value
designator_step (expr.Range first last) = tree.Range first last

abbrev pub place_of : TypedPlace → tree.Place
place_of =
    fold-TypedPlace tree.Actual tree.Element tree.Designator tree.Expr tree.Place actual_step element_step
    designator_step expr_step place_step

abbrev pub expr_of : TypedExpr → tree.Expr
expr_of =
    fold-TypedExpr tree.Actual tree.Element tree.Designator tree.Expr tree.Place actual_step element_step
    designator_step expr_step place_step

abbrev pub actual_of : Actual → tree.Actual
actual_of =
    fold-Actual tree.Actual tree.Element tree.Designator tree.Expr tree.Place actual_step element_step designator_step
    expr_step place_step

abbrev pub designator_of : MemberDesignator → tree.Designator
designator_of =
    fold-MemberDesignator tree.Actual tree.Element tree.Designator tree.Expr tree.Place actual_step element_step
    designator_step expr_step place_step

abbrev pub element_of : Element → tree.Element
element_of =
    fold-Element tree.Actual tree.Element tree.Designator tree.Expr tree.Place actual_step element_step
    designator_step expr_step place_step

-- a constant as an expression
abbrev pub constant_expr : Value → tree.Expr
constant_expr (constant.Word w) = tree.Constant w
constant_expr (constant.Text bytes) = tree.Text bytes
constant_expr (constant.Set ms) = tree.SetConstant ms
constant_expr (constant.Structured of elements) = tree.Structured of (tree.elements (map element_of elements))

-- what is there, or nothing
abbrev pub behind : Option (List tree.Denoter) → List tree.Denoter
behind None = []
behind (Some components) = components

-- the record of the fields of a completing variant, where there is one
abbrev pub completing : Option (List tree.Denoter) → List tree.Denoter
completing None = []
completing (Some components) = tree.Record (tree.denoters components) ∷ []

abbrev pub denoter_step : Denoter-F tree.Denoter tree.Denoter (List tree.Denoter) tree.Denoter tree.Denoter (List
    tree.Denoter)
    → tree.Denoter
denoter_step (denoter.Required required) = tree.Required required
denoter_step (denoter.Named index tuple) = tree.Named index (map bound_of tuple)
denoter_step (denoter.Subrange host low high) = tree.Subrange host (bound_of low) (bound_of high)
denoter_step (denoter.Enumeration names) = tree.Enumeration names
denoter_step (denoter.Array index component) = tree.Array index component
denoter_step (denoter.Record components) = tree.Record (tree.denoters components)
denoter_step (denoter.Set base) = tree.Set base
denoter_step (denoter.Initial of value) = tree.Initial of (constant_expr value)

-- a field by its type
abbrev pub field_step : RecordField-F tree.Denoter tree.Denoter (List tree.Denoter) tree.Denoter tree.Denoter (List
    tree.Denoter)
    → tree.Denoter
field_step f = f.denoter

-- the fields of a record or a variant, and then what its variant part adds
abbrev pub part_step : FieldPart-F tree.Denoter tree.Denoter (List tree.Denoter) tree.Denoter tree.Denoter (List
    tree.Denoter)
    → List tree.Denoter
part_step p = p.fields ++ behind p.variant_part

-- a variant part by the record of what selects a variant, and then the variants, the completing one last
abbrev pub variant_part_step : VariantPart-F tree.Denoter tree.Denoter (List
    tree.Denoter) tree.Denoter tree.Denoter (List tree.Denoter)
    → List tree.Denoter
variant_part_step p = p.selector ∷ (p.variants ++ completing p.completing)

-- a tag by the record of it alone
abbrev pub selector_step : Selector-F tree.Denoter tree.Denoter (List tree.Denoter) tree.Denoter tree.Denoter (List
    tree.Denoter)
    → tree.Denoter
selector_step (denoter.Tag name of) = tree.Record (tree.denoters (of ∷ []))

-- a variant by the record of its fields
abbrev pub variant_step : Variant-F tree.Denoter tree.Denoter (List tree.Denoter) tree.Denoter tree.Denoter (List
    tree.Denoter)
    → tree.Denoter
variant_step v = tree.Record (tree.denoters v.part)

abbrev pub denoter_of : Denoter → tree.Denoter
denoter_of =
    fold-Denoter tree.Denoter tree.Denoter (List tree.Denoter) tree.Denoter tree.Denoter (List tree.Denoter)
    denoter_step selector_step part_step field_step variant_step variant_part_step

-- the components that a field part gives to its record or variant
abbrev pub components_of : FieldPart → List tree.Denoter
components_of =
    fold-FieldPart tree.Denoter tree.Denoter (List tree.Denoter) tree.Denoter tree.Denoter (List tree.Denoter)
    denoter_step selector_step part_step field_step variant_step variant_part_step

abbrev pub field_of : RecordField → tree.Denoter
field_of =
    fold-RecordField tree.Denoter tree.Denoter (List tree.Denoter) tree.Denoter tree.Denoter (List tree.Denoter)
    denoter_step selector_step part_step field_step variant_step variant_part_step

abbrev pub selector_of : Selector → tree.Denoter
selector_of =
    fold-Selector tree.Denoter tree.Denoter (List tree.Denoter) tree.Denoter tree.Denoter (List tree.Denoter)
    denoter_step selector_step part_step field_step variant_step variant_part_step

abbrev pub variant_of : Variant → tree.Denoter
variant_of =
    fold-Variant tree.Denoter tree.Denoter (List tree.Denoter) tree.Denoter tree.Denoter (List tree.Denoter)
    denoter_step selector_step part_step field_step variant_step variant_part_step

-- and those that a variant part adds
abbrev pub variants_of : VariantPart → List tree.Denoter
variants_of =
    fold-VariantPart tree.Denoter tree.Denoter (List tree.Denoter) tree.Denoter tree.Denoter (List tree.Denoter)
    denoter_step selector_step part_step field_step variant_step variant_part_step

abbrev pub wide : Print → TypedExpr → Option TypedExpr → tree.Item
wide print value None = tree.Plain print (expr_of value)
wide print value (Some width) = tree.Wide print (expr_of value) (expr_of width)

abbrev pub item_of : WriteItem → tree.Item
item_of i = wide i.print i.value i.width

abbrev pub entire_of : EntireVariable → tree.Entire
entire_of (entire.Unit unit number) = tree.OfUnit unit number
entire_of (entire.Own levels number) = tree.OfRoutine levels number

abbrev pub control_of : ForControl → tree.Control
control_of c =
    record {
      variable = entire_of c.variable;
      initial = entire_of c.initial;
      last = entire_of c.last;
      falls = c.falls;
      low = c.low;
      high = c.high;
    }

abbrev pub member_control_of : MemberControl → tree.MemberControl
member_control_of c = record { variable = entire_of c.variable; rest = entire_of c.rest }

abbrev pub tagging_of : TagControl → tree.Tagging
tagging_of c = record { value = entire_of c.value; low = c.low; high = c.high }

abbrev pub with_record_of : WithRecord → tree.WithRecord
with_record_of r = record { variable = entire_of r.variable; of = r.of; place = place_of r.place }

-- the records of a `with` are one list in the code, and each is a `with` of its own here
abbrev pub stmt_step : TypedStmt-F tree.Stmt tree.Arm → tree.Stmt
stmt_step stmt.Empty = tree.Empty
stmt_step (stmt.Compound statements) = tree.Compound (tree.stmts statements)
stmt_step (stmt.Assign line place value) = tree.Assign line (place_of place) (expr_of value)
stmt_step (stmt.AssignTag line control whole selection value) =
    tree.AssignTag line (tagging_of control) (place_of whole) selection (expr_of value)
stmt_step (stmt.If line condition then_part else_part) = tree.If line (expr_of condition) then_part else_part
stmt_step (stmt.While line condition body) = tree.While line (expr_of condition) body
stmt_step (stmt.Repeat line body condition) = tree.Repeat line (tree.stmts body) (expr_of condition)
stmt_step (stmt.For line control initial last body) =
    tree.For line (control_of control) (expr_of initial) (expr_of last) body
stmt_step (stmt.ForIn line control set body) = tree.ForIn line (member_control_of control) (expr_of set) body
stmt_step (stmt.With line records body) = tree.with_form line (map with_record_of records) body
stmt_step (stmt.Procedure line callee given) =
    tree.Procedure line (callee_of callee) (tree.actuals (map actual_of given))
stmt_step (stmt.Case line selector arms other) = tree.Case line (expr_of selector) (tree.arms arms) (tree.other other)
stmt_step (stmt.Halt line) = tree.Halt line
stmt_step (stmt.Write line items ends_line) = tree.Write line (map item_of items) ends_line

abbrev pub arm_step : CaseArm-F tree.Stmt tree.Arm → tree.Arm
arm_step a = (a.ranges, a.body)

abbrev pub stmt_of : TypedStmt → tree.Stmt
stmt_of = fold-TypedStmt tree.Stmt tree.Arm stmt_step arm_step

abbrev pub arm_of : CaseArm → tree.Arm
arm_of = fold-CaseArm tree.Stmt tree.Arm stmt_step arm_step

abbrev pub other_of : Option (List TypedStmt) → tree.Other
other_of other = tree.other (option_map (map stmt_of) other)
