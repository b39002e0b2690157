-- The built forms of the nodes of a tree, and the line of the first node of a component that is not built.
--
-- A node is built where the table in Forms.antt gives its form. A node of a kind without a row has one form, and it
-- is built where the node around it is. An operator and a selector are no nodes: an operator belongs to the node that
-- holds both its sides or, for a sign, what follows it, and a selector to its access. The first node that is not
-- built is the first one in the order of the text, and the outer one of two that begin with the same token. Its line
-- is that of its first token. So it is
--
-- - the component, for a module
-- - the program, for a parameter that is neither `input` nor `output`
-- - the import
-- - the routine, for a function whose result has a type with a name that is not built
-- - the formal section, for `type of`, and for the name of a type that is not built
-- - the type definition, for discriminants
-- - the type denoter without its initial state, for `bindable`
-- - the type itself, for `packed`, for what is no name, no subrange, no enumeration and no structure, for a name with
--   a tuple, and for a name that is not built
-- - the variant part of a record, for a discriminant as its selector, and for a tag whose type has a name that is not
--   built
-- - the statement, for an assignment to something else than a name that is built, alone or with indexes and fields, or
--   with these behind one pair of parentheses, for a call of something else, and for a `for` whose control variable
--   has a name that is not built
-- - the structured value, for a name of its type that is not built
-- - the factor, for `nil`, and for a character string of another length than one that is not the whole value of an
--   argument of a `write` or `writeln` statement
-- - the access, for a name that is not built, and for other selectors than indexes and fields, alone or behind one
--   pair of parentheses.
--
-- An identifier that is spelled as a required one counts as the required one, also where the text declares it anew.
-- Only uses of names count, and not their declarations.
use Rattle.std.specs.Prelude.{ℕ, Bool, true, false, if◌then◌else◌, ◌&&◌}
use Rattle.std.specs.Prelude.{List, [], ◌∷◌, map, Option, Some, None}
use Rattle.std.specs.Option.{option_map, option_or}
use Rattle.ep_tree.specs.Folds as fold
use Rattle.ep_tree.specs.Shapes.{bare}
use Rattle.ep_tree.specs.declared.expression.ComponentValue.TheOpen.{ComponentValue-F, Element-F, Factor-F, Selector-F}
use Rattle.ep_tree.specs.declared.expression.ComponentValue.{ComponentValue}
use Rattle.ep_tree.specs.declared.expression.Element.{Element}
use Rattle.ep_tree.specs.declared.expression.Factor.{Factor, out-Factor}
use Rattle.ep_tree.specs.declared.expression.Selector.{Selector, out-Selector}
use Rattle.ep_tree.specs.declared.expression.Access.{Access, out-Access}
use Rattle.ep_tree.specs.declared.expression.Addend.{Addend}
use Rattle.ep_tree.specs.declared.expression.Argument.{Argument, out-Argument}
use Rattle.ep_tree.specs.declared.expression.Comparison.{Comparison}
use Rattle.ep_tree.specs.declared.expression.Expression.{Expression}
use Rattle.ep_tree.specs.declared.expression.Label.{Label}
use Rattle.ep_tree.specs.declared.expression.Multiplier.{Multiplier}
use Rattle.ep_tree.specs.declared.expression.Simple.{Simple}
use Rattle.ep_tree.specs.declared.expression.Term.{Term}
use Rattle.ep_tree.specs.declared.expression.Values.{Values}
use Rattle.ep_tree.specs.declared.types.Core.TheOpen.{Core-F, Structure-F}
use Rattle.ep_tree.specs.declared.types.Core.{Core}
use Rattle.ep_tree.specs.declared.types.FieldSection.{FieldSection}
use Rattle.ep_tree.specs.declared.types.Fields.{Fields}
use Rattle.ep_tree.specs.declared.types.Plain.{Plain}
use Rattle.ep_tree.specs.declared.types.Structure.{Structure}
use Rattle.ep_tree.specs.declared.types.TypeDenoter.{TypeDenoter}
use Rattle.ep_tree.specs.declared.types.Variant.{Variant}
use Rattle.ep_tree.specs.declared.types.VariantPart.{VariantPart}
use Rattle.ep_tree.specs.declared.declaration.ConstantDefinition.{ConstantDefinition}
use Rattle.ep_tree.specs.declared.declaration.FormalSection.{FormalSection}
use Rattle.ep_tree.specs.declared.declaration.RoutineHeading.{RoutineHeading}
use Rattle.ep_tree.specs.declared.declaration.RoutineHeading.TheVariants as heading_is
use Rattle.ep_tree.specs.declared.declaration.TypeDefinition.{TypeDefinition}
use Rattle.ep_tree.specs.declared.declaration.VariableDeclaration.{VariableDeclaration}
use Rattle.ep_tree.specs.declared.statement.Statement.TheOpen.{Statement-F}
use Rattle.ep_tree.specs.declared.statement.Statement.{Statement}
use Rattle.ep_tree.specs.declared.statement.Arm.{Arm}
use Rattle.ep_tree.specs.declared.statement.Compound.{Compound}
use Rattle.ep_tree.specs.declared.routine.BlockPart.TheOpen.{BlockPart-F, RoutineBody-F, Routine-F}
use Rattle.ep_tree.specs.declared.routine.BlockPart.{BlockPart, fold-BlockPart}
use Rattle.ep_tree.specs.declared.routine.Routine.{Routine, fold-Routine}
use Rattle.ep_tree.specs.declared.routine.RoutineBody.{RoutineBody, fold-RoutineBody}
use Rattle.ep_tree.specs.declared.routine.RoutineStart.{RoutineStart}
use Rattle.ep_tree.specs.declared.routine.RoutineStart.TheVariants as start_is
use Rattle.ep_tree.specs.declared.component.Component.{Component}
use Rattle.ep_tree.specs.declared.component.Import.{Import}
use Rattle.ep_tree.specs.declared.component.Program.{Program}
use Rattle.ep_tree.specs.declared.component.Component.TheVariants as component_is
unfoldable pub use Rattle.ep_built.specs.Forms.{later_functions, later_procedures, later_types, writing_procedures}
unfoldable pub use Rattle.ep_built.specs.Forms.{program_parameters}
pub use Rattle.ep_built.specs.Forms.{is_among, is_later, writes, built_component, built_program, built_import}
pub use Rattle.ep_built.specs.Forms.{built_type_name, built_heading, built_start, built_routine, built_type_definition}
pub use Rattle.ep_built.specs.Forms.{built_plain, built_formal_type, built_section, built_core, built_selector}
pub use Rattle.ep_built.specs.Forms.{built_variant_part, SelectorForm, Indexes, Field, Parentheses, Other}
pub use Rattle.ep_built.specs.Forms.{form_of_selector, selector_form, is_component, is_call, behind_call}
pub use Rattle.ep_built.specs.Forms.{are_components, built_target, built_control, built_call, built_statement}
pub use Rattle.ep_built.specs.Forms.{built_relation, built_adding, built_multiplying, is_character, built_factor}
pub use Rattle.ep_built.specs.Forms.{built_access}

-- ---- the first node that is not built

-- the line of the first node that is not built, if there is one
abbrev pub Found : Type 0
Found = Option ℕ

-- the first line, of a list of parts
abbrev pub first_in : List Found → Found
first_in [] = None
first_in (line ∷ lines) = option_or line (first_in lines)

-- the line, of a part that may be there
abbrev pub first_if : Option Found → Found
first_if None = None
first_if (Some line) = line

-- the line of a node that is not built, or else the first line in its parts
abbrev pub at_node : Bool → ℕ → Found → Found
at_node true line inner = inner
at_node false line inner = Some line

-- what belongs to the node around it, an operator with what follows it: whether it is built, and the first line in it
abbrev pub Belonging : Type 0
Belonging = Bool × Found

-- whether it is built
abbrev pub is_built : Belonging → Bool
is_built part = part.0

-- whether it is built, of one that may be there
abbrev pub is_built_if : Option Belonging → Bool
is_built_if None = true
is_built_if (Some part) = is_built part

-- the first line in it, of one that may be there
abbrev pub line_if : Option Belonging → Found
line_if None = None
line_if (Some part) = part.1

-- whether each of them is built
abbrev pub all_are_built : List Belonging → Bool
all_are_built [] = true
all_are_built (part ∷ parts) = is_built part && all_are_built parts

-- a selector, for its access: its form, and the first line in it
abbrev pub Selecting : Type 0
Selecting = SelectorForm × Found

-- its form
abbrev pub form_told : Selecting → SelectorForm
form_told selecting = selecting.0

-- the first line in such parts
abbrev pub lines_in : {A : Type 0} → List (A × Found) → Found
lines_in [] = None
lines_in (part ∷ parts) = option_or part.1 (lines_in parts)

-- a node whose line the node around it needs: its line, and the first line in it
abbrev pub Placed : Type 0
Placed = ℕ × Found

-- ---- expressions and component values: each step says which lines of its parts come first

-- what each kind of node comes to: a line, or what the node around it needs too
abbrev pub expression_results : fold.ExpressionResults
expression_results =
    record (fold.expressions_as Found) {
      selector = Selecting;
      access = Placed;
      addend = Belonging;
      comparison = Belonging;
      multiplier = Belonging;
    }

-- an expression, or the brackets before their values
abbrev pub at_component_value : fold.ComponentValueOf expression_results → Found
at_component_value (ComponentValue-F.Expression e) = e
at_component_value (ComponentValue-F.Bracketed line values) = values

-- the labels before their value, and a tag's value before those of its variant
abbrev pub at_element : fold.ElementOf expression_results → Found
at_element (Element-F.Labelled line labels value) = option_or (first_in labels) value
at_element (Element-F.Variant line tag selector values) = option_or selector (first_if values)

-- the first line inside a factor
abbrev pub in_factor : fold.FactorOf expression_results → Found
in_factor (Factor-F.Access access) = access.1
in_factor (Factor-F.Number line number) = None
in_factor (Factor-F.Text line text) = None
in_factor (Factor-F.Nil line) = None
in_factor (Factor-F.Parenthesized line inner) = inner
in_factor (Factor-F.Not line inner) = inner
in_factor (Factor-F.Set line labels) = first_in labels
in_factor (Factor-F.Structured line name values) = values

-- the line of a factor
abbrev pub factor_line : fold.FactorOf expression_results → ℕ
factor_line (Factor-F.Access access) = access.0
factor_line (Factor-F.Number line number) = line
factor_line (Factor-F.Text line text) = line
factor_line (Factor-F.Nil line) = line
factor_line (Factor-F.Parenthesized line inner) = line
factor_line (Factor-F.Not line inner) = line
factor_line (Factor-F.Set line labels) = line
factor_line (Factor-F.Structured line name values) = line

-- a factor before what stands in it
abbrev pub at_factor : fold.FactorOf expression_results → Found
at_factor f = at_node (built_factor f) (factor_line f) (in_factor f)

-- the first line inside a selector
abbrev pub in_selector : fold.SelectorOf expression_results → Found
in_selector (Selector-F.Field line name) = None
in_selector (Selector-F.Index line indexes) = first_in indexes
in_selector (Selector-F.Dereference line) = None
in_selector (Selector-F.Arguments line arguments) = first_in arguments

-- a selector, for its access
abbrev pub at_selector : fold.SelectorOf expression_results → Selecting
at_selector s = (form_of_selector s, in_selector s)

-- an access before its selectors
abbrev pub at_access : fold.AccessOf expression_results → Placed
at_access a = (a.line, at_node (built_access a.name (map form_told a.selectors)) a.line (lines_in a.selectors))

-- an adding operator with its term, for the simple expression
abbrev pub at_addend : fold.AddendOf expression_results → Belonging
at_addend a = (built_adding a.operator, a.term)

-- the value of an argument before its width
abbrev pub at_argument : fold.ArgumentOf expression_results → Found
at_argument a = option_or a.value (first_if a.width)

-- a relational operator with what follows it, for the expression
abbrev pub at_comparison : fold.ComparisonOf expression_results → Belonging
at_comparison c = (built_relation c.operator, c.right)

-- an expression before its two sides
abbrev pub at_expression : fold.ExpressionOf expression_results → Found
at_expression e = at_node (is_built_if e.right) e.line (option_or e.left (line_if e.right))

-- the one expression of a label before the other
abbrev pub at_label : fold.LabelOf expression_results → Found
at_label l = option_or l.low (first_if l.high)

-- a multiplying operator with its factor, for the term
abbrev pub at_multiplier : fold.MultiplierOf expression_results → Belonging
at_multiplier m = (built_multiplying m.operator, m.factor)

-- a simple expression before its terms
abbrev pub at_simple : fold.SimpleOf expression_results → Found
at_simple s = at_node (all_are_built s.more) s.line (option_or s.first (lines_in s.more))

-- a term before its factors
abbrev pub at_term : fold.TermOf expression_results → Found
at_term t = at_node (all_are_built t.more) t.line (option_or t.first (lines_in t.more))

-- the elements before the value of `otherwise`
abbrev pub at_values : fold.ValuesOf expression_results → Found
at_values v = option_or (first_in v.elements) (first_if v.otherwise)

-- these steps together
abbrev pub at_expressions : fold.ExpressionRules expression_results
at_expressions =
    record {
      component_value = at_component_value;
      element = at_element;
      factor = at_factor;
      selector = at_selector;
      access = at_access;
      addend = at_addend;
      argument = at_argument;
      comparison = at_comparison;
      expression = at_expression;
      label = at_label;
      multiplier = at_multiplier;
      simple = at_simple;
      term = at_term;
      values = at_values;
    }

-- the first line in a component value
abbrev pub component_value_unbuilt : ComponentValue → Found
component_value_unbuilt = fold.of_component_value at_expressions

-- the first line in an element
abbrev pub element_unbuilt : Element → Found
element_unbuilt = fold.of_element at_expressions

-- the first line in a factor
abbrev pub factor_unbuilt : Factor → Found
factor_unbuilt = fold.of_factor at_expressions

-- what a selector tells its access
abbrev pub selector_belonging : Selector → Selecting
selector_belonging = fold.of_selector at_expressions

-- the line of an access, and the first line in it
abbrev pub placed_access : Access → Placed
placed_access = fold.of_access at_expressions

-- what an adding operator with its term tells the simple expression
abbrev pub addend_belonging : Addend → Belonging
addend_belonging = fold.of_addend at_expressions

-- the first line in an argument
abbrev pub argument_unbuilt : Argument → Found
argument_unbuilt = fold.of_argument at_expressions

-- what a relational operator with its second side tells the expression
abbrev pub comparison_belonging : Comparison → Belonging
comparison_belonging = fold.of_comparison at_expressions

-- the first line in an expression
abbrev pub expression_unbuilt : Expression → Found
expression_unbuilt = fold.of_expression at_expressions

-- the first line in a label
abbrev pub label_unbuilt : Label → Found
label_unbuilt = fold.of_label at_expressions

-- what a multiplying operator with its factor tells the term
abbrev pub multiplier_belonging : Multiplier → Belonging
multiplier_belonging = fold.of_multiplier at_expressions

-- the first line in a simple expression
abbrev pub simple_unbuilt : Simple → Found
simple_unbuilt = fold.of_simple at_expressions

-- the first line in a term
abbrev pub term_unbuilt : Term → Found
term_unbuilt = fold.of_term at_expressions

-- the first line in the values of a structured value
abbrev pub values_unbuilt : Values → Found
values_unbuilt = fold.of_values at_expressions

-- the first line in an access
abbrev pub access_unbuilt : Access → Found
access_unbuilt a = (placed_access a).1

-- ---- types. Nothing inside a tuple is reached while none of its forms is built.

-- the first line inside a type
abbrev pub in_core : fold.CoreOf (fold.types_as Found) → Found
in_core (Core-F.Range line low high) = option_or (expression_unbuilt low) (expression_unbuilt high)
in_core (Core-F.Structured line packed structure) = structure
in_core _ = None

-- the line of a type
abbrev pub core_line : fold.CoreOf (fold.types_as Found) → ℕ
core_line (Core-F.Named line name tuple) = line
core_line (Core-F.Range line low high) = line
core_line (Core-F.Enumeration line names) = line
core_line (Core-F.Pointer line name) = line
core_line (Core-F.Structured line packed structure) = line
core_line (Core-F.Restricted line name) = line
core_line (Core-F.TypeOf line name) = line

-- a type before what stands in it
abbrev pub at_core : fold.CoreOf (fold.types_as Found) → Found
at_core c = at_node (built_core c) (core_line c) (in_core c)

-- what stands in a structure: the index types before the type of the components, or the fields, or the base type
abbrev pub at_structure : fold.StructureOf (fold.types_as Found) → Found
at_structure (Structure-F.Array line indexes component) = option_or (first_in indexes) component
at_structure (Structure-F.Record line fields) = fields
at_structure (Structure-F.Set line base) = base

-- the type of fields
abbrev pub at_field_section : fold.FieldSectionOf (fold.types_as Found) → Found
at_field_section s = s.of

-- the sections before the variant part
abbrev pub at_fields : fold.FieldsOf (fold.types_as Found) → Found
at_fields f = option_or (first_in f.sections) (first_if f.variants)

-- a type denoter without its initial state before its type
abbrev pub at_plain : fold.PlainOf (fold.types_as Found) → Found
at_plain p = at_node (built_plain p) p.line p.core

-- a type denoter before its initial state
abbrev pub at_type_denoter : fold.TypeDenoterOf (fold.types_as Found) → Found
at_type_denoter t = option_or t.plain (first_if (option_map component_value_unbuilt t.initial))

-- the labels of a variant before its fields
abbrev pub at_variant : fold.VariantOf (fold.types_as Found) → Found
at_variant v = option_or (first_in (map label_unbuilt v.labels)) v.fields

-- a variant part before its variants, the one that completes the others last
abbrev pub at_variant_part : fold.VariantPartOf (fold.types_as Found) → Found
at_variant_part p = at_node (built_variant_part p) p.line (option_or (first_in p.variants) (first_if p.otherwise))

-- these steps together
abbrev pub at_types : fold.TypeRules (fold.types_as Found)
at_types =
    record {
      core = at_core;
      structure = at_structure;
      field_section = at_field_section;
      fields = at_fields;
      plain = at_plain;
      type_denoter = at_type_denoter;
      variant = at_variant;
      variant_part = at_variant_part;
    }

-- the first line in a type
abbrev pub core_unbuilt : Core → Found
core_unbuilt = fold.of_core at_types

-- the first line in a structure
abbrev pub structure_unbuilt : Structure → Found
structure_unbuilt = fold.of_structure at_types

-- the first line in a field section
abbrev pub field_section_unbuilt : FieldSection → Found
field_section_unbuilt = fold.of_field_section at_types

-- the first line in the fields of a record
abbrev pub fields_unbuilt : Fields → Found
fields_unbuilt = fold.of_fields at_types

-- the first line in a variant part
abbrev pub variant_part_unbuilt : VariantPart → Found
variant_part_unbuilt = fold.of_variant_part at_types

-- the first line in a variant
abbrev pub variant_unbuilt : Variant → Found
variant_unbuilt = fold.of_variant at_types

-- the first line in a type denoter without its initial state
abbrev pub plain_unbuilt : Plain → Found
plain_unbuilt = fold.of_plain at_types

-- the first line in a type denoter
abbrev pub type_denoter_unbuilt : TypeDenoter → Found
type_denoter_unbuilt = fold.of_type_denoter at_types

-- ---- statements

-- what each kind of node comes to
abbrev pub statement_results : fold.StatementResults
statement_results = record (fold.statements_as Found) { compound = Placed }

-- whether a factor is a character string, of any length
abbrev pub is_text : {A B C D E F G H I J K L M N : Type 0} → Factor-F A B C D E F G H I J K L M N → Bool
is_text (Factor-F.Text line text) = true
is_text _ = false

-- whether an expression is a character string and nothing more
abbrev pub is_bare_text : Option Factor → Bool
is_bare_text None = false
is_bare_text (Some f) = is_text (out-Factor f)

-- the first line in the value of an argument that is written, which may be a character string of any length
abbrev pub written_value_unbuilt : Expression → Found
written_value_unbuilt e = if is_bare_text (bare e) then None else expression_unbuilt e

-- the first line in an argument that is written
abbrev pub written_unbuilt : Argument → Found
written_unbuilt a =
    option_or (written_value_unbuilt (out-Argument a).value)
    (first_if (option_map expression_unbuilt (out-Argument a).width))

-- the first line in the arguments of a call, which are written or not
abbrev pub in_arguments : Bool → List Argument → Found
in_arguments true arguments = first_in (map written_unbuilt arguments)
in_arguments false arguments = first_in (map argument_unbuilt arguments)

-- the arguments in a pair of parentheses
abbrev pub selector_arguments :
    {A B C D E F G H I J K L M N : Type 0} → Selector-F A B C D E F G H I J K L M N → List G
selector_arguments (Selector-F.Arguments line arguments) = arguments
selector_arguments _ = []

-- the arguments of a call with these selectors, where it is built
abbrev pub call_arguments : List Selector → List Argument
call_arguments [] = []
call_arguments (selector ∷ selectors) = selector_arguments (out-Selector selector)

-- the selectors of a call behind its arguments, or all where it has none
abbrev pub behind_arguments : List Selector → List Selector
behind_arguments [] = []
behind_arguments (selector ∷ selectors) = if is_call (selector_form selector) then selectors else selector ∷ selectors

-- the first line in the selectors of a call statement
abbrev pub call_unbuilt : Access → Found
call_unbuilt a =
    option_or (in_arguments (writes (out-Access a).name) (call_arguments (out-Access a).selectors))
    (lines_in (map selector_belonging (behind_arguments (out-Access a).selectors)))

-- the first line inside a statement
abbrev pub in_statement : fold.StatementOf statement_results → Found
in_statement (Statement-F.Empty line) = None
in_statement (Statement-F.Assignment line access value) =
    option_or (access_unbuilt access) (component_value_unbuilt value)
in_statement (Statement-F.Call line access) = call_unbuilt access
in_statement (Statement-F.Compound compound) = compound.1
in_statement (Statement-F.If line condition body other) =
    option_or (expression_unbuilt condition) (option_or body (first_if other))
in_statement (Statement-F.Case line selector arms other) =
    option_or (expression_unbuilt selector) (option_or (first_in arms) (first_if other))
in_statement (Statement-F.While line condition body) = option_or (expression_unbuilt condition) body
in_statement (Statement-F.Repeat line statements condition) =
    option_or (first_in statements) (expression_unbuilt condition)
in_statement (Statement-F.For line variable start direction end body) =
    option_or (expression_unbuilt start) (option_or (expression_unbuilt end) body)
in_statement (Statement-F.ForIn line variable members body) = option_or (expression_unbuilt members) body
in_statement (Statement-F.With line accesses body) = option_or (first_in (map access_unbuilt accesses)) body

-- the line of a statement
abbrev pub statement_line : fold.StatementOf statement_results → ℕ
statement_line (Statement-F.Empty line) = line
statement_line (Statement-F.Assignment line access value) = line
statement_line (Statement-F.Call line access) = line
statement_line (Statement-F.Compound compound) = compound.0
statement_line (Statement-F.If line condition body other) = line
statement_line (Statement-F.Case line selector arms other) = line
statement_line (Statement-F.While line condition body) = line
statement_line (Statement-F.Repeat line statements condition) = line
statement_line (Statement-F.For line variable start direction end body) = line
statement_line (Statement-F.ForIn line variable members body) = line
statement_line (Statement-F.With line accesses body) = line

-- a statement before what stands in it
abbrev pub at_statement : fold.StatementOf statement_results → Found
at_statement s = at_node (built_statement s) (statement_line s) (in_statement s)

-- the labels of an arm before its statement
abbrev pub at_arm : fold.ArmOf statement_results → Found
at_arm a = option_or (first_in (map label_unbuilt a.labels)) a.body

-- the statements of a compound, for the node around it
abbrev pub at_compound : fold.CompoundOf statement_results → Placed
at_compound c = (c.line, first_in c.statements)

-- the statements behind `otherwise`
abbrev pub at_otherwise : fold.OtherwiseOf statement_results → Found
at_otherwise o = first_in o.statements

-- these steps together
abbrev pub at_statements : fold.StatementRules statement_results
at_statements =
    record {
      statement = at_statement;
      arm = at_arm;
      compound = at_compound;
      otherwise = at_otherwise;
    }

-- the first line in a statement
abbrev pub statement_unbuilt : Statement → Found
statement_unbuilt = fold.of_statement at_statements

-- the first line in an arm
abbrev pub arm_unbuilt : Arm → Found
arm_unbuilt = fold.of_arm at_statements

-- the first line in a compound statement
abbrev pub compound_unbuilt : Compound → Found
compound_unbuilt c = (fold.of_compound at_statements c).1

-- ---- programs. Nothing inside an import or a module is reached while none of their forms is built.

-- the first line in a constant definition
abbrev pub constant_unbuilt : ConstantDefinition → Found
constant_unbuilt d = component_value_unbuilt d.value

-- the first line in a type definition
abbrev pub type_unbuilt : TypeDefinition → Found
type_unbuilt d = at_node (built_type_definition d) d.line (type_denoter_unbuilt d.of)

-- the first line in a variable declaration
abbrev pub variable_unbuilt : VariableDeclaration → Found
variable_unbuilt d = type_denoter_unbuilt d.of

-- the first line in a formal section
abbrev pub section_unbuilt : FormalSection → Found
section_unbuilt s = at_node (built_section s) s.line None

-- the first line in the heading of a routine, by its formal sections
abbrev pub heading_unbuilt : RoutineHeading → Found
heading_unbuilt (heading_is.Procedure line name formals) = first_in (map section_unbuilt formals)
heading_unbuilt (heading_is.Function line name formals own result) = first_in (map section_unbuilt formals)

-- the first line in the start of a routine
abbrev pub start_unbuilt : RoutineStart → Found
start_unbuilt (start_is.Heading heading) = heading_unbuilt heading
start_unbuilt (start_is.Function line name) = None

-- a part, by its definitions or declarations, or as a routine
abbrev pub at_part : BlockPart-F Found Found Found → Found
at_part (BlockPart-F.Constants c) = first_in (map constant_unbuilt c.definitions)
at_part (BlockPart-F.Types t) = first_in (map type_unbuilt t.definitions)
at_part (BlockPart-F.Variables v) = first_in (map variable_unbuilt v.declarations)
at_part (BlockPart-F.Routine r) = r

-- the parts of a block, routines among them, before its statements
abbrev pub at_body : RoutineBody-F Found Found Found → Found
at_body (RoutineBody-F.Forward line) = None
at_body (RoutineBody-F.Block line parts statements) = option_or (first_in parts) (compound_unbuilt statements)

-- a routine before what stands in it, and its start before its body
abbrev pub at_routine : Routine-F Found Found Found → Found
at_routine r = at_node (built_routine r) r.line (option_or (start_unbuilt r.start) r.body)

-- the first line in a part
abbrev pub part_unbuilt : BlockPart → Found
part_unbuilt = fold-BlockPart Found Found Found at_part at_body at_routine

-- the first line in the body of a routine
abbrev pub body_unbuilt : RoutineBody → Found
body_unbuilt = fold-RoutineBody Found Found Found at_part at_body at_routine

-- the first line in a routine
abbrev pub routine_unbuilt : Routine → Found
routine_unbuilt = fold-Routine Found Found Found at_part at_body at_routine

-- the first line in an import
abbrev pub import_unbuilt : Import → Found
import_unbuilt i = at_node (built_import i) i.line None

-- the imports, then the parts, then the statements
abbrev pub in_program : Program → Found
in_program p =
    option_or (option_or (first_in (map import_unbuilt p.imports)) (first_in (map part_unbuilt p.parts)))
    (compound_unbuilt p.body)

-- the first line in a program
abbrev pub program_unbuilt : Program → Found
program_unbuilt p = at_node (built_program p) p.line (in_program p)

-- the line of a component
abbrev pub component_line : Component → ℕ
component_line (component_is.Program p) = p.line
component_line (component_is.Heading h) = h.line
component_line (component_is.Block b) = b.line
component_line (component_is.Module m) = m.line

-- the first line inside a component
abbrev pub in_component : Component → Found
in_component (component_is.Program p) = program_unbuilt p
in_component _ = None

-- the line of the first node of a component that is not built, if there is one
abbrev pub component_unbuilt : Component → Found
component_unbuilt c = at_node (built_component c) (component_line c) (in_component c)
