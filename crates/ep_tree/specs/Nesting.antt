-- The nesting of a tree: the greatest number of statements, `plain` types, routine declarations, field lists,
-- bracketed `values`, expressions directly inside brackets or parentheses and factors after `not` that stand one
-- inside the other. One step for each node says what it adds to what its parts have. A label or a component value
-- inside bracketed `values` adds no level of its own, and empty brackets add none.
use Rattle.std.specs.Prelude.{ℕ, suc, max, List, [], ◌∷◌, map, Option, Some, None}
use Rattle.ep_tree.specs.Folds as fold
use Rattle.ep_tree.specs.declared.expression.ComponentValue.TheOpen.{ComponentValue-F, Element-F, Factor-F, Selector-F}
use Rattle.ep_tree.specs.declared.expression.ComponentValue.{ComponentValue}
use Rattle.ep_tree.specs.declared.expression.Element.{Element}
use Rattle.ep_tree.specs.declared.expression.Factor.{Factor}
use Rattle.ep_tree.specs.declared.expression.Selector.{Selector}
use Rattle.ep_tree.specs.declared.expression.Access.{Access}
use Rattle.ep_tree.specs.declared.expression.Addend.{Addend}
use Rattle.ep_tree.specs.declared.expression.Argument.{Argument}
use Rattle.ep_tree.specs.declared.expression.Comparison.{Comparison}
use Rattle.ep_tree.specs.declared.expression.Expression.{Expression}
use Rattle.ep_tree.specs.declared.expression.Label.{Label}
use Rattle.ep_tree.specs.declared.expression.Multiplier.{Multiplier}
use Rattle.ep_tree.specs.declared.expression.Simple.{Simple}
use Rattle.ep_tree.specs.declared.expression.Term.{Term}
use Rattle.ep_tree.specs.declared.expression.Values.{Values}
use Rattle.ep_tree.specs.declared.types.Core.TheOpen.{Core-F, Structure-F}
use Rattle.ep_tree.specs.declared.types.Core.{Core}
use Rattle.ep_tree.specs.declared.types.Structure.{Structure}
use Rattle.ep_tree.specs.declared.types.FieldSection.{FieldSection}
use Rattle.ep_tree.specs.declared.types.Fields.{Fields}
use Rattle.ep_tree.specs.declared.types.Plain.{Plain}
use Rattle.ep_tree.specs.declared.types.TypeDenoter.{TypeDenoter}
use Rattle.ep_tree.specs.declared.types.Variant.{Variant}
use Rattle.ep_tree.specs.declared.types.VariantPart.{VariantPart}
use Rattle.ep_tree.specs.declared.statement.Statement.TheOpen.{Statement-F}
use Rattle.ep_tree.specs.declared.statement.Statement.{Statement}
use Rattle.ep_tree.specs.declared.statement.Arm.{Arm}
use Rattle.ep_tree.specs.declared.statement.Compound.{Compound}
use Rattle.ep_tree.specs.declared.statement.Otherwise.{Otherwise}
use Rattle.ep_tree.specs.declared.routine.BlockPart.TheOpen.{BlockPart-F, RoutineBody-F, Routine-F}
use Rattle.ep_tree.specs.declared.routine.BlockPart.{BlockPart, fold-BlockPart}
use Rattle.ep_tree.specs.declared.routine.RoutineBody.{RoutineBody, fold-RoutineBody}
use Rattle.ep_tree.specs.declared.routine.Routine.{Routine, fold-Routine}
use Rattle.ep_tree.specs.declared.declaration.ConstantDefinition.{ConstantDefinition}
use Rattle.ep_tree.specs.declared.declaration.Constants.{Constants}
use Rattle.ep_tree.specs.declared.declaration.TypeDefinition.{TypeDefinition}
use Rattle.ep_tree.specs.declared.declaration.Types.{Types}
use Rattle.ep_tree.specs.declared.declaration.VariableDeclaration.{VariableDeclaration}
use Rattle.ep_tree.specs.declared.declaration.Variables.{Variables}
use Rattle.ep_tree.specs.declared.component.Block.{Block}
use Rattle.ep_tree.specs.declared.component.Component.{Component}
use Rattle.ep_tree.specs.declared.component.Heading.{Heading}
use Rattle.ep_tree.specs.declared.component.HeadingPart.{HeadingPart}
use Rattle.ep_tree.specs.declared.component.Program.{Program}
use Rattle.ep_tree.specs.declared.component.Component.TheVariants as component_is
use Rattle.ep_tree.specs.declared.component.HeadingPart.TheVariants as heading_part_is

-- the greatest number, or 0
abbrev pub most_of : List ℕ → ℕ
most_of [] = 0
most_of (n ∷ ns) = max n (most_of ns)

-- the greatest number and one more, or 0
abbrev pub most_inside : List ℕ → ℕ
most_inside [] = 0
most_inside (n ∷ ns) = max (suc n) (most_inside ns)

-- the number that is there, or 0
abbrev pub most_if : Option ℕ → ℕ
most_if None = 0
most_if (Some n) = n

-- ---- expressions and component values

abbrev pub in_component_value : fold.ComponentValueOf (fold.expressions_as ℕ) → ℕ
in_component_value (ComponentValue-F.Expression e) = e
in_component_value (ComponentValue-F.Bracketed line values) = values

abbrev pub in_element : fold.ElementOf (fold.expressions_as ℕ) → ℕ
in_element (Element-F.Labelled line labels value) = max (most_of labels) value
in_element (Element-F.Variant line tag selector values) = max selector (most_if values)

abbrev pub in_factor : fold.FactorOf (fold.expressions_as ℕ) → ℕ
in_factor (Factor-F.Access access) = access
in_factor (Factor-F.Number line number) = 0
in_factor (Factor-F.Text line text) = 0
in_factor (Factor-F.Nil line) = 0
in_factor (Factor-F.Parenthesized line inner) = suc inner
in_factor (Factor-F.Not line inner) = suc inner
in_factor (Factor-F.Set line labels) = most_inside labels
in_factor (Factor-F.Structured line name values) = values

abbrev pub in_selector : fold.SelectorOf (fold.expressions_as ℕ) → ℕ
in_selector (Selector-F.Field line name) = 0
in_selector (Selector-F.Index line indexes) = most_inside indexes
in_selector (Selector-F.Dereference line) = 0
in_selector (Selector-F.Arguments line arguments) = most_inside arguments

abbrev pub in_access : fold.AccessOf (fold.expressions_as ℕ) → ℕ
in_access a = most_of a.selectors

abbrev pub in_addend : fold.AddendOf (fold.expressions_as ℕ) → ℕ
in_addend a = a.term

abbrev pub in_argument : fold.ArgumentOf (fold.expressions_as ℕ) → ℕ
in_argument a = max a.value (most_if a.width)

abbrev pub in_comparison : fold.ComparisonOf (fold.expressions_as ℕ) → ℕ
in_comparison c = c.right

abbrev pub in_expression : fold.ExpressionOf (fold.expressions_as ℕ) → ℕ
in_expression e = max e.left (most_if e.right)

abbrev pub in_label : fold.LabelOf (fold.expressions_as ℕ) → ℕ
in_label l = max l.low (most_if l.high)

abbrev pub in_multiplier : fold.MultiplierOf (fold.expressions_as ℕ) → ℕ
in_multiplier m = m.factor

abbrev pub in_simple : fold.SimpleOf (fold.expressions_as ℕ) → ℕ
in_simple s = max s.first (most_of s.more)

abbrev pub in_term : fold.TermOf (fold.expressions_as ℕ) → ℕ
in_term t = max t.first (most_of t.more)

abbrev pub in_values : fold.ValuesOf (fold.expressions_as ℕ) → ℕ
in_values v = suc (max (most_of v.elements) (most_if v.otherwise))

-- these steps together
abbrev pub in_expressions : fold.ExpressionRules (fold.expressions_as ℕ)
in_expressions =
    record {
      component_value = in_component_value;
      element = in_element;
      factor = in_factor;
      selector = in_selector;
      access = in_access;
      addend = in_addend;
      argument = in_argument;
      comparison = in_comparison;
      expression = in_expression;
      label = in_label;
      multiplier = in_multiplier;
      simple = in_simple;
      term = in_term;
      values = in_values;
    }

abbrev pub component_value_nesting : ComponentValue → ℕ
component_value_nesting = fold.of_component_value in_expressions

abbrev pub element_nesting : Element → ℕ
element_nesting = fold.of_element in_expressions

abbrev pub factor_nesting : Factor → ℕ
factor_nesting = fold.of_factor in_expressions

abbrev pub selector_nesting : Selector → ℕ
selector_nesting = fold.of_selector in_expressions

abbrev pub access_nesting : Access → ℕ
access_nesting = fold.of_access in_expressions

abbrev pub addend_nesting : Addend → ℕ
addend_nesting = fold.of_addend in_expressions

abbrev pub argument_nesting : Argument → ℕ
argument_nesting = fold.of_argument in_expressions

abbrev pub comparison_nesting : Comparison → ℕ
comparison_nesting = fold.of_comparison in_expressions

abbrev pub expression_nesting : Expression → ℕ
expression_nesting = fold.of_expression in_expressions

abbrev pub label_nesting : Label → ℕ
label_nesting = fold.of_label in_expressions

abbrev pub multiplier_nesting : Multiplier → ℕ
multiplier_nesting = fold.of_multiplier in_expressions

abbrev pub simple_nesting : Simple → ℕ
simple_nesting = fold.of_simple in_expressions

abbrev pub term_nesting : Term → ℕ
term_nesting = fold.of_term in_expressions

abbrev pub values_nesting : Values → ℕ
values_nesting = fold.of_values in_expressions

-- ---- types

-- the nesting of an initial state, if there is one
abbrev pub initial_nesting : Option ComponentValue → ℕ
initial_nesting None = 0
initial_nesting (Some value) = component_value_nesting value

abbrev pub in_core : fold.CoreOf (fold.types_as ℕ) → ℕ
in_core (Core-F.Named line name values) = most_inside (map expression_nesting values)
in_core (Core-F.Range line low high) = max (expression_nesting low) (expression_nesting high)
in_core (Core-F.Enumeration line names) = 0
in_core (Core-F.Pointer line name) = 0
in_core (Core-F.Structured line packed structure) = structure
in_core (Core-F.Restricted line name) = 0
in_core (Core-F.TypeOf line name) = 0

abbrev pub in_structure : fold.StructureOf (fold.types_as ℕ) → ℕ
in_structure (Structure-F.Array line indexes component) = max (most_of indexes) component
in_structure (Structure-F.Record line fields) = fields
in_structure (Structure-F.Set line base) = base

abbrev pub in_field_section : fold.FieldSectionOf (fold.types_as ℕ) → ℕ
in_field_section s = s.of

abbrev pub in_fields : fold.FieldsOf (fold.types_as ℕ) → ℕ
in_fields f = suc (max (most_of f.sections) (most_if f.variants))

abbrev pub in_plain : fold.PlainOf (fold.types_as ℕ) → ℕ
in_plain p = suc p.core

abbrev pub in_type_denoter : fold.TypeDenoterOf (fold.types_as ℕ) → ℕ
in_type_denoter t = max t.plain (initial_nesting t.initial)

abbrev pub in_variant : fold.VariantOf (fold.types_as ℕ) → ℕ
in_variant v = max (most_of (map label_nesting v.labels)) v.fields

abbrev pub in_variant_part : fold.VariantPartOf (fold.types_as ℕ) → ℕ
in_variant_part p = max (most_of p.variants) (most_if p.otherwise)

-- these steps together
abbrev pub in_types : fold.TypeRules (fold.types_as ℕ)
in_types =
    record {
      core = in_core;
      structure = in_structure;
      field_section = in_field_section;
      fields = in_fields;
      plain = in_plain;
      type_denoter = in_type_denoter;
      variant = in_variant;
      variant_part = in_variant_part;
    }

abbrev pub core_nesting : Core → ℕ
core_nesting = fold.of_core in_types

abbrev pub structure_nesting : Structure → ℕ
structure_nesting = fold.of_structure in_types

abbrev pub field_section_nesting : FieldSection → ℕ
field_section_nesting = fold.of_field_section in_types

abbrev pub fields_nesting : Fields → ℕ
fields_nesting = fold.of_fields in_types

abbrev pub plain_nesting : Plain → ℕ
plain_nesting = fold.of_plain in_types

abbrev pub type_denoter_nesting : TypeDenoter → ℕ
type_denoter_nesting = fold.of_type_denoter in_types

abbrev pub variant_nesting : Variant → ℕ
variant_nesting = fold.of_variant in_types

abbrev pub variant_part_nesting : VariantPart → ℕ
variant_part_nesting = fold.of_variant_part in_types

-- ---- statements

abbrev pub in_statement : fold.StatementOf (fold.statements_as ℕ) → ℕ
in_statement (Statement-F.Empty line) = 1
in_statement (Statement-F.Assignment line access value) =
    suc (max (access_nesting access) (component_value_nesting value))
in_statement (Statement-F.Call line access) = suc (access_nesting access)
in_statement (Statement-F.Compound compound) = suc compound
in_statement (Statement-F.If line condition then other) =
    suc (max (expression_nesting condition) (max then (most_if other)))
in_statement (Statement-F.Case line selector arms other) =
    suc (max (expression_nesting selector) (max (most_of arms) (most_if other)))
in_statement (Statement-F.While line condition body) = suc (max (expression_nesting condition) body)
in_statement (Statement-F.Repeat line statements condition) =
    suc (max (most_of statements) (expression_nesting condition))
in_statement (Statement-F.For line variable start direction end body) =
    suc (max (expression_nesting start) (max (expression_nesting end) body))
in_statement (Statement-F.ForIn line variable members body) = suc (max (expression_nesting members) body)
in_statement (Statement-F.With line accesses body) = suc (max (most_of (map access_nesting accesses)) body)

abbrev pub in_arm : fold.ArmOf (fold.statements_as ℕ) → ℕ
in_arm a = max (most_of (map label_nesting a.labels)) a.body

abbrev pub in_compound : fold.CompoundOf (fold.statements_as ℕ) → ℕ
in_compound c = most_of c.statements

abbrev pub in_otherwise : fold.OtherwiseOf (fold.statements_as ℕ) → ℕ
in_otherwise o = most_of o.statements

-- these steps together
abbrev pub in_statements : fold.StatementRules (fold.statements_as ℕ)
in_statements =
    record {
      statement = in_statement;
      arm = in_arm;
      compound = in_compound;
      otherwise = in_otherwise;
    }

abbrev pub statement_nesting : Statement → ℕ
statement_nesting = fold.of_statement in_statements

abbrev pub arm_nesting : Arm → ℕ
arm_nesting = fold.of_arm in_statements

abbrev pub compound_nesting : Compound → ℕ
compound_nesting = fold.of_compound in_statements

abbrev pub otherwise_nesting : Otherwise → ℕ
otherwise_nesting = fold.of_otherwise in_statements

-- ---- routines and the parts of a block

abbrev pub constant_definition_nesting : ConstantDefinition → ℕ
constant_definition_nesting d = component_value_nesting d.value

abbrev pub constants_nesting : Constants → ℕ
constants_nesting c = most_of (map constant_definition_nesting c.definitions)

abbrev pub type_definition_nesting : TypeDefinition → ℕ
type_definition_nesting d = type_denoter_nesting d.of

abbrev pub types_nesting : Types → ℕ
types_nesting t = most_of (map type_definition_nesting t.definitions)

abbrev pub variable_declaration_nesting : VariableDeclaration → ℕ
variable_declaration_nesting d = type_denoter_nesting d.of

abbrev pub variables_nesting : Variables → ℕ
variables_nesting v = most_of (map variable_declaration_nesting v.declarations)

abbrev pub in_part : BlockPart-F ℕ ℕ ℕ → ℕ
in_part (BlockPart-F.Constants c) = constants_nesting c
in_part (BlockPart-F.Types t) = types_nesting t
in_part (BlockPart-F.Variables v) = variables_nesting v
in_part (BlockPart-F.Routine r) = r

abbrev pub in_routine_body : RoutineBody-F ℕ ℕ ℕ → ℕ
in_routine_body (RoutineBody-F.Forward line) = 0
in_routine_body (RoutineBody-F.Block line parts body) = max (most_of parts) (compound_nesting body)

abbrev pub in_routine : Routine-F ℕ ℕ ℕ → ℕ
in_routine r = suc r.body

abbrev pub part_nesting : BlockPart → ℕ
part_nesting = fold-BlockPart ℕ ℕ ℕ in_part in_routine_body in_routine

abbrev pub routine_body_nesting : RoutineBody → ℕ
routine_body_nesting = fold-RoutineBody ℕ ℕ ℕ in_part in_routine_body in_routine

abbrev pub routine_nesting : Routine → ℕ
routine_nesting = fold-Routine ℕ ℕ ℕ in_part in_routine_body in_routine

-- ---- components

abbrev pub heading_part_nesting : HeadingPart → ℕ
heading_part_nesting (heading_part_is.Constants c) = constants_nesting c
heading_part_nesting (heading_part_is.Types t) = types_nesting t
heading_part_nesting (heading_part_is.Variables v) = variables_nesting v
heading_part_nesting (heading_part_is.Routine heading) = 0

abbrev pub heading_nesting : Heading → ℕ
heading_nesting h = most_of (map heading_part_nesting h.parts)

-- the nesting of an initialization or a finalization, if there is one
abbrev pub action_nesting : Option Statement → ℕ
action_nesting None = 0
action_nesting (Some s) = statement_nesting s

abbrev pub block_nesting : Block → ℕ
block_nesting b =
    max (most_of (map part_nesting b.parts)) (max (action_nesting b.initialization) (action_nesting b.finalization))

abbrev pub program_nesting : Program → ℕ
program_nesting p = max (most_of (map part_nesting p.parts)) (compound_nesting p.body)

abbrev pub component_nesting : Component → ℕ
component_nesting (component_is.Program p) = program_nesting p
component_nesting (component_is.Heading h) = heading_nesting h
component_nesting (component_is.Block b) = block_nesting b.block
component_nesting (component_is.Module m) = max (heading_nesting m.heading) (block_nesting m.block)
