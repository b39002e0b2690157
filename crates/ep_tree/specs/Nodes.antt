-- The nodes of the trees, as functions of their parts.
use Rattle.std.specs.Prelude.{ℕ, Bool, List, Option}
use Rattle.ep_tree.specs.declared.operator.QualifiedName.{QualifiedName}
use Rattle.ep_tree.specs.declared.operator.RelationalOperator.{RelationalOperator}
use Rattle.ep_tree.specs.declared.operator.Sign.{Sign}
use Rattle.ep_tree.specs.declared.operator.AddingOperator.{AddingOperator}
use Rattle.ep_tree.specs.declared.operator.MultiplyingOperator.{MultiplyingOperator}
use Rattle.ep_tree.specs.declared.expression.Expression.{Expression, roll-Expression}
use Rattle.ep_tree.specs.declared.expression.Comparison.{Comparison, roll-Comparison}
use Rattle.ep_tree.specs.declared.expression.Simple.{Simple, roll-Simple}
use Rattle.ep_tree.specs.declared.expression.Addend.{Addend, roll-Addend}
use Rattle.ep_tree.specs.declared.expression.Term.{Term, roll-Term}
use Rattle.ep_tree.specs.declared.expression.Multiplier.{Multiplier, roll-Multiplier}
use Rattle.ep_tree.specs.declared.expression.Factor.{Factor}
use Rattle.ep_tree.specs.declared.expression.Access.{Access, roll-Access}
use Rattle.ep_tree.specs.declared.expression.Selector.{Selector}
use Rattle.ep_tree.specs.declared.expression.Argument.{Argument, roll-Argument}
use Rattle.ep_tree.specs.declared.expression.Label.{Label, roll-Label}
use Rattle.ep_tree.specs.declared.expression.ComponentValue.{ComponentValue}
use Rattle.ep_tree.specs.declared.expression.Values.{Values, roll-Values}
use Rattle.ep_tree.specs.declared.expression.Element.{Element}
use Rattle.ep_tree.specs.declared.component.Block.{Block}
use Rattle.ep_tree.specs.declared.component.Export.{Export}
use Rattle.ep_tree.specs.declared.component.ExportItem.{ExportItem}
use Rattle.ep_tree.specs.declared.component.Heading.{Heading}
use Rattle.ep_tree.specs.declared.component.HeadingPart.{HeadingPart}
use Rattle.ep_tree.specs.declared.component.Implementation.{Implementation}
use Rattle.ep_tree.specs.declared.component.Import.{Import}
use Rattle.ep_tree.specs.declared.component.ImportItem.{ImportItem}
use Rattle.ep_tree.specs.declared.component.Module.{Module}
use Rattle.ep_tree.specs.declared.component.Program.{Program}
use Rattle.ep_tree.specs.declared.declaration.ConstantDefinition.{ConstantDefinition}
use Rattle.ep_tree.specs.declared.declaration.Constants.{Constants}
use Rattle.ep_tree.specs.declared.declaration.DiscriminantSection.{DiscriminantSection}
use Rattle.ep_tree.specs.declared.declaration.FormalSection.{FormalSection}
use Rattle.ep_tree.specs.declared.declaration.FormalType.{FormalType}
use Rattle.ep_tree.specs.declared.declaration.TypeDefinition.{TypeDefinition}
use Rattle.ep_tree.specs.declared.declaration.Types.{Types}
use Rattle.ep_tree.specs.declared.declaration.VariableDeclaration.{VariableDeclaration}
use Rattle.ep_tree.specs.declared.declaration.Variables.{Variables}
use Rattle.ep_tree.specs.declared.routine.BlockPart.{BlockPart}
use Rattle.ep_tree.specs.declared.routine.Routine.{Routine, roll-Routine}
use Rattle.ep_tree.specs.declared.routine.RoutineBody.{RoutineBody}
use Rattle.ep_tree.specs.declared.routine.RoutineStart.{RoutineStart}
use Rattle.ep_tree.specs.declared.statement.Arm.{Arm, roll-Arm}
use Rattle.ep_tree.specs.declared.statement.Compound.{Compound, roll-Compound}
use Rattle.ep_tree.specs.declared.statement.Otherwise.{Otherwise, roll-Otherwise}
use Rattle.ep_tree.specs.declared.statement.Statement.{Statement}
use Rattle.ep_tree.specs.declared.types.Core.{Core}
use Rattle.ep_tree.specs.declared.types.FieldSection.{FieldSection, roll-FieldSection}
use Rattle.ep_tree.specs.declared.types.Fields.{Fields, roll-Fields}
use Rattle.ep_tree.specs.declared.types.Plain.{Plain, roll-Plain}
use Rattle.ep_tree.specs.declared.types.TypeDenoter.{TypeDenoter, roll-TypeDenoter}
use Rattle.ep_tree.specs.declared.types.Variant.{Variant, roll-Variant}
use Rattle.ep_tree.specs.declared.types.VariantPart.{VariantPart, roll-VariantPart}
use Rattle.ep_tree.specs.declared.types.VariantSelector.{VariantSelector}

abbrev pub qualified_node : ℕ → List ℕ → Option (List ℕ) → QualifiedName
qualified_node line first second = record { line = line; first = first; second = second }

abbrev pub expression_node : ℕ → Simple → Option Comparison → Expression
expression_node line left right = roll-Expression (record { line = line; left = left; right = right })

abbrev pub comparison_node : RelationalOperator → Simple → Comparison
comparison_node operator right = roll-Comparison (record { operator = operator; right = right })

abbrev pub simple_node : ℕ → Option Sign → Term → List Addend → Simple
simple_node line sign first more = roll-Simple (record { line = line; sign = sign; first = first; more = more })

abbrev pub addend_node : AddingOperator → Term → Addend
addend_node operator term = roll-Addend (record { operator = operator; term = term })

abbrev pub term_node : ℕ → Factor → List Multiplier → Term
term_node line first more = roll-Term (record { line = line; first = first; more = more })

abbrev pub multiplier_node : MultiplyingOperator → Factor → Multiplier
multiplier_node operator factor = roll-Multiplier (record { operator = operator; factor = factor })

abbrev pub access_node : ℕ → List ℕ → List Selector → Access
access_node line name selectors = roll-Access (record { line = line; name = name; selectors = selectors })

abbrev pub argument_node : ℕ → Expression → Option Expression → Argument
argument_node line value width = roll-Argument (record { line = line; value = value; width = width })

abbrev pub label_node : ℕ → Expression → Option Expression → Label
label_node line low high = roll-Label (record { line = line; low = low; high = high })

abbrev pub values_node : ℕ → List Element → Option ComponentValue → Values
values_node line elements otherwise = roll-Values (record { line = line; elements = elements; otherwise = otherwise })

abbrev pub type_denoter_node : ℕ → Plain → Option ComponentValue → TypeDenoter
type_denoter_node line plain initial = roll-TypeDenoter (record { line = line; plain = plain; initial = initial })

abbrev pub plain_node : ℕ → Bool → Core → Plain
plain_node line bindable core = roll-Plain (record { line = line; bindable = bindable; core = core })

abbrev pub fields_node : ℕ → List FieldSection → Option VariantPart → Fields
fields_node line sections variants = roll-Fields (record { line = line; sections = sections; variants = variants })

abbrev pub field_section_node : ℕ → List (List ℕ) → TypeDenoter → FieldSection
field_section_node line names of = roll-FieldSection (record { line = line; names = names; of = of })

abbrev pub variant_part_node : ℕ → VariantSelector → List Variant → Option Fields → VariantPart
variant_part_node line selector variants otherwise =
    roll-VariantPart (record { line = line; selector = selector; variants = variants; otherwise = otherwise })

abbrev pub variant_node : ℕ → List Label → Fields → Variant
variant_node line labels fields = roll-Variant (record { line = line; labels = labels; fields = fields })

abbrev pub constants_node : ℕ → List ConstantDefinition → Constants
constants_node line definitions = record { line = line; definitions = definitions }

abbrev pub constant_definition_node : ℕ → List ℕ → ComponentValue → ConstantDefinition
constant_definition_node line name value = record { line = line; name = name; value = value }

abbrev pub types_node : ℕ → List TypeDefinition → Types
types_node line definitions = record { line = line; definitions = definitions }

abbrev pub type_definition_node : ℕ → List ℕ → List DiscriminantSection → TypeDenoter → TypeDefinition
type_definition_node line name discriminants of =
    record { line = line; name = name; discriminants = discriminants; of = of }

abbrev pub discriminant_section_node : ℕ → List (List ℕ) → QualifiedName → DiscriminantSection
discriminant_section_node line names of = record { line = line; names = names; of = of }

abbrev pub variables_node : ℕ → List VariableDeclaration → Variables
variables_node line declarations = record { line = line; declarations = declarations }

abbrev pub variable_declaration_node : ℕ → List (List ℕ) → TypeDenoter → VariableDeclaration
variable_declaration_node line names of = record { line = line; names = names; of = of }

abbrev pub formal_section_node : ℕ → Bool → Bool → List (List ℕ) → FormalType → FormalSection
formal_section_node line protected variable names of =
    record { line = line; protected = protected; variable = variable; names = names; of = of }

abbrev pub compound_node : ℕ → List Statement → Compound
compound_node line statements = roll-Compound (record { line = line; statements = statements })

abbrev pub arm_node : ℕ → List Label → Statement → Arm
arm_node line labels body = roll-Arm (record { line = line; labels = labels; body = body })

abbrev pub otherwise_node : ℕ → List Statement → Otherwise
otherwise_node line statements = roll-Otherwise (record { line = line; statements = statements })

abbrev pub routine_node : ℕ → RoutineStart → RoutineBody → Routine
routine_node line start body = roll-Routine (record { line = line; start = start; body = body })

abbrev pub program_node : ℕ → List ℕ → List (List ℕ) → List Import → List BlockPart → Compound → Program
program_node line name parameters imports parts body =
    record { line = line; name = name; parameters = parameters; imports = imports; parts = parts; body = body }

abbrev pub module_node : ℕ → Heading → Block → Module
module_node line heading block = record { line = line; heading = heading; block = block }

abbrev pub implementation_node : ℕ → List ℕ → Block → Implementation
implementation_node line name block = record { line = line; name = name; block = block }

abbrev pub heading_node : ℕ → List ℕ → List (List ℕ) → List Export → List Import → List HeadingPart → Heading
heading_node line name parameters exports imports parts =
    record { line = line; name = name; parameters = parameters; exports = exports; imports = imports; parts = parts }

abbrev pub block_node : ℕ → List Import → List BlockPart → Option Statement → Option Statement → Block
block_node line imports parts initialization finalization =
    record {
      line = line;
      imports = imports;
      parts = parts;
      initialization = initialization;
      finalization = finalization;
    }

abbrev pub export_node : ℕ → List ℕ → List ExportItem → Export
export_node line name items = record { line = line; name = name; items = items }

abbrev pub import_node : ℕ → List ℕ → Bool → Bool → List ImportItem → Import
import_node line interface qualified only items =
    record { line = line; interface = interface; qualified = qualified; only = only; items = items }

abbrev pub import_item_node : ℕ → List ℕ → Option (List ℕ) → ImportItem
import_item_node line name renamed = record { line = line; name = name; renamed = renamed }
