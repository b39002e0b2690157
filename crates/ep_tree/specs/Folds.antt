-- Definitions by recursion on trees, as records of rules.
--
-- Such a definition has one rule for each kind of node that can stand inside of one another: fourteen for expressions,
-- eight for types, four for statements. A rule says what a node comes to by what its parts come to: it takes the node
-- with these results in place of its parts. So a definition gives what each kind of node comes to (a value of
-- `ExpressionResults`), the rules (one of `ExpressionRules`; that of an element takes an `ElementOf results`), and for
-- each kind that is asked for `of_element rules`. Routines have three kinds, whose folds stand where they are used.
use Rattle.ep_tree.specs.declared.expression.ComponentValue.TheOpen.{ComponentValue-F, Element-F, Factor-F, Selector-F}
use Rattle.ep_tree.specs.declared.expression.ComponentValue.TheOpen.{Access-F, Addend-F, Argument-F, Comparison-F}
use Rattle.ep_tree.specs.declared.expression.ComponentValue.TheOpen.{Expression-F, Label-F, Multiplier-F, Simple-F}
use Rattle.ep_tree.specs.declared.expression.ComponentValue.TheOpen.{Term-F, Values-F}
use Rattle.ep_tree.specs.declared.expression.ComponentValue.{ComponentValue, fold-ComponentValue}
use Rattle.ep_tree.specs.declared.expression.Element.{Element, fold-Element}
use Rattle.ep_tree.specs.declared.expression.Factor.{Factor, fold-Factor}
use Rattle.ep_tree.specs.declared.expression.Selector.{Selector, fold-Selector}
use Rattle.ep_tree.specs.declared.expression.Access.{Access, fold-Access}
use Rattle.ep_tree.specs.declared.expression.Addend.{Addend, fold-Addend}
use Rattle.ep_tree.specs.declared.expression.Argument.{Argument, fold-Argument}
use Rattle.ep_tree.specs.declared.expression.Comparison.{Comparison, fold-Comparison}
use Rattle.ep_tree.specs.declared.expression.Expression.{Expression, fold-Expression}
use Rattle.ep_tree.specs.declared.expression.Label.{Label, fold-Label}
use Rattle.ep_tree.specs.declared.expression.Multiplier.{Multiplier, fold-Multiplier}
use Rattle.ep_tree.specs.declared.expression.Simple.{Simple, fold-Simple}
use Rattle.ep_tree.specs.declared.expression.Term.{Term, fold-Term}
use Rattle.ep_tree.specs.declared.expression.Values.{Values, fold-Values}
use Rattle.ep_tree.specs.declared.types.Core.TheOpen.{Core-F, Structure-F, FieldSection-F, Fields-F, Plain-F}
use Rattle.ep_tree.specs.declared.types.Core.TheOpen.{TypeDenoter-F, Variant-F, VariantPart-F}
use Rattle.ep_tree.specs.declared.types.Core.{Core, fold-Core}
use Rattle.ep_tree.specs.declared.types.Structure.{Structure, fold-Structure}
use Rattle.ep_tree.specs.declared.types.FieldSection.{FieldSection, fold-FieldSection}
use Rattle.ep_tree.specs.declared.types.Fields.{Fields, fold-Fields}
use Rattle.ep_tree.specs.declared.types.Plain.{Plain, fold-Plain}
use Rattle.ep_tree.specs.declared.types.TypeDenoter.{TypeDenoter, fold-TypeDenoter}
use Rattle.ep_tree.specs.declared.types.Variant.{Variant, fold-Variant}
use Rattle.ep_tree.specs.declared.types.VariantPart.{VariantPart, fold-VariantPart}
use Rattle.ep_tree.specs.declared.statement.Statement.TheOpen.{Statement-F, Arm-F, Compound-F, Otherwise-F}
use Rattle.ep_tree.specs.declared.statement.Statement.{Statement, fold-Statement}
use Rattle.ep_tree.specs.declared.statement.Arm.{Arm, fold-Arm}
use Rattle.ep_tree.specs.declared.statement.Compound.{Compound, fold-Compound}
use Rattle.ep_tree.specs.declared.statement.Otherwise.{Otherwise, fold-Otherwise}

-- ---- expressions and component values

-- what each kind of node of an expression comes to
pub record ExpressionResults : Type 1 where
  pub component_value : Type 0
  pub element : Type 0
  pub factor : Type 0
  pub selector : Type 0
  pub access : Type 0
  pub addend : Type 0
  pub argument : Type 0
  pub comparison : Type 0
  pub expression : Type 0
  pub label : Type 0
  pub multiplier : Type 0
  pub simple : Type 0
  pub term : Type 0
  pub values : Type 0

-- the same for each kind
abbrev pub expressions_as : Type 0 → ExpressionResults
expressions_as A =
    record {
      component_value = A;
      element = A;
      factor = A;
      selector = A;
      access = A;
      addend = A;
      argument = A;
      comparison = A;
      expression = A;
      label = A;
      multiplier = A;
      simple = A;
      term = A;
      values = A;
    }

-- the nodes of one kind, with what their parts come to in their places
abbrev expressions_of :
    (Type 0 → Type 0 → Type 0 → Type 0 → Type 0 → Type 0 → Type 0 →
    Type 0 → Type 0 → Type 0 → Type 0 → Type 0 → Type 0 → Type 0 → Type 0) →
    ExpressionResults → Type 0
expressions_of node r =
    node r.component_value r.element r.factor r.selector r.access r.addend r.argument r.comparison r.expression
    r.label r.multiplier r.simple r.term r.values

abbrev pub ComponentValueOf : ExpressionResults → Type 0
ComponentValueOf = expressions_of ComponentValue-F

abbrev pub ElementOf : ExpressionResults → Type 0
ElementOf = expressions_of Element-F

abbrev pub FactorOf : ExpressionResults → Type 0
FactorOf = expressions_of Factor-F

abbrev pub SelectorOf : ExpressionResults → Type 0
SelectorOf = expressions_of Selector-F

abbrev pub AccessOf : ExpressionResults → Type 0
AccessOf = expressions_of Access-F

abbrev pub AddendOf : ExpressionResults → Type 0
AddendOf = expressions_of Addend-F

abbrev pub ArgumentOf : ExpressionResults → Type 0
ArgumentOf = expressions_of Argument-F

abbrev pub ComparisonOf : ExpressionResults → Type 0
ComparisonOf = expressions_of Comparison-F

abbrev pub ExpressionOf : ExpressionResults → Type 0
ExpressionOf = expressions_of Expression-F

abbrev pub LabelOf : ExpressionResults → Type 0
LabelOf = expressions_of Label-F

abbrev pub MultiplierOf : ExpressionResults → Type 0
MultiplierOf = expressions_of Multiplier-F

abbrev pub SimpleOf : ExpressionResults → Type 0
SimpleOf = expressions_of Simple-F

abbrev pub TermOf : ExpressionResults → Type 0
TermOf = expressions_of Term-F

abbrev pub ValuesOf : ExpressionResults → Type 0
ValuesOf = expressions_of Values-F

-- what each kind of node comes to by that, one rule for each
pub record ExpressionRules (r : ExpressionResults) : Type 0 where
  pub component_value : ComponentValueOf r → r.component_value
  pub element : ElementOf r → r.element
  pub factor : FactorOf r → r.factor
  pub selector : SelectorOf r → r.selector
  pub access : AccessOf r → r.access
  pub addend : AddendOf r → r.addend
  pub argument : ArgumentOf r → r.argument
  pub comparison : ComparisonOf r → r.comparison
  pub expression : ExpressionOf r → r.expression
  pub label : LabelOf r → r.label
  pub multiplier : MultiplierOf r → r.multiplier
  pub simple : SimpleOf r → r.simple
  pub term : TermOf r → r.term
  pub values : ValuesOf r → r.values

-- what a node of each kind comes to by such rules
module _ {r : ExpressionResults} (rules : ExpressionRules r) where
  abbrev pub of_component_value : ComponentValue → r.component_value
  of_component_value =
      fold-ComponentValue r.component_value r.element r.factor r.selector r.access r.addend r.argument
      r.comparison r.expression r.label r.multiplier r.simple r.term r.values
      rules.component_value rules.element rules.factor rules.selector rules.access rules.addend rules.argument
      rules.comparison rules.expression rules.label rules.multiplier rules.simple rules.term rules.values

  abbrev pub of_element : Element → r.element
  of_element =
      fold-Element r.component_value r.element r.factor r.selector r.access r.addend r.argument r.comparison
      r.expression r.label r.multiplier r.simple r.term r.values
      rules.component_value rules.element rules.factor rules.selector rules.access rules.addend rules.argument
      rules.comparison rules.expression rules.label rules.multiplier rules.simple rules.term rules.values

  abbrev pub of_factor : Factor → r.factor
  of_factor =
      fold-Factor r.component_value r.element r.factor r.selector r.access r.addend r.argument r.comparison
      r.expression r.label r.multiplier r.simple r.term r.values
      rules.component_value rules.element rules.factor rules.selector rules.access rules.addend rules.argument
      rules.comparison rules.expression rules.label rules.multiplier rules.simple rules.term rules.values

  abbrev pub of_selector : Selector → r.selector
  of_selector =
      fold-Selector r.component_value r.element r.factor r.selector r.access r.addend r.argument r.comparison
      r.expression r.label r.multiplier r.simple r.term r.values
      rules.component_value rules.element rules.factor rules.selector rules.access rules.addend rules.argument
      rules.comparison rules.expression rules.label rules.multiplier rules.simple rules.term rules.values

  abbrev pub of_access : Access → r.access
  of_access =
      fold-Access r.component_value r.element r.factor r.selector r.access r.addend r.argument r.comparison
      r.expression r.label r.multiplier r.simple r.term r.values
      rules.component_value rules.element rules.factor rules.selector rules.access rules.addend rules.argument
      rules.comparison rules.expression rules.label rules.multiplier rules.simple rules.term rules.values

  abbrev pub of_addend : Addend → r.addend
  of_addend =
      fold-Addend r.component_value r.element r.factor r.selector r.access r.addend r.argument r.comparison
      r.expression r.label r.multiplier r.simple r.term r.values
      rules.component_value rules.element rules.factor rules.selector rules.access rules.addend rules.argument
      rules.comparison rules.expression rules.label rules.multiplier rules.simple rules.term rules.values

  abbrev pub of_argument : Argument → r.argument
  of_argument =
      fold-Argument r.component_value r.element r.factor r.selector r.access r.addend r.argument r.comparison
      r.expression r.label r.multiplier r.simple r.term r.values
      rules.component_value rules.element rules.factor rules.selector rules.access rules.addend rules.argument
      rules.comparison rules.expression rules.label rules.multiplier rules.simple rules.term rules.values

  abbrev pub of_comparison : Comparison → r.comparison
  of_comparison =
      fold-Comparison r.component_value r.element r.factor r.selector r.access r.addend r.argument r.comparison
      r.expression r.label r.multiplier r.simple r.term r.values
      rules.component_value rules.element rules.factor rules.selector rules.access rules.addend rules.argument
      rules.comparison rules.expression rules.label rules.multiplier rules.simple rules.term rules.values

  abbrev pub of_expression : Expression → r.expression
  of_expression =
      fold-Expression r.component_value r.element r.factor r.selector r.access r.addend r.argument r.comparison
      r.expression r.label r.multiplier r.simple r.term r.values
      rules.component_value rules.element rules.factor rules.selector rules.access rules.addend rules.argument
      rules.comparison rules.expression rules.label rules.multiplier rules.simple rules.term rules.values

  abbrev pub of_label : Label → r.label
  of_label =
      fold-Label r.component_value r.element r.factor r.selector r.access r.addend r.argument r.comparison
      r.expression r.label r.multiplier r.simple r.term r.values
      rules.component_value rules.element rules.factor rules.selector rules.access rules.addend rules.argument
      rules.comparison rules.expression rules.label rules.multiplier rules.simple rules.term rules.values

  abbrev pub of_multiplier : Multiplier → r.multiplier
  of_multiplier =
      fold-Multiplier r.component_value r.element r.factor r.selector r.access r.addend r.argument r.comparison
      r.expression r.label r.multiplier r.simple r.term r.values
      rules.component_value rules.element rules.factor rules.selector rules.access rules.addend rules.argument
      rules.comparison rules.expression rules.label rules.multiplier rules.simple rules.term rules.values

  abbrev pub of_simple : Simple → r.simple
  of_simple =
      fold-Simple r.component_value r.element r.factor r.selector r.access r.addend r.argument r.comparison
      r.expression r.label r.multiplier r.simple r.term r.values
      rules.component_value rules.element rules.factor rules.selector rules.access rules.addend rules.argument
      rules.comparison rules.expression rules.label rules.multiplier rules.simple rules.term rules.values

  abbrev pub of_term : Term → r.term
  of_term =
      fold-Term r.component_value r.element r.factor r.selector r.access r.addend r.argument r.comparison
      r.expression r.label r.multiplier r.simple r.term r.values
      rules.component_value rules.element rules.factor rules.selector rules.access rules.addend rules.argument
      rules.comparison rules.expression rules.label rules.multiplier rules.simple rules.term rules.values

  abbrev pub of_values : Values → r.values
  of_values =
      fold-Values r.component_value r.element r.factor r.selector r.access r.addend r.argument r.comparison
      r.expression r.label r.multiplier r.simple r.term r.values
      rules.component_value rules.element rules.factor rules.selector rules.access rules.addend rules.argument
      rules.comparison rules.expression rules.label rules.multiplier rules.simple rules.term rules.values

-- ---- types

-- what each kind of node of a type comes to
pub record TypeResults : Type 1 where
  pub core : Type 0
  pub structure : Type 0
  pub field_section : Type 0
  pub fields : Type 0
  pub plain : Type 0
  pub type_denoter : Type 0
  pub variant : Type 0
  pub variant_part : Type 0

-- the same for each kind
abbrev pub types_as : Type 0 → TypeResults
types_as A =
    record {
      core = A;
      structure = A;
      field_section = A;
      fields = A;
      plain = A;
      type_denoter = A;
      variant = A;
      variant_part = A;
    }

-- the nodes of one kind, with what their parts come to in their places
abbrev types_of :
    (Type 0 → Type 0 → Type 0 → Type 0 → Type 0 → Type 0 → Type 0 → Type 0 → Type 0) →
    TypeResults → Type 0
types_of node r =
    node r.core r.structure r.field_section r.fields r.plain r.type_denoter r.variant r.variant_part

abbrev pub CoreOf : TypeResults → Type 0
CoreOf = types_of Core-F

abbrev pub StructureOf : TypeResults → Type 0
StructureOf = types_of Structure-F

abbrev pub FieldSectionOf : TypeResults → Type 0
FieldSectionOf = types_of FieldSection-F

abbrev pub FieldsOf : TypeResults → Type 0
FieldsOf = types_of Fields-F

abbrev pub PlainOf : TypeResults → Type 0
PlainOf = types_of Plain-F

abbrev pub TypeDenoterOf : TypeResults → Type 0
TypeDenoterOf = types_of TypeDenoter-F

abbrev pub VariantOf : TypeResults → Type 0
VariantOf = types_of Variant-F

abbrev pub VariantPartOf : TypeResults → Type 0
VariantPartOf = types_of VariantPart-F

-- what each kind of node comes to by that, one rule for each
pub record TypeRules (r : TypeResults) : Type 0 where
  pub core : CoreOf r → r.core
  pub structure : StructureOf r → r.structure
  pub field_section : FieldSectionOf r → r.field_section
  pub fields : FieldsOf r → r.fields
  pub plain : PlainOf r → r.plain
  pub type_denoter : TypeDenoterOf r → r.type_denoter
  pub variant : VariantOf r → r.variant
  pub variant_part : VariantPartOf r → r.variant_part

-- what a node of each kind comes to by such rules
module _ {r : TypeResults} (rules : TypeRules r) where
  abbrev pub of_core : Core → r.core
  of_core =
      fold-Core r.core r.structure r.field_section r.fields r.plain r.type_denoter r.variant r.variant_part
      rules.core rules.structure rules.field_section rules.fields rules.plain rules.type_denoter rules.variant
      rules.variant_part

  abbrev pub of_structure : Structure → r.structure
  of_structure =
      fold-Structure r.core r.structure r.field_section r.fields r.plain r.type_denoter r.variant r.variant_part
      rules.core rules.structure rules.field_section rules.fields rules.plain rules.type_denoter rules.variant
      rules.variant_part

  abbrev pub of_field_section : FieldSection → r.field_section
  of_field_section =
      fold-FieldSection r.core r.structure r.field_section r.fields r.plain r.type_denoter r.variant
      r.variant_part
      rules.core rules.structure rules.field_section rules.fields rules.plain rules.type_denoter rules.variant
      rules.variant_part

  abbrev pub of_fields : Fields → r.fields
  of_fields =
      fold-Fields r.core r.structure r.field_section r.fields r.plain r.type_denoter r.variant r.variant_part
      rules.core rules.structure rules.field_section rules.fields rules.plain rules.type_denoter rules.variant
      rules.variant_part

  abbrev pub of_plain : Plain → r.plain
  of_plain =
      fold-Plain r.core r.structure r.field_section r.fields r.plain r.type_denoter r.variant r.variant_part
      rules.core rules.structure rules.field_section rules.fields rules.plain rules.type_denoter rules.variant
      rules.variant_part

  abbrev pub of_type_denoter : TypeDenoter → r.type_denoter
  of_type_denoter =
      fold-TypeDenoter r.core r.structure r.field_section r.fields r.plain r.type_denoter r.variant
      r.variant_part
      rules.core rules.structure rules.field_section rules.fields rules.plain rules.type_denoter rules.variant
      rules.variant_part

  abbrev pub of_variant : Variant → r.variant
  of_variant =
      fold-Variant r.core r.structure r.field_section r.fields r.plain r.type_denoter r.variant r.variant_part
      rules.core rules.structure rules.field_section rules.fields rules.plain rules.type_denoter rules.variant
      rules.variant_part

  abbrev pub of_variant_part : VariantPart → r.variant_part
  of_variant_part =
      fold-VariantPart r.core r.structure r.field_section r.fields r.plain r.type_denoter r.variant
      r.variant_part
      rules.core rules.structure rules.field_section rules.fields rules.plain rules.type_denoter rules.variant
      rules.variant_part

-- ---- statements

-- what each kind of node of a statement comes to
pub record StatementResults : Type 1 where
  pub statement : Type 0
  pub arm : Type 0
  pub compound : Type 0
  pub otherwise : Type 0

-- the same for each kind
abbrev pub statements_as : Type 0 → StatementResults
statements_as A =
    record {
      statement = A;
      arm = A;
      compound = A;
      otherwise = A;
    }

-- the nodes of one kind, with what their parts come to in their places
abbrev statements_of : (Type 0 → Type 0 → Type 0 → Type 0 → Type 0) → StatementResults → Type 0
statements_of node r = node r.statement r.arm r.compound r.otherwise

abbrev pub StatementOf : StatementResults → Type 0
StatementOf = statements_of Statement-F

abbrev pub ArmOf : StatementResults → Type 0
ArmOf = statements_of Arm-F

abbrev pub CompoundOf : StatementResults → Type 0
CompoundOf = statements_of Compound-F

abbrev pub OtherwiseOf : StatementResults → Type 0
OtherwiseOf = statements_of Otherwise-F

-- what each kind of node comes to by that, one rule for each
pub record StatementRules (r : StatementResults) : Type 0 where
  pub statement : StatementOf r → r.statement
  pub arm : ArmOf r → r.arm
  pub compound : CompoundOf r → r.compound
  pub otherwise : OtherwiseOf r → r.otherwise

-- what a node of each kind comes to by such rules
module _ {r : StatementResults} (rules : StatementRules r) where
  abbrev pub of_statement : Statement → r.statement
  of_statement =
      fold-Statement r.statement r.arm r.compound r.otherwise
      rules.statement rules.arm rules.compound rules.otherwise

  abbrev pub of_arm : Arm → r.arm
  of_arm =
      fold-Arm r.statement r.arm r.compound r.otherwise
      rules.statement rules.arm rules.compound rules.otherwise

  abbrev pub of_compound : Compound → r.compound
  of_compound =
      fold-Compound r.statement r.arm r.compound r.otherwise
      rules.statement rules.arm rules.compound rules.otherwise

  abbrev pub of_otherwise : Otherwise → r.otherwise
  of_otherwise =
      fold-Otherwise r.statement r.arm r.compound r.otherwise
      rules.statement rules.arm rules.compound rules.otherwise
