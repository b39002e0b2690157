-- What the static rules say of each expression, by its parts: one clause for each production (ISO 10206, 6.8.1).
use Rattle.std.specs.Prelude.{ℕ, pos, List, [], ◌∷◌, map, Option, Some, None}
use Rattle.std.specs.Option.{option_map}
use Rattle.ep_tree.specs.Folds as fold
use Rattle.ep_tree.specs.Shapes.{when_empty, when_none, when_plain}
use Rattle.ep_tree.specs.declared.operator.RelationalOperator.{RelationalOperator}
use Rattle.ep_tree.specs.declared.operator.AddingOperator.{AddingOperator}
use Rattle.ep_tree.specs.declared.operator.MultiplyingOperator.{MultiplyingOperator}
use Rattle.ep_tree.specs.declared.expression.ComponentValue.TheOpen.{ComponentValue-F, Element-F, Factor-F, Selector-F}
use Rattle.ep_tree.specs.declared.expression.ComponentValue.TheOpen.{Access-F, Addend-F, Argument-F, Comparison-F}
use Rattle.ep_tree.specs.declared.expression.ComponentValue.TheOpen.{Expression-F, Label-F, Multiplier-F, Simple-F}
use Rattle.ep_tree.specs.declared.expression.ComponentValue.TheOpen.{Term-F, Values-F}
use Rattle.ep_tree.specs.declared.expression.ComponentValue.{ComponentValue}
use Rattle.ep_tree.specs.declared.expression.Element.{Element}
use Rattle.ep_tree.specs.declared.expression.Values.{Values}
use Rattle.ep_tree.specs.declared.expression.Factor.{Factor}
use Rattle.ep_tree.specs.declared.expression.Selector.{Selector}
use Rattle.ep_tree.specs.declared.expression.Access.{Access}
use Rattle.ep_tree.specs.declared.expression.Addend.{Addend}
use Rattle.ep_tree.specs.declared.expression.Argument.{Argument}
use Rattle.ep_tree.specs.declared.expression.Comparison.{Comparison}
use Rattle.ep_tree.specs.declared.expression.Expression.{Expression}
use Rattle.ep_tree.specs.declared.expression.Label.{Label as LabelTree}
use Rattle.ep_tree.specs.declared.expression.Multiplier.{Multiplier}
use Rattle.ep_tree.specs.declared.expression.Simple.{Simple}
use Rattle.ep_tree.specs.declared.expression.Term.{Term}
use Rattle.ep_typed.specs.Trees as tree
use Rattle.ep_scope.specs.Scopes.{Region, depth_in, meant}
use Rattle.ep_scope.specs.declared.kind.Host.TheVariants as host
use Rattle.ep_scope.specs.declared.kind.Kind.TheVariants as kind
use Rattle.ep_rules.specs.declared.access.Access.TheVariants as access
use Rattle.ep_rules.specs.Constructors.{Label, set_judged}
use Rattle.ep_rules.specs.FieldDesignators.{designated}
use Rattle.ep_rules.specs.Functions.{Given}
use Rattle.ep_rules.specs.Indexing.{indexed_all}
use Rattle.ep_rules.specs.Judgements.{Judged, Accepts, Typed, unbuilt, when_accepted, both}
use Rattle.ep_rules.specs.Names.{leaf, spelled, parenthesized, value_named, call_named, qualified_value}
use Rattle.ep_check_expr.specs.StructuredValues.{Components, Labelled, Valued, Written, bracketed, chosen_written}
use Rattle.ep_check_expr.specs.StructuredValues.{named_number, structure_judged}
use Rattle.ep_rules.specs.Operators.{signed, negated, added, multiplied, compared}

-- an operand with the operator before it
pub record Operand (O : Type 0) : Type 0 where
  pub operator : O
  pub operand : Judged Typed

-- what the rules say of an expression or of a part of one, and the name that it is alone, if it is one
pub record Said : Type 0 where
  pub judged : Judged Typed
  pub alone : Option (List ℕ)

-- what is no name alone
abbrev pub valued : Judged Typed → Said
valued x = record { judged = x; alone = None }

-- operands after a first one, from left to right
abbrev pub chained : {O : Type 0} → (O → Typed → Typed → Judged Typed) → Judged Typed → List (Operand O) → Judged Typed
chained rule first [] = first
chained rule first (o ∷ os) = chained rule (both (rule o.operator) first o.operand) os

-- what follows the name of an access
pub data Selected : Type 0 where
  Field : (name : List ℕ) → Selected
  Indexes : (indexes : List (Judged Typed)) → Selected
  Arguments : (given : List Given) → Selected
  Other : Selected

-- a character string of one byte is a char, and any other one a text (ISO 10206, 6.1.9)
abbrev pub string_judged : List ℕ → Judged Typed
string_judged (byte ∷ []) = spelled host.Char (pos byte)
string_judged bytes = leaf (tree.Text bytes) kind.Text access.Value

-- an expression, with the second half of a comparison where it has one
abbrev pub compared_if : Judged Typed → Option (Operand RelationalOperator) → Judged Typed
compared_if left None = left
compared_if left (Some right) = both (compared right.operator) left right.operand

-- what the rules say of each kind of node
abbrev pub results : fold.ExpressionResults
results =
    record {
      component_value = Valued;
      element = Written;
      factor = Said;
      selector = Selected;
      access = Said;
      addend = Operand AddingOperator;
      argument = Given;
      comparison = Operand RelationalOperator;
      expression = Said;
      label = Label;
      multiplier = Operand MultiplyingOperator;
      simple = Said;
      term = Said;
      values = Components;
    }

module _ (scopes : List Region) where
  -- what has these selectors, from left to right; `a[i, j]` is `a[i][j]` (ISO 10206, 6.5.3). They are built where they
  -- are
  -- indexes and fields alone.
  abbrev pub selected_all : Judged Typed → List Selected → Judged Typed
  selected_all x [] = x
  selected_all x (Indexes is ∷ more) = selected_all (indexed_all scopes x is) more
  selected_all x (Field name ∷ more) = selected_all (when_accepted (designated scopes name) x) more
  selected_all x (Arguments given ∷ more) = unbuilt
  selected_all x (Other ∷ more) = unbuilt

  -- a name with arguments; or a name, one that an interface has or a field; each alone or with what follows
  abbrev pub access_judged : List ℕ → List Selected → Judged Typed
  access_judged name (Arguments given ∷ more) =
      selected_all (call_named (depth_in scopes) name (meant scopes name) given) more
  access_judged name (Field field ∷ more) = selected_all (qualified_value scopes name field) more
  access_judged name selectors = selected_all (value_named (depth_in scopes) name (meant scopes name)) selectors

  -- the results of the parts of a node
  abbrev pub at_component_value : fold.ComponentValueOf results → Valued
  at_component_value (ComponentValue-F.Expression e) = λ asked. e.judged
  at_component_value (ComponentValue-F.Bracketed line values) = bracketed scopes values

  abbrev pub at_element : fold.ElementOf results → Written
  at_element (Element-F.Labelled line labels value) = Labelled labels value
  at_element (Element-F.Variant line name tag values) = chosen_written name tag.judged values

  abbrev pub at_factor : fold.FactorOf results → Said
  at_factor (Factor-F.Access access) = access
  at_factor (Factor-F.Number line number) = valued (spelled host.Integer number)
  at_factor (Factor-F.Text line bytes) = valued (string_judged bytes)
  at_factor (Factor-F.Nil line) = valued unbuilt
  at_factor (Factor-F.Parenthesized line inner) = valued (when_accepted (λ x. Accepts (parenthesized x)) inner.judged)
  at_factor (Factor-F.Not line inner) = valued (when_accepted negated inner.judged)
  at_factor (Factor-F.Set line labels) = valued (set_judged labels)
  at_factor (Factor-F.Structured line name values) =
      valued (when_accepted (structure_judged scopes values) (named_number scopes name.first name.second))

  abbrev pub at_selector : fold.SelectorOf results → Selected
  at_selector (Selector-F.Field line name) = Field name
  at_selector (Selector-F.Index line indexes) = Indexes (map (λ x. x.judged) indexes)
  at_selector (Selector-F.Dereference line) = Other
  at_selector (Selector-F.Arguments line arguments) = Arguments arguments

  abbrev pub at_access : fold.AccessOf results → Said
  at_access a = record { judged = access_judged a.name a.selectors; alone = when_plain a.selectors a.name }

  abbrev pub at_addend : fold.AddendOf results → Operand AddingOperator
  at_addend a = record { operator = a.operator; operand = a.term.judged }

  abbrev pub at_argument : fold.ArgumentOf results → Given
  at_argument a = record { value = a.value.judged; width = option_map (λ x. x.judged) a.width }

  abbrev pub at_comparison : fold.ComparisonOf results → Operand RelationalOperator
  at_comparison c = record { operator = c.operator; operand = c.right.judged }

  abbrev pub at_expression : fold.ExpressionOf results → Said
  at_expression e = record { judged = compared_if e.left.judged e.right; alone = when_none e.right e.left.alone }

  abbrev pub at_label : fold.LabelOf results → Label
  at_label l =
      record { low = l.low.judged; high = option_map (λ x. x.judged) l.high; name = when_none l.high l.low.alone }

  abbrev pub at_multiplier : fold.MultiplierOf results → Operand MultiplyingOperator
  at_multiplier m = record { operator = m.operator; operand = m.factor.judged }

  -- a sign belongs to the first term (ISO 10206, 6.8.3.2)
  abbrev pub at_simple : fold.SimpleOf results → Said
  at_simple s =
      record {
        judged = chained added (when_accepted (signed s.sign) s.first.judged) s.more;
        alone = when_none s.sign (when_empty s.more s.first.alone);
      }

  abbrev pub at_term : fold.TermOf results → Said
  at_term t = record { judged = chained multiplied t.first.judged t.more; alone = when_empty t.more t.first.alone }

  abbrev pub at_values : fold.ValuesOf results → Components
  at_values v = record { elements = v.elements; otherwise = v.otherwise }

  -- these rules together
  abbrev pub rules : fold.ExpressionRules results
  rules =
      record {
        component_value = at_component_value;
        element = at_element;
        factor = at_factor;
        selector = at_selector;
        access = at_access;
        addend = at_addend;
        argument = at_argument;
        comparison = at_comparison;
        expression = at_expression;
        label = at_label;
        multiplier = at_multiplier;
        simple = at_simple;
        term = at_term;
        values = at_values;
      }

  -- what the rules say of an expression
  abbrev pub expression_said : Expression → Said
  expression_said = fold.of_expression rules

  abbrev pub judged : Expression → Judged Typed
  judged x = (expression_said x).judged

  -- of the parts of expressions
  abbrev pub simple_said : Simple → Said
  simple_said = fold.of_simple rules

  abbrev pub simple_judged : Simple → Judged Typed
  simple_judged x = (simple_said x).judged

  abbrev pub term_said : Term → Said
  term_said = fold.of_term rules

  abbrev pub term_judged : Term → Judged Typed
  term_judged x = (term_said x).judged

  abbrev pub factor_said : Factor → Said
  factor_said = fold.of_factor rules

  abbrev pub factor_judged : Factor → Judged Typed
  factor_judged x = (factor_said x).judged

  abbrev pub addend_judged : Addend → Operand AddingOperator
  addend_judged = fold.of_addend rules

  abbrev pub multiplier_judged : Multiplier → Operand MultiplyingOperator
  multiplier_judged = fold.of_multiplier rules

  abbrev pub comparison_judged : Comparison → Operand RelationalOperator
  comparison_judged = fold.of_comparison rules

  abbrev pub name_said : Access → Said
  name_said = fold.of_access rules

  abbrev pub name_judged : Access → Judged Typed
  name_judged x = (name_said x).judged

  abbrev pub selected : Selector → Selected
  selected = fold.of_selector rules

  -- of a label of a set constructor
  abbrev pub labelled : LabelTree → Label
  labelled = fold.of_label rules

  -- of an argument of a call
  abbrev pub given : Argument → Given
  given = fold.of_argument rules

  -- of the value of a definition or of an assignment
  abbrev pub judged_value : ComponentValue → Valued
  judged_value = fold.of_component_value rules

  -- of what is written for components
  abbrev pub element_written : Element → Written
  element_written = fold.of_element rules

  -- of what stands in the brackets of a structured value
  abbrev pub components_written : Values → Components
  components_written = fold.of_values rules
