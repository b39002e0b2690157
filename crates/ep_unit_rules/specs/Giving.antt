-- Whether the text of statements gives the variable of a name a value (ISO 10206, 6.7.2 and 6.9.4): they assign to it
-- or to a component of it, give it or a component of it as an argument, or name it in a `with` or as control variable.
-- What the name means there, and which parameter an argument is for, no text tells.
use Rattle.std.specs.Prelude.{ℕ, Bool, true, false, ◌&&◌, ◌||◌, List, [], ◌∷◌, map, Option, Some, None, is_none}
use Rattle.std.specs.Str.{bytes_eq}
use Rattle.ep_tree.specs.Folds as fold
use Rattle.ep_tree.specs.declared.expression.ComponentValue.TheOpen.{ComponentValue-F, Element-F, Factor-F, Selector-F}
use Rattle.ep_tree.specs.declared.expression.ComponentValue.{ComponentValue}
use Rattle.ep_tree.specs.declared.expression.Element.{Element}
use Rattle.ep_tree.specs.declared.expression.Factor.{Factor}
use Rattle.ep_tree.specs.declared.expression.Selector.{Selector}
use Rattle.ep_tree.specs.declared.expression.Access.{Access}
use Rattle.ep_tree.specs.declared.expression.Addend.{Addend}
use Rattle.ep_tree.specs.declared.expression.Argument.{Argument}
use Rattle.ep_tree.specs.declared.expression.Expression.{Expression}
use Rattle.ep_tree.specs.declared.expression.Label.{Label}
use Rattle.ep_tree.specs.declared.expression.Multiplier.{Multiplier}
use Rattle.ep_tree.specs.declared.expression.Simple.{Simple}
use Rattle.ep_tree.specs.declared.expression.Term.{Term}
use Rattle.ep_tree.specs.declared.expression.Values.{Values}
use Rattle.ep_tree.specs.declared.statement.Statement.TheOpen.{Statement-F}
use Rattle.ep_tree.specs.declared.statement.Statement.{Statement}
use Rattle.ep_tree.specs.declared.statement.Arm.{Arm}
use Rattle.ep_tree.specs.declared.statement.Compound.{Compound}
use Rattle.ep_threats.specs.Threats.{any_true, true_if}

-- ---- expressions

-- what may be an access alone comes to whether it gives the variable where it is an argument, and where it is none
abbrev pub Alone : Type 0
Alone = Bool → Bool

abbrev pub giving_results : fold.ExpressionResults
giving_results =
    record {
      component_value = Bool;
      element = Bool;
      factor = Alone;
      selector = Bool;
      access = Alone;
      addend = Bool;
      argument = Bool;
      comparison = Bool;
      expression = Alone;
      label = Bool;
      multiplier = Bool;
      simple = Alone;
      term = Alone;
      values = Bool;
    }

-- one of these gives it, none of which is an argument
abbrev pub any_inside : List Alone → Bool
any_inside [] = false
any_inside (g ∷ gs) = g false || any_inside gs

-- what is there gives it
abbrev pub inside_if : Option Alone → Bool
inside_if None = false
inside_if (Some g) = g false

-- the first of several stands alone where no other one follows
abbrev pub with_others : Alone → List Bool → Alone
with_others g [] alone = g alone
with_others g (b ∷ bs) alone = g false || any_true (b ∷ bs)

-- so does the left side where there is no right one
abbrev pub with_right : Alone → Option Bool → Alone
with_right g None alone = g alone
with_right g (Some b) alone = g false || b

module _ (name : List ℕ) where
  abbrev pub in_expression : fold.ExpressionOf giving_results → Alone
  in_expression e alone = with_right e.left e.right alone

  abbrev pub in_comparison : fold.ComparisonOf giving_results → Bool
  in_comparison c = c.right false

  abbrev pub in_simple : fold.SimpleOf giving_results → Alone
  in_simple s alone = with_others s.first s.more (alone && is_none s.sign)

  abbrev pub in_addend : fold.AddendOf giving_results → Bool
  in_addend a = a.term false

  abbrev pub in_term : fold.TermOf giving_results → Alone
  in_term t alone = with_others t.first t.more alone

  abbrev pub in_multiplier : fold.MultiplierOf giving_results → Bool
  in_multiplier m = m.factor false

  abbrev pub in_factor : fold.FactorOf giving_results → Alone
  in_factor (Factor-F.Access access) alone = access alone
  in_factor (Factor-F.Number line number) alone = false
  in_factor (Factor-F.Text line text) alone = false
  in_factor (Factor-F.Nil line) alone = false
  in_factor (Factor-F.Parenthesized line inner) alone = inner false
  in_factor (Factor-F.Not line inner) alone = inner false
  in_factor (Factor-F.Set line labels) alone = any_true labels
  in_factor (Factor-F.Structured line of values) alone = values

  -- the variable or a component of it, as an argument, or what stands in its selectors
  abbrev pub in_access : fold.AccessOf giving_results → Alone
  in_access a alone = alone && bytes_eq a.name name || any_true a.selectors

  abbrev pub in_selector : fold.SelectorOf giving_results → Bool
  in_selector (Selector-F.Field line field) = false
  in_selector (Selector-F.Index line indexes) = any_inside indexes
  in_selector (Selector-F.Dereference line) = false
  in_selector (Selector-F.Arguments line arguments) = any_true arguments

  abbrev pub in_argument : fold.ArgumentOf giving_results → Bool
  in_argument a = a.value true || inside_if a.width

  abbrev pub in_label : fold.LabelOf giving_results → Bool
  in_label l = l.low false || inside_if l.high

  abbrev pub in_component_value : fold.ComponentValueOf giving_results → Bool
  in_component_value (ComponentValue-F.Expression e) = e false
  in_component_value (ComponentValue-F.Bracketed line values) = values

  abbrev pub in_values : fold.ValuesOf giving_results → Bool
  in_values v = any_true v.elements || true_if v.otherwise

  abbrev pub in_element : fold.ElementOf giving_results → Bool
  in_element (Element-F.Labelled line labels value) = any_true labels || value
  in_element (Element-F.Variant line tag-name tag values) = tag false || true_if values

  -- these rules together
  abbrev pub in_expressions : fold.ExpressionRules giving_results
  in_expressions =
      record {
        component_value = in_component_value;
        element = in_element;
        factor = in_factor;
        selector = in_selector;
        access = in_access;
        addend = in_addend;
        argument = in_argument;
        comparison = in_comparison;
        expression = in_expression;
        label = in_label;
        multiplier = in_multiplier;
        simple = in_simple;
        term = in_term;
        values = in_values;
      }

  abbrev pub expression_gives : Expression → Alone
  expression_gives = fold.of_expression in_expressions

  abbrev pub simple_gives : Simple → Alone
  simple_gives = fold.of_simple in_expressions

  abbrev pub addend_gives : Addend → Bool
  addend_gives = fold.of_addend in_expressions

  abbrev pub term_gives : Term → Alone
  term_gives = fold.of_term in_expressions

  abbrev pub multiplier_gives : Multiplier → Bool
  multiplier_gives = fold.of_multiplier in_expressions

  abbrev pub factor_gives : Factor → Alone
  factor_gives = fold.of_factor in_expressions

  abbrev pub access_gives : Access → Alone
  access_gives = fold.of_access in_expressions

  abbrev pub selector_gives : Selector → Bool
  selector_gives = fold.of_selector in_expressions

  abbrev pub argument_gives : Argument → Bool
  argument_gives = fold.of_argument in_expressions

  abbrev pub label_gives : Label → Bool
  label_gives = fold.of_label in_expressions

  abbrev pub component_value_gives : ComponentValue → Bool
  component_value_gives = fold.of_component_value in_expressions

  abbrev pub values_give : Values → Bool
  values_give = fold.of_values in_expressions

  abbrev pub element_gives : Element → Bool
  element_gives = fold.of_element in_expressions

  -- ---- statements

  -- a `for` has it as control variable, or its bounds give it
  abbrev pub bounds_give : List ℕ → Expression → Expression → Bool
  bounds_give variable start end =
      bytes_eq variable name || (expression_gives start false || expression_gives end false)

  -- alike over members
  abbrev pub members_give : List ℕ → Expression → Bool
  members_give variable members = bytes_eq variable name || expression_gives members false

  -- What is assigned to, or opened by a `with`, is the variable or a component of it, as what is given as an argument.
  abbrev pub in_statement : fold.StatementOf (fold.statements_as Bool) → Bool
  in_statement (Statement-F.Empty line) = false
  in_statement (Statement-F.Assignment line access value) = access_gives access true || component_value_gives value
  in_statement (Statement-F.Call line access) = access_gives access false
  in_statement (Statement-F.Compound compound) = compound
  in_statement (Statement-F.If line condition then other) = expression_gives condition false || (then || true_if other)
  in_statement (Statement-F.Case line selector arms other) =
      expression_gives selector false || (any_true arms || true_if other)
  in_statement (Statement-F.While line condition body) = expression_gives condition false || body
  in_statement (Statement-F.Repeat line statements condition) = any_true statements || expression_gives condition false
  in_statement (Statement-F.For line variable start direction end body) =
      bounds_give variable start end || body
  in_statement (Statement-F.ForIn line variable members body) =
      members_give variable members || body
  in_statement (Statement-F.With line accesses body) = any_true (map (λ a. access_gives a true) accesses) || body

  abbrev pub in_arm : fold.ArmOf (fold.statements_as Bool) → Bool
  in_arm a = a.body

  abbrev pub in_compound : fold.CompoundOf (fold.statements_as Bool) → Bool
  in_compound c = any_true c.statements

  abbrev pub in_otherwise : fold.OtherwiseOf (fold.statements_as Bool) → Bool
  in_otherwise o = any_true o.statements

  -- these rules together
  abbrev pub in_statements : fold.StatementRules (fold.statements_as Bool)
  in_statements =
      record {
        statement = in_statement;
        arm = in_arm;
        compound = in_compound;
        otherwise = in_otherwise;
      }

  abbrev pub statement_gives : Statement → Bool
  statement_gives = fold.of_statement in_statements

  abbrev pub arm_gives : Arm → Bool
  arm_gives = fold.of_arm in_statements

  -- a statement part
  abbrev pub gives : Compound → Bool
  gives = fold.of_compound in_statements
