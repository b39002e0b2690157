-- What the folds give of the nodes of expressions that rows have.
use Rattle.std.proofs.Common.{◌≡◌, List, ap, map}
use Rattle.std.specs.Option.{option_or}
use Rattle.ep_built.specs.Built as built
use Rattle.ep_built.specs.Built.{Belonging, Found, Placed, Selecting, addend_belonging, multiplier_belonging, built_adding, built_multiplying, simple_unbuilt, term_unbuilt, factor_unbuilt, at_node, all_are_built, lines_in}
use Rattle.ep_scope.specs.Scopes.{Region}
use Rattle.ep_tree.specs.declared.expression.ComponentValue.TheFolds.{fold_out-Access, fold_out-Addend, fold_out-Multiplier, fold_out-Simple, fold_out-Term}
use Rattle.ep_tree.specs.declared.expression.Access.{Access, out-Access}
use Rattle.ep_tree.specs.declared.expression.Addend.{Addend, out-Addend}
use Rattle.ep_tree.specs.declared.expression.Multiplier.{Multiplier, out-Multiplier}
use Rattle.ep_tree.specs.declared.expression.Simple.{Simple, out-Simple}
use Rattle.ep_tree.specs.declared.expression.Term.{Term, out-Term}
use Rattle.ep_tree.specs.declared.operator.AddingOperator.{AddingOperator}
use Rattle.ep_tree.specs.declared.operator.MultiplyingOperator.{MultiplyingOperator}
use Rattle.ep_tree.specs.declared.operator.RelationalOperator.{RelationalOperator}
use Rattle.ep_check_expr.specs.Expressions.{Selected, access_judged, chained, name_judged, selected, addend_judged, multiplier_judged, simple_judged, term_judged, factor_judged, at_component_value, at_element, at_factor, at_selector, at_access, at_addend, at_argument, at_comparison, at_expression, at_label, at_multiplier, at_simple, at_term, at_values, Said, Operand}
use Rattle.ep_rules.specs.Constructors.{Label}
use Rattle.ep_rules.specs.Functions.{Given}
use Rattle.ep_rules.specs.Judgements.{when_accepted}
use Rattle.ep_rules.specs.Operators.{added, multiplied, signed}
use Rattle.ep_check_expr.specs.StructuredValues.{Components, Valued, Written}

module _ (scopes : List Region) where
  pub addend_judged-is : (a : Addend) → addend_judged scopes a ≡ record { operator = (out-Addend a).operator; operand = term_judged scopes (out-Addend a).term }
  addend_judged-is a = fold_out-Addend Valued Written Said Selected Said (Operand AddingOperator) Given (Operand RelationalOperator) Said Label (Operand MultiplyingOperator) Said Said Components (at_component_value scopes) (at_element scopes) (at_factor scopes) (at_selector scopes) (at_access scopes) (at_addend scopes) (at_argument scopes) (at_comparison scopes) (at_expression scopes) (at_label scopes) (at_multiplier scopes) (at_simple scopes) (at_term scopes) (at_values scopes) a

  pub multiplier_judged-is : (a : Multiplier) → multiplier_judged scopes a ≡ record { operator = (out-Multiplier a).operator; operand = factor_judged scopes (out-Multiplier a).factor }
  multiplier_judged-is a = fold_out-Multiplier Valued Written Said Selected Said (Operand AddingOperator) Given (Operand RelationalOperator) Said Label (Operand MultiplyingOperator) Said Said Components (at_component_value scopes) (at_element scopes) (at_factor scopes) (at_selector scopes) (at_access scopes) (at_addend scopes) (at_argument scopes) (at_comparison scopes) (at_expression scopes) (at_label scopes) (at_multiplier scopes) (at_simple scopes) (at_term scopes) (at_values scopes) a

  pub simple_judged-is : (s : Simple) → simple_judged scopes s ≡ chained added (when_accepted (signed (out-Simple s).sign) (term_judged scopes (out-Simple s).first)) (map (addend_judged scopes) (out-Simple s).more)
  simple_judged-is s = ap (λ x. x.judged) (fold_out-Simple Valued Written Said Selected Said (Operand AddingOperator) Given (Operand RelationalOperator) Said Label (Operand MultiplyingOperator) Said Said Components (at_component_value scopes) (at_element scopes) (at_factor scopes) (at_selector scopes) (at_access scopes) (at_addend scopes) (at_argument scopes) (at_comparison scopes) (at_expression scopes) (at_label scopes) (at_multiplier scopes) (at_simple scopes) (at_term scopes) (at_values scopes) s)

  pub term_judged-is : (t : Term) → term_judged scopes t ≡ chained multiplied (factor_judged scopes (out-Term t).first) (map (multiplier_judged scopes) (out-Term t).more)
  term_judged-is t = ap (λ x. x.judged) (fold_out-Term Valued Written Said Selected Said (Operand AddingOperator) Given (Operand RelationalOperator) Said Label (Operand MultiplyingOperator) Said Said Components (at_component_value scopes) (at_element scopes) (at_factor scopes) (at_selector scopes) (at_access scopes) (at_addend scopes) (at_argument scopes) (at_comparison scopes) (at_expression scopes) (at_label scopes) (at_multiplier scopes) (at_simple scopes) (at_term scopes) (at_values scopes) t)

  pub name_judged-is : (a : Access) → name_judged scopes a ≡ access_judged scopes (out-Access a).name (map (selected scopes) (out-Access a).selectors)
  name_judged-is a = ap (λ x. x.judged) (fold_out-Access Valued Written Said Selected Said (Operand AddingOperator) Given (Operand RelationalOperator) Said Label (Operand MultiplyingOperator) Said Said Components (at_component_value scopes) (at_element scopes) (at_factor scopes) (at_selector scopes) (at_access scopes) (at_addend scopes) (at_argument scopes) (at_comparison scopes) (at_expression scopes) (at_label scopes) (at_multiplier scopes) (at_simple scopes) (at_term scopes) (at_values scopes) a)

pub addend_belonging-is : (a : Addend) → addend_belonging a ≡ (built_adding (out-Addend a).operator, term_unbuilt (out-Addend a).term)
addend_belonging-is a = fold_out-Addend Found Found Found Selecting Placed Belonging Found Belonging Found Found Belonging Found Found Found built.at_component_value built.at_element built.at_factor built.at_selector built.at_access built.at_addend built.at_argument built.at_comparison built.at_expression built.at_label built.at_multiplier built.at_simple built.at_term built.at_values a

pub multiplier_belonging-is : (a : Multiplier) → multiplier_belonging a ≡ (built_multiplying (out-Multiplier a).operator, factor_unbuilt (out-Multiplier a).factor)
multiplier_belonging-is a = fold_out-Multiplier Found Found Found Selecting Placed Belonging Found Belonging Found Found Belonging Found Found Found built.at_component_value built.at_element built.at_factor built.at_selector built.at_access built.at_addend built.at_argument built.at_comparison built.at_expression built.at_label built.at_multiplier built.at_simple built.at_term built.at_values a

pub simple_unbuilt-is : (s : Simple) → simple_unbuilt s ≡ at_node (all_are_built (map addend_belonging (out-Simple s).more)) (out-Simple s).line (option_or (term_unbuilt (out-Simple s).first) (lines_in (map addend_belonging (out-Simple s).more)))
simple_unbuilt-is s = fold_out-Simple Found Found Found Selecting Placed Belonging Found Belonging Found Found Belonging Found Found Found built.at_component_value built.at_element built.at_factor built.at_selector built.at_access built.at_addend built.at_argument built.at_comparison built.at_expression built.at_label built.at_multiplier built.at_simple built.at_term built.at_values s

pub term_unbuilt-is : (t : Term) → term_unbuilt t ≡ at_node (all_are_built (map multiplier_belonging (out-Term t).more)) (out-Term t).line (option_or (factor_unbuilt (out-Term t).first) (lines_in (map multiplier_belonging (out-Term t).more)))
term_unbuilt-is t = fold_out-Term Found Found Found Selecting Placed Belonging Found Belonging Found Found Belonging Found Found Found built.at_component_value built.at_element built.at_factor built.at_selector built.at_access built.at_addend built.at_argument built.at_comparison built.at_expression built.at_label built.at_multiplier built.at_simple built.at_term built.at_values t
