-- The nesting of the nodes of expressions and component values by that of their parts: an equation for each node.
use Rattle.std.proofs.Common.{◌≡◌, ℕ, suc, max, List, [], ◌∷◌, map, Option, Some, None, refl, sym, ap, ◌∙◌}
use Rattle.std.specs.Prelude.{ℤ}
use Rattle.ep_tree.specs.declared.expression.ComponentValue.TheFolds.{fold-roll-ComponentValue, fold-roll-Element, fold-roll-Factor, fold-roll-Selector, fold-roll-Access, fold-roll-Addend, fold-roll-Argument, fold-roll-Comparison, fold-roll-Expression, fold-roll-Label, fold-roll-Multiplier, fold-roll-Simple, fold-roll-Term, fold-roll-Values}
use Rattle.ep_tree.specs.declared.operator.QualifiedName.{QualifiedName}
use Rattle.ep_tree.specs.declared.operator.RelationalOperator.{RelationalOperator}
use Rattle.ep_tree.specs.declared.operator.Sign.{Sign}
use Rattle.ep_tree.specs.declared.operator.AddingOperator.{AddingOperator}
use Rattle.ep_tree.specs.declared.operator.MultiplyingOperator.{MultiplyingOperator}
use Rattle.ep_tree.specs.declared.expression.Expression.{Expression}
use Rattle.ep_tree.specs.declared.expression.Comparison.{Comparison}
use Rattle.ep_tree.specs.declared.expression.Simple.{Simple}
use Rattle.ep_tree.specs.declared.expression.Addend.{Addend}
use Rattle.ep_tree.specs.declared.expression.Term.{Term}
use Rattle.ep_tree.specs.declared.expression.Multiplier.{Multiplier}
use Rattle.ep_tree.specs.declared.expression.Factor.{Factor}
use Rattle.ep_tree.specs.declared.expression.Factor.TheVariants as factor_is
use Rattle.ep_tree.specs.declared.expression.Access.{Access}
use Rattle.ep_tree.specs.declared.expression.Selector.{Selector}
use Rattle.ep_tree.specs.declared.expression.Selector.TheVariants as selector_is
use Rattle.ep_tree.specs.declared.expression.Argument.{Argument}
use Rattle.ep_tree.specs.declared.expression.Label.{Label}
use Rattle.ep_tree.specs.declared.expression.ComponentValue.{ComponentValue}
use Rattle.ep_tree.specs.declared.expression.ComponentValue.TheVariants as value_is
use Rattle.ep_tree.specs.declared.expression.Values.{Values}
use Rattle.ep_tree.specs.declared.expression.Element.{Element}
use Rattle.ep_tree.specs.declared.expression.Element.TheVariants as element_is
use Rattle.ep_tree.specs.Nodes.{expression_node, comparison_node, simple_node, addend_node, term_node, multiplier_node, access_node, argument_node, label_node, values_node}
use Rattle.ep_tree.specs.Nesting.{most_inside, component_value_nesting, element_nesting, factor_nesting, selector_nesting, access_nesting, addend_nesting, argument_nesting, comparison_nesting, expression_nesting, label_nesting, multiplier_nesting, simple_nesting, term_nesting, values_nesting}
use Rattle.ep_levels.proofs.Measures.{there, most}

-- one more for each, as brackets and parentheses have it
pub inside_is : {A : Type 0} (f : A → ℕ) (xs : List A) → most_inside (map f xs) ≡ most (λ x. suc (f x)) xs
inside_is f [] = refl
inside_is f (x ∷ xs) = ap (λ n. max (suc (f x)) n) (inside_is f xs)

pub expression_is : (at : ℕ) (l : Simple) (c : Option Comparison) → expression_nesting (expression_node at l c) ≡ max (simple_nesting l) (there comparison_nesting c)
expression_is at l None = simp fold-roll-Expression
expression_is at l (Some c) = simp fold-roll-Expression

pub comparison_is : (o : RelationalOperator) (r : Simple) → comparison_nesting (comparison_node o r) ≡ simple_nesting r
comparison_is o r = simp fold-roll-Comparison

pub simple_is : (at : ℕ) (o : Option Sign) (t : Term) (more : List Addend) → simple_nesting (simple_node at o t more) ≡ max (term_nesting t) (most addend_nesting more)
simple_is at o t more = simp fold-roll-Simple

pub addend_is : (o : AddingOperator) (t : Term) → addend_nesting (addend_node o t) ≡ term_nesting t
addend_is o t = simp fold-roll-Addend

pub term_is : (at : ℕ) (f : Factor) (more : List Multiplier) → term_nesting (term_node at f more) ≡ max (factor_nesting f) (most multiplier_nesting more)
term_is at f more = simp fold-roll-Term

pub multiplier_is : (o : MultiplyingOperator) (f : Factor) → multiplier_nesting (multiplier_node o f) ≡ factor_nesting f
multiplier_is o f = simp fold-roll-Multiplier

pub access_is : (at : ℕ) (n : List ℕ) (xs : List Selector) → access_nesting (access_node at n xs) ≡ most selector_nesting xs
access_is at n xs = simp fold-roll-Access

pub argument_is : (at : ℕ) (e : Expression) (w : Option Expression) → argument_nesting (argument_node at e w) ≡ max (expression_nesting e) (there expression_nesting w)
argument_is at e None = simp fold-roll-Argument
argument_is at e (Some w) = simp fold-roll-Argument

pub label_is : (at : ℕ) (e : Expression) (w : Option Expression) → label_nesting (label_node at e w) ≡ max (expression_nesting e) (there expression_nesting w)
label_is at e None = simp fold-roll-Label
label_is at e (Some w) = simp fold-roll-Label

pub values_are : (at : ℕ) (xs : List Element) (o : Option ComponentValue) → values_nesting (values_node at xs o) ≡ suc (max (most element_nesting xs) (there component_value_nesting o))
values_are at xs None = simp fold-roll-Values
values_are at xs (Some v) = simp fold-roll-Values

pub access_factor_is : (a : Access) → factor_nesting (factor_is.Access a) ≡ access_nesting a
access_factor_is a = ap factor_nesting (sym (factor_is.rolls-Access a)) ∙ simp fold-roll-Factor

pub number_is : (at : ℕ) (n : ℤ) → factor_nesting (factor_is.Number at n) ≡ 0
number_is at n = ap factor_nesting (sym (factor_is.rolls-Number at n)) ∙ simp fold-roll-Factor

pub text_is : (at : ℕ) (b : List ℕ) → factor_nesting (factor_is.Text at b) ≡ 0
text_is at b = ap factor_nesting (sym (factor_is.rolls-Text at b)) ∙ simp fold-roll-Factor

pub nil_is : (at : ℕ) → factor_nesting (factor_is.Nil at) ≡ 0
nil_is at = ap factor_nesting (sym (factor_is.rolls-Nil at)) ∙ simp fold-roll-Factor

pub parenthesized_is : (at : ℕ) (e : Expression) → factor_nesting (factor_is.Parenthesized at e) ≡ suc (expression_nesting e)
parenthesized_is at e = ap factor_nesting (sym (factor_is.rolls-Parenthesized at e)) ∙ simp fold-roll-Factor

pub not_is : (at : ℕ) (f : Factor) → factor_nesting (factor_is.Not at f) ≡ suc (factor_nesting f)
not_is at f = ap factor_nesting (sym (factor_is.rolls-Not at f)) ∙ simp fold-roll-Factor

pub set_is : (at : ℕ) (ls : List Label) → factor_nesting (factor_is.Set at ls) ≡ most (λ l. suc (label_nesting l)) ls
set_is at ls = ap factor_nesting (sym (factor_is.rolls-Set at ls)) ∙ simp fold-roll-Factor (inside_is label_nesting ls)

pub structured_is : (at : ℕ) (n : QualifiedName) (v : Values) → factor_nesting (factor_is.Structured at n v) ≡ values_nesting v
structured_is at n v = ap factor_nesting (sym (factor_is.rolls-Structured at n v)) ∙ simp fold-roll-Factor

pub field_is : (at : ℕ) (n : List ℕ) → selector_nesting (selector_is.Field at n) ≡ 0
field_is at n = ap selector_nesting (sym (selector_is.rolls-Field at n)) ∙ simp fold-roll-Selector

pub index_is : (at : ℕ) (es : List Expression) → selector_nesting (selector_is.Index at es) ≡ most (λ e. suc (expression_nesting e)) es
index_is at es = ap selector_nesting (sym (selector_is.rolls-Index at es)) ∙ simp fold-roll-Selector (inside_is expression_nesting es)

pub dereference_is : (at : ℕ) → selector_nesting (selector_is.Dereference at) ≡ 0
dereference_is at = ap selector_nesting (sym (selector_is.rolls-Dereference at)) ∙ simp fold-roll-Selector

pub arguments_are : (at : ℕ) (xs : List Argument) → selector_nesting (selector_is.Arguments at xs) ≡ most (λ a. suc (argument_nesting a)) xs
arguments_are at xs = ap selector_nesting (sym (selector_is.rolls-Arguments at xs)) ∙ simp fold-roll-Selector (inside_is argument_nesting xs)

pub expression_value_is : (e : Expression) → component_value_nesting (value_is.Expression e) ≡ expression_nesting e
expression_value_is e = ap component_value_nesting (sym (value_is.rolls-Expression e)) ∙ simp fold-roll-ComponentValue

pub bracketed_is : (at : ℕ) (v : Values) → component_value_nesting (value_is.Bracketed at v) ≡ values_nesting v
bracketed_is at v = ap component_value_nesting (sym (value_is.rolls-Bracketed at v)) ∙ simp fold-roll-ComponentValue

pub labelled_is : (at : ℕ) (ls : List Label) (v : ComponentValue) → element_nesting (element_is.Labelled at ls v) ≡ max (most label_nesting ls) (component_value_nesting v)
labelled_is at ls v = ap element_nesting (sym (element_is.rolls-Labelled at ls v)) ∙ simp fold-roll-Element

pub case_is : (at : ℕ) (tag : Option (List ℕ)) (e : Expression) (vs : Option Values) → element_nesting (element_is.Variant at tag e vs) ≡ max (expression_nesting e) (there values_nesting vs)
case_is at tag e None = ap element_nesting (sym (element_is.rolls-Variant at tag e None)) ∙ simp fold-roll-Element
case_is at tag e (Some v) = ap element_nesting (sym (element_is.rolls-Variant at tag e (Some v))) ∙ simp fold-roll-Element
