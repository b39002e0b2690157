-- The productions of expressions and component values: what their tokens derive, tokens of the same kinds derive too. A lemma for each description, under its name and along it.
use Rattle.std.proofs.Common.{refl, ◌∷◌, Some, None}
use Rattle.ep_tree.specs.declared.expression.Element.{Element}
use Rattle.ep_tree.specs.declared.expression.ComponentValue.{ComponentValue}
use Rattle.ep_tree.specs.declared.expression.Expression.{Expression}
use Rattle.ep_tree.specs.declared.expression.Selector.TheVariants as selector_is
use Rattle.ep_tree.specs.declared.expression.Element.TheVariants as element_is
use Rattle.ep_tree.specs.Nodes.{qualified_node}
use Rattle.ep_grammar.specs.Descriptions.{Syntax, expressions, factors, elements, component_values, bracketed_values}
use Rattle.ep_grammar.specs.Expressions.{qualified_name, label_of, inner_labels, argument, field_selector, inner_expressions, index_selector, pointer_selector, arguments, argument_selector, selector, selectors, access, second_of, values_from, otherwise_of, more_elements_of, values_rest_of, inner_values_rest, inner_values_end, labels_start, structured_tail, index_tail, bracket_labels, bracket_values, bracket, called_rest, called_field, called, number_factor, text_factor, nil_factor, parenthesized, negated, members, set_constructor, factor, multiplier, multipliers, term, addend, addends, simple, comparison, comparison_part, expression, expression_rest, labels}
use Rattle.ep_format.proofs.kinds.Forms.{Decided, Any, To, Each, Perhaps, given, mark, a_line, within, after, past, one_of, by_class, behind, by_shape, perhaps, first_items, one_or_end, all_many, all_separated}
use Rattle.ep_format.proofs.kinds.Simply.{Simply, simply, anything, maybe, each_separated, ◌&◌, ◌<*◌}
use Rattle.ep_format.proofs.kinds.Shapes.{ArgumentAs, SelectorAs, FactorAs, TermAs, SimpleAs, ExpressionAs, LabelAs, StartAs, CalledAs, label_node_as, argument_node_as, field_node_as, index_node_as, dereference_node_as, arguments_node_as, structured_node_as, accessed_as, number_node_as, text_node_as, nil_node_as, parenthesized_node_as, not_node_as, set_node_as, term_node_as, simple_node_as, expression_node_as, single_as}

pub qualified_name_decided : Simply qualified_name
unfolding qualified_name
qualified_name_decided = anything & a_line & mark refl & maybe (anything <* mark refl & mark refl)

-- ---- labels and accesses

pub label_as : {e : Syntax Expression} → Simply e → Decided (label_of e) LabelAs
unfolding label_of
label_as p = after (perhaps (anything <* mark refl & p)) (after p (after a_line (given (λ l m h e f i o q j. label_node_as l m e f o q j))))

pub inner_labels_as : Decided inner_labels (Each LabelAs)
unfolding inner_labels
inner_labels_as = all_separated (label_as (within expressions))

argument_as : Decided argument ArgumentAs
unfolding argument
argument_as = after (perhaps (anything <* mark refl & within expressions)) (after (within expressions) (after a_line (given (λ l m h e f i o q j. argument_node_as l m e f o q j))))

field_selector_as : Decided field_selector SelectorAs
unfolding field_selector
field_selector_as = after (mark refl) (past (mark refl) (after a_line (given (λ l m h n k i. field_node_as l m n k))))

inner_expressions_decided : Simply inner_expressions
unfolding inner_expressions
inner_expressions_decided = each_separated (within expressions)

index_selector_as : Decided index_selector SelectorAs
unfolding index_selector
index_selector_as = behind (past (mark refl) (after inner_expressions_decided (past (mark refl) (after a_line (given (λ l m h es fs i. index_node_as l m es fs))))))

pointer_selector_as : Decided pointer_selector SelectorAs
unfolding pointer_selector
pointer_selector_as = past (mark refl) (after a_line (given (λ l m h. dereference_node_as l m)))

arguments_as : Decided arguments (Each ArgumentAs)
unfolding arguments
arguments_as = all_separated argument_as

argument_selector_as : Decided argument_selector SelectorAs
unfolding argument_selector
argument_selector_as = behind (past (mark refl) (after arguments_as (past (mark refl) (after a_line (given (λ l m h xs ys i. arguments_node_as l m xs ys i))))))

selector_as : Decided selector SelectorAs
unfolding selector
selector_as = one_of field_selector_as (one_of index_selector_as (one_of pointer_selector_as argument_selector_as))

selectors_as : Decided selectors (Each SelectorAs)
unfolding selectors
selectors_as = all_many selector_as

pub access_decided : Simply access
unfolding access
access_decided = anything & a_line & mark refl & simply selectors_as

-- ---- values

pub otherwise_decided : {v : Syntax ComponentValue} → Simply v → Simply (otherwise_of v)
unfolding otherwise_of
otherwise_decided p = anything <* mark refl & p & maybe (mark refl)

more_elements_decided : {e : Syntax Element} → Simply e → Simply (more_elements_of e)
unfolding more_elements_of
more_elements_decided p = simply (first_items {P = Any} (given tt) (one_or_end p))

pub values_rest_decided : {e : Syntax Element} {v : Syntax ComponentValue} → Simply e → Simply v → Simply (values_rest_of e v)
unfolding values_rest_of
values_rest_decided p q = anything & more_elements_decided p & maybe (otherwise_decided q)

inner_values_rest_decided : Simply inner_values_rest
unfolding inner_values_rest
inner_values_rest_decided = values_rest_decided (within elements) (within component_values)

pub inner_values_end_decided : Simply inner_values_end
unfolding inner_values_end
inner_values_end_decided = anything & inner_values_rest_decided <* mark refl

-- ---- factors

labels_start_as : Decided labels_start StartAs
unfolding labels_start
labels_start_as = after inner_labels_as (after a_line (given (λ l m h ls ms i. i)))

structured_tail_as : Decided structured_tail (To Any (To Any CalledAs))
unfolding structured_tail
structured_tail_as = after inner_values_end_decided (after (within component_values) (past (mark refl) (given (λ v w h r q i s t j a b c l m n k o p g. structured_node_as l m (qualified_node l n (second_of o)) (qualified_node m k (second_of p)) (values_from r s.0 (element_is.Labelled s.0 s.1 v)) (values_from q t.0 (element_is.Labelled t.0 t.1 w))))))

index_tail_as : Decided index_tail (To Any (To Any CalledAs))
unfolding index_tail
index_tail_as = after selectors_as (past (mark refl) (given (λ more less h es fs i a b c l m n k o p g. accessed_as l m n k o p g (selector_is.Index a es ∷ more) (selector_is.Index b fs ∷ less) (index_node_as a b es fs, h))))

bracket_labels_as : Decided bracket_labels (To Any CalledAs)
unfolding bracket_labels
bracket_labels_as = by_shape {Q = Any} {U = Any} labels_start_as (λ y z c h e. (z, refl, tt)) structured_tail_as single_as index_tail_as

bracket_values_as : Decided bracket_values (To Any CalledAs)
unfolding bracket_values
bracket_values_as = past (mark refl) (after (within bracketed_values) (given (λ v w h a b c l m n k o p g. structured_node_as l m (qualified_node l n (second_of o)) (qualified_node m k (second_of p)) v w)))

bracket_as : Decided bracket CalledAs
unfolding bracket
bracket_as = behind (after (by_class bracket_values_as bracket_labels_as) (past (mark refl) (after a_line (given (λ a b c r s h. h a b c)))))

called_rest_as : Decided called_rest CalledAs
unfolding called_rest
called_rest_as = by_class bracket_as (after selectors_as (given (λ more less h l m n k o p g. accessed_as l m n k o p g more less h)))

called_field_as : Decided called_field (To Any (To Any FactorAs))
unfolding called_field
called_field_as = after called_rest_as (after (mark refl) (past (mark refl) (after a_line (given (λ a b h m k i r s j l t u n z v. j l t n z (Some (a, m)) (Some (b, k)) tt)))))

called_as : Decided called FactorAs
unfolding called
called_as = after (by_class called_field_as (after called_rest_as (given (λ r s h l m i n k j. h l m n k None None tt)))) (after (mark refl) (after a_line (given (λ l m h n k i r s j. j l m h n k i))))

number_factor_as : Decided number_factor FactorAs
unfolding number_factor
number_factor_as = after (mark refl) (after a_line (given (λ l m h n k i. number_node_as l m n k)))

text_factor_as : Decided text_factor FactorAs
unfolding text_factor
text_factor_as = after (mark refl) (after a_line (given (λ l m h n k i. text_node_as l m n k)))

nil_factor_as : Decided nil_factor FactorAs
unfolding nil_factor
nil_factor_as = past (mark refl) (after a_line (given (λ l m h. nil_node_as l m)))

parenthesized_as : Decided parenthesized FactorAs
unfolding parenthesized
parenthesized_as = behind (past (mark refl) (after (within expressions) (past (mark refl) (after a_line (given (λ l m h e f i. parenthesized_node_as l m e f))))))

negated_as : Decided negated FactorAs
unfolding negated
negated_as = behind (after (within factors) (past (mark refl) (after a_line (given (λ l m h e f i. not_node_as l m e f)))))

members_decided : Simply members
unfolding members
members_decided = behind (anything & simply inner_labels_as <* mark refl)

set_constructor_as : Decided set_constructor FactorAs
unfolding set_constructor
set_constructor_as = after (one_of (anything <* mark refl) members_decided) (past (mark refl) (after a_line (given (λ l m h ls ms i. set_node_as l m ls ms))))

pub factor_as : Decided factor FactorAs
unfolding factor
factor_as = one_of called_as (one_of number_factor_as (one_of text_factor_as (one_of nil_factor_as (one_of negated_as (one_of parenthesized_as set_constructor_as)))))

-- ---- terms and expressions

multiplier_decided : Simply multiplier
unfolding multiplier
multiplier_decided = anything & mark refl & simply factor_as

multipliers_as : Decided multipliers (Each Any)
unfolding multipliers
multipliers_as = all_many multiplier_decided

term_as : Decided term TermAs
unfolding term
term_as = after multipliers_as (after factor_as (after a_line (given (λ l m h f g i ms ns j. term_node_as l m f g ms ns i j))))

addend_decided : Simply addend
unfolding addend
addend_decided = anything & mark refl & simply term_as

addends_as : Decided addends (Each Any)
unfolding addends
addends_as = all_many addend_decided

simple_as : Decided simple SimpleAs
unfolding simple
simple_as = after addends_as (after term_as (after (perhaps (mark refl)) (after a_line (given (λ l m h o p i t u j ads bds k. simple_node_as l m o p t u ads bds i j k)))))

comparison_decided : Simply comparison
unfolding comparison
comparison_decided = anything & mark refl & simply simple_as

comparison_part_as : Decided comparison_part (Perhaps Any)
unfolding comparison_part
comparison_part_as = perhaps comparison_decided

pub expression_as : Decided expression ExpressionAs
unfolding expression
expression_as = after comparison_part_as (after simple_as (after a_line (given (λ l m h s t i c d j. expression_node_as l m s t c d i j))))

pub expression_decided : Simply expression
expression_decided = simply expression_as

pub expression_rest_decided : Simply expression_rest
unfolding expression_rest
expression_rest_decided = anything & simply multipliers_as & simply addends_as & simply comparison_part_as

pub labels_decided : Simply labels
unfolding labels
labels_decided = simply (all_separated (label_as expression_decided))
