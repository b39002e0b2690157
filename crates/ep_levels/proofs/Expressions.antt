-- The levels that the productions of expressions take: a lemma for each description, under its name and along it.
use Rattle.std.proofs.Common.{◌≡◌, ℕ, suc, max, List, ◌∷◌, ◌++◌, Option, Some, None, refl, ◌∙◌, arith}
use Rattle.ep_tree.specs.declared.expression.Label.{Label}
use Rattle.ep_tree.specs.declared.expression.Selector.{Selector}
use Rattle.ep_tree.specs.declared.expression.Selector.TheVariants as selector_is
use Rattle.ep_tree.specs.declared.expression.ComponentValue.{ComponentValue}
use Rattle.ep_tree.specs.declared.expression.Element.{Element}
use Rattle.ep_tree.specs.declared.expression.Element.TheVariants as element_is
use Rattle.ep_tree.specs.Nodes.{qualified_node, simple_node, term_node, access_node}
use Rattle.ep_tree.specs.Nesting.{component_value_nesting, element_nesting, factor_nesting, selector_nesting, access_nesting, addend_nesting, argument_nesting, comparison_nesting, expression_nesting, label_nesting, multiplier_nesting, simple_nesting, term_nesting, values_nesting}
use Rattle.ep_grammar.specs.Descriptions.{Syntax, expressions, factors, elements, component_values, bracketed_values, inside}
use Rattle.ep_grammar.specs.Expressions.{label_of, inner_labels, argument, field_selector, inner_expressions, index_selector, pointer_selector, arguments, argument_selector, selector, selectors, access, otherwise_of, more_elements_of, Rest, values_from, values_rest_of, inner_values_rest, inner_values_end, Called, field_of, second_of, labels_start, structured_tail, index_tail, bracket_labels, bracket_values, bracket, called_rest, called_field, called, number_factor, text_factor, nil_factor, parenthesized, negated, members, set_constructor, factor, multiplier, multipliers, term, addend, addends, simple, comparison, comparison_part, expression, expression_rest, labels}
use Rattle.ep_levels.proofs.Measures.{Measures, Is, Over, To, given, part, over, before, one_of, by_class, behind, kept, within, by_shape, most, there, first_items, perhaps, lightly, all_many, all_separated, each_or_end, there_more, most_more, same_shape}
use Rattle.ep_levels.proofs.ExpressionNodes.{expression_is, comparison_is, simple_is, addend_is, term_is, multiplier_is, access_is, argument_is, label_is, values_are, access_factor_is, number_is, text_is, nil_is, parenthesized_is, not_is, set_is, structured_is, field_is, index_is, dereference_is, arguments_are, labelled_is}
use Rattle.ep_levels.proofs.Shapes.{single_labels_take}

-- ---- labels and accesses

-- labels inside a bracket take one level more than they nest
inner_label : Measures (label_of (inside expressions)) (Is (λ l. suc (label_nesting l)))
unfolding label_of
inner_label = part (perhaps (kept (lightly refl) (within expressions))) (part (within expressions) (over (lightly refl) (given (λ at e m h o n i. omega (arith, h, i, label_is at e o, there_more expression_nesting (expression_nesting e) o)))))

-- the labels inside a bracket
pub inner_labels_take : Measures inner_labels (Is (most (λ l. suc (label_nesting l))))
unfolding inner_labels
inner_labels_take = all_separated inner_label

-- `arg = expr [ ":" expr ]`
argument_takes : Measures argument (Is (λ a. suc (argument_nesting a)))
unfolding argument
argument_takes = part (perhaps (kept (lightly refl) (within expressions))) (part (within expressions) (over (lightly refl) (given (λ at e m h o n i. omega (arith, h, i, argument_is at e o, there_more expression_nesting (expression_nesting e) o)))))

field_selector_takes : Measures field_selector (Is selector_nesting)
unfolding field_selector
field_selector_takes = over (lightly refl) (before (lightly refl) (over (lightly refl) (given (λ at n. omega (arith, field_is at n)))))

inner_expressions_take : Measures inner_expressions (Is (most (λ e. suc (expression_nesting e))))
unfolding inner_expressions
inner_expressions_take = all_separated (within expressions)

index_selector_takes : Measures index_selector (Is selector_nesting)
unfolding index_selector
index_selector_takes = behind (before (lightly refl) (part inner_expressions_take (before (lightly refl) (over (lightly refl) (given (λ at es m h. omega (arith, h, index_is at es)))))))

pointer_selector_takes : Measures pointer_selector (Is selector_nesting)
unfolding pointer_selector
pointer_selector_takes = before (lightly refl) (over (lightly refl) (given (λ at. omega (arith, dereference_is at))))

arguments_take : Measures arguments (Is (most (λ a. suc (argument_nesting a))))
unfolding arguments
arguments_take = all_separated argument_takes

argument_selector_takes : Measures argument_selector (Is selector_nesting)
unfolding argument_selector
argument_selector_takes = behind (before (lightly refl) (part arguments_take (before (lightly refl) (over (lightly refl) (given (λ at xs m h. omega (arith, h, arguments_are at xs)))))))

selector_takes : Measures selector (Is selector_nesting)
unfolding selector
selector_takes = one_of field_selector_takes (one_of index_selector_takes (one_of pointer_selector_takes argument_selector_takes))

selectors_take : Measures selectors (Is (most selector_nesting))
unfolding selectors
selectors_take = all_many selector_takes

-- `access = id { "." id | "[" expr { "," expr } "]" | "^" | "(" arg { "," arg } ")" }`
pub access_takes : Measures access (Is access_nesting)
unfolding access
access_takes = part selectors_take (over (lightly refl) (over (lightly refl) (given (λ at n xs m h. omega (arith, h, access_is at n xs)))))

-- ---- factors

-- what is read after a name takes as many levels as the factor that it makes of the name
abbrev IsCalled : Called → ℕ → Type 0
IsCalled = Over (Over (Over (Is factor_nesting)))

-- the field that may stand before other selectors takes no level
field_free : (second : Option (ℕ × List ℕ)) (more : List Selector) → most selector_nesting (field_of second ++ more) ≡ most selector_nesting more
field_free None more = refl
field_free (Some p) more = omega (arith, field_is p.0 p.1)

-- the levels of what follows a first element in a bracket
abbrev rest_most : Rest → ℕ
rest_most r = max (most (λ x. suc (element_nesting x)) r.0) (there (λ v. suc (component_value_nesting v)) r.1)

pub otherwise_takes : {v : Syntax ComponentValue} {f : ComponentValue → ℕ} → Measures v (Is f) → Measures (otherwise_of v) (Is f)
unfolding otherwise_of
otherwise_takes {f = f} q = over (lightly refl) (part q (before (lightly refl) (given (λ v m h u. omega (arith, h)))))

pub more_elements_take : {e : Syntax Element} {f : Element → ℕ} → Measures e (Is f) → Measures (more_elements_of e) (Is (most f))
unfolding more_elements_of
more_elements_take q = first_items (given refl) (each_or_end q)

pub values_rest_takes : {e : Syntax Element} {v : Syntax ComponentValue} {f : Element → ℕ} {g : ComponentValue → ℕ} → Measures e (Is f) → Measures v (Is g) → Measures (values_rest_of e v) (Is (λ r. max (most f r.0) (there g r.1)))
unfolding values_rest_of
values_rest_takes p q = part (perhaps (otherwise_takes q)) (part (more_elements_take p) (given (λ more m h o n i. omega (arith, h, i))))

inner_values_rest_takes : Measures inner_values_rest (Is rest_most)
unfolding inner_values_rest
inner_values_rest_takes = values_rest_takes (within elements) (within component_values)

-- the values from after the first element to the bracket
pub inner_values_end_takes : Measures inner_values_end (Is rest_most)
unfolding inner_values_end
inner_values_end_takes = before (lightly refl) (part inner_values_rest_takes (given (λ r m h. omega (arith, h))))

-- values with their first element
pub first_labelled : (at : ℕ) (ls : List Label) (v : ComponentValue) (r : Rest) → max (max (suc (component_value_nesting v)) (rest_most r)) (most (λ l. suc (label_nesting l)) ls) ≡ values_nesting (values_from r at (element_is.Labelled at ls v))
first_labelled at ls v r =
    omega (arith, values_are at (element_is.Labelled at ls v ∷ r.0) r.1, labelled_is at ls v, most_more label_nesting (component_value_nesting v) ls, most_more element_nesting (component_value_nesting v) r.0, there_more component_value_nesting (component_value_nesting v) r.1)

-- the levels of the labels that begin a bracket
abbrev start_most : ℕ × List Label → ℕ
start_most p = most (λ l. suc (label_nesting l)) p.1

labels_start_take : Measures labels_start (Is start_most)
unfolding labels_start
labels_start_take = part inner_labels_take (over (lightly refl) (given (λ at ls m h. omega (arith, h))))

structured_tail_takes : Measures structured_tail (To (Is start_most) (Over IsCalled))
unfolding structured_tail
structured_tail_takes = part inner_values_end_takes (part (within component_values) (before (lightly refl) (given (λ v m h r n i p k j at_bracket at name second. omega (arith, h, i, j, first_labelled p.0 p.1 v r, structured_is at (qualified_node at name (second_of second)) (values_from r p.0 (element_is.Labelled p.0 p.1 v)))))))

index_tail_takes : Measures index_tail (To (Is (most (λ e. suc (expression_nesting e)))) (Over IsCalled))
unfolding index_tail
index_tail_takes = part selectors_take (before (lightly refl) (given (λ more m h es n i at_bracket at name second. omega (arith, h, i, access_factor_is (access_node at name (field_of second ++ (selector_is.Index at_bracket es ∷ more))), access_is at name (field_of second ++ (selector_is.Index at_bracket es ∷ more)), field_free second (selector_is.Index at_bracket es ∷ more), index_is at_bracket es))))

bracket_labels_take : Measures bracket_labels (Over IsCalled)
unfolding bracket_labels
bracket_labels_take = by_shape labels_start_take (same_shape (Is start_most)) structured_tail_takes (λ p es n h i. i ∙ single_labels_take p.1 es h) index_tail_takes

bracket_values_take : Measures bracket_values (Over IsCalled)
unfolding bracket_values
bracket_values_take = before (lightly refl) (part (within bracketed_values) (given (λ v m h at_bracket at name second. omega (arith, h, structured_is at (qualified_node at name (second_of second)) v))))

bracket_takes : Measures bracket IsCalled
unfolding bracket
bracket_takes = behind (part (by_class bracket_values_take bracket_labels_take) (before (lightly refl) (over (lightly refl) (given (λ at_bracket r m h at name second. omega (arith, h at_bracket at name second))))))

called_rest_takes : Measures called_rest IsCalled
unfolding called_rest
called_rest_takes = by_class bracket_takes (part selectors_take (given (λ more m h at name second. omega (arith, h, access_factor_is (access_node at name (field_of second ++ more)), access_is at name (field_of second ++ more), field_free second more))))

called_field_takes : Measures called_field (Over (Over (Is factor_nesting)))
unfolding called_field
called_field_takes = part called_rest_takes (over (lightly refl) (before (lightly refl) (over (lightly refl) (given (λ p name2 r m h at name. omega (arith, h at name (Some (p, name2))))))))

-- `access | name "[" values "]"`
called_takes : Measures called (Is factor_nesting)
unfolding called
called_takes = part (by_class called_field_takes (part called_rest_takes (given (λ r m h at name. omega (arith, h at name None))))) (over (lightly refl) (over (lightly refl) (given (λ at name r m h. omega (arith, h at name)))))

number_takes : Measures number_factor (Is factor_nesting)
unfolding number_factor
number_takes = over (lightly refl) (over (lightly refl) (given (λ at n. omega (arith, number_is at n))))

text_takes : Measures text_factor (Is factor_nesting)
unfolding text_factor
text_takes = over (lightly refl) (over (lightly refl) (given (λ at b. omega (arith, text_is at b))))

nil_takes : Measures nil_factor (Is factor_nesting)
unfolding nil_factor
nil_takes = before (lightly refl) (over (lightly refl) (given (λ at. omega (arith, nil_is at))))

parenthesized_takes : Measures parenthesized (Is factor_nesting)
unfolding parenthesized
parenthesized_takes = behind (before (lightly refl) (part (within expressions) (before (lightly refl) (over (lightly refl) (given (λ at e m h. omega (arith, h, parenthesized_is at e)))))))

negated_takes : Measures negated (Is factor_nesting)
unfolding negated
negated_takes = behind (part (within factors) (before (lightly refl) (over (lightly refl) (given (λ at f m h. omega (arith, h, not_is at f))))))

members_take : Measures members (Is (most (λ l. suc (label_nesting l))))
unfolding members
members_take = behind (before (lightly refl) (part inner_labels_take (given (λ ls m h. omega (arith, h)))))

set_takes : Measures set_constructor (Is factor_nesting)
unfolding set_constructor
set_takes = part (one_of (before (lightly refl) (given refl)) members_take) (before (lightly refl) (over (lightly refl) (given (λ at ls m h. omega (arith, h, set_is at ls)))))

-- `factor = access | number | string | "nil" | "(" expr ")" | "not" factor | "[" [ label { "," label } ] "]" | name "[" values "]"`
pub factor_takes : Measures factor (Is factor_nesting)
unfolding factor
factor_takes = one_of called_takes (one_of number_takes (one_of text_takes (one_of nil_takes (one_of negated_takes (one_of parenthesized_takes set_takes)))))

-- ---- terms and expressions

multiplier_takes : Measures multiplier (Is multiplier_nesting)
unfolding multiplier
multiplier_takes = part factor_takes (over (lightly refl) (given (λ o f m h. omega (arith, h, multiplier_is o f))))

multipliers_take : Measures multipliers (Is (most multiplier_nesting))
unfolding multipliers
multipliers_take = all_many multiplier_takes

-- `term = factor { multiplying-operator factor }`
term_takes : Measures term (Is term_nesting)
unfolding term
term_takes = part multipliers_take (part factor_takes (over (lightly refl) (given (λ at f m h more n i. omega (arith, h, i, term_is at f more)))))

addend_takes : Measures addend (Is addend_nesting)
unfolding addend
addend_takes = part term_takes (over (lightly refl) (given (λ o t m h. omega (arith, h, addend_is o t))))

addends_take : Measures addends (Is (most addend_nesting))
unfolding addends
addends_take = all_many addend_takes

-- `simple = [ sign ] term { adding-operator term }`
simple_takes : Measures simple (Is simple_nesting)
unfolding simple
simple_takes = part addends_take (part term_takes (over (lightly refl) (over (lightly refl) (given (λ at o t m h more n i. omega (arith, h, i, simple_is at o t more))))))

comparison_takes : Measures comparison (Is comparison_nesting)
unfolding comparison
comparison_takes = part simple_takes (over (lightly refl) (given (λ o r m h. omega (arith, h, comparison_is o r))))

comparison_part_takes : Measures comparison_part (Is (there comparison_nesting))
unfolding comparison_part
comparison_part_takes = perhaps comparison_takes

-- `expr = simple [ relational-operator simple ]`
pub expression_takes : Measures expression (Is expression_nesting)
unfolding expression
expression_takes = part comparison_part_takes (part simple_takes (over (lightly refl) (given (λ at l m h c n i. omega (arith, h, i, expression_is at l c)))))

-- an expression from behind its first factor on
pub expression_rest_takes : Measures expression_rest (Over (To (Is factor_nesting) (Is expression_nesting)))
unfolding expression_rest
expression_rest_takes = part comparison_part_takes (part addends_take (part multipliers_take (given (λ ms m h ads n i c k j at f l g. omega (arith, h, i, j, g, term_is at f ms, simple_is at None (term_node at f ms) ads, expression_is at (simple_node at None (term_node at f ms) ads) c)))))

-- labels outside of brackets
outer_label : Measures (label_of expression) (Is label_nesting)
unfolding label_of
outer_label = part (perhaps (kept (lightly refl) expression_takes)) (part expression_takes (over (lightly refl) (given (λ at e m h o n i. omega (arith, h, i, label_is at e o)))))

pub labels_take : Measures labels (Is (most label_nesting))
unfolding labels
labels_take = all_separated outer_label
