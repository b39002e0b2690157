-- The levels that the productions of component values take: a lemma for each description, under its name and along it.
use Rattle.std.proofs.Common.{suc, [], ◌∷◌, Some, None, refl, sym, ◌∙◌, arith}
use Rattle.ep_tree.specs.declared.expression.Factor.TheVariants as factor_is
use Rattle.ep_tree.specs.declared.expression.Element.TheVariants as element_is
use Rattle.ep_tree.specs.Nesting.{component_value_nesting, element_nesting, expression_nesting, label_nesting, values_nesting}
use Rattle.ep_grammar.specs.Descriptions.{component_values, bracketed_values}
use Rattle.ep_grammar.specs.Expressions.{values_from, set_tail, values_tail, value_labels, value_values, empty_set_tail, value_content, bracketed_value, component_value, labelled_element, filled_values, case_values, case_plain, case_tagged, case_tail, case_element, element, otherwise_values, element_values, values}
use Rattle.ep_levels.proofs.Measures.{Measures, Is, Under, Free, Over, To, given, part, over, before, one_of, by_class, behind, within, by_shape, most, there, lightly, same_shape}
use Rattle.ep_levels.proofs.ExpressionNodes.{values_are, set_is, expression_value_is, bracketed_is, labelled_is, case_is}
use Rattle.ep_levels.proofs.Shapes.{identifier_takes}
use Rattle.ep_levels.proofs.Expressions.{inner_labels_take, inner_values_end_takes, first_labelled, expression_takes, expression_rest_takes, labels_take, otherwise_takes, values_rest_takes}

-- ---- component values

set_tail_takes : Measures set_tail (Over (To (Is (most (λ l. suc (label_nesting l)))) (Over (Is component_value_nesting))))
unfolding set_tail
set_tail_takes = part expression_rest_takes (before (lightly refl) (given (λ r m h at ls n i at_bracket. omega (arith, h at_bracket (factor_is.Set at_bracket ls) n (i ∙ sym (set_is at_bracket ls)), expression_value_is (r at_bracket (factor_is.Set at_bracket ls))))))

values_tail_takes : Measures values_tail (Over (To (Is (most (λ l. suc (label_nesting l)))) (Over (Is component_value_nesting))))
unfolding values_tail
values_tail_takes = part inner_values_end_takes (part (within component_values) (before (lightly refl) (given (λ v m h r n i at ls k j at_bracket. omega (arith, h, i, j, first_labelled at ls v r, bracketed_is at_bracket (values_from r at (element_is.Labelled at ls v)))))))

value_labels_take : Measures value_labels (Over (Is component_value_nesting))
unfolding value_labels
value_labels_take = part (one_of set_tail_takes values_tail_takes) (part inner_labels_take (over (lightly refl) (given (λ at ls m h t n i at_bracket. omega (arith, i at ls m h at_bracket)))))

value_values_take : Measures value_values (Over (Is component_value_nesting))
unfolding value_values
value_values_take = before (lightly refl) (part (within bracketed_values) (given (λ v m h at_bracket. omega (arith, h, bracketed_is at_bracket v))))

empty_set_tail_takes : Measures empty_set_tail (Over (Is component_value_nesting))
unfolding empty_set_tail
empty_set_tail_takes = part expression_rest_takes (before (lightly refl) (given (λ r m h at_bracket. omega (arith, h at_bracket (factor_is.Set at_bracket []) 0 (sym (set_is at_bracket [])), expression_value_is (r at_bracket (factor_is.Set at_bracket []))))))

value_content_takes : Measures value_content (Over (Is component_value_nesting))
unfolding value_content
value_content_takes = behind (by_class value_values_take value_labels_take)

bracketed_value_takes : Measures bracketed_value (Is component_value_nesting)
unfolding bracketed_value
bracketed_value_takes = part (one_of empty_set_tail_takes value_content_takes) (before (lightly refl) (over (lightly refl) (given (λ at_bracket r m h. omega (arith, h at_bracket)))))

-- `cvalue = expr | "[" values "]"`
pub component_value_takes : Measures component_value (Is component_value_nesting)
unfolding component_value
component_value_takes = by_class bracketed_value_takes (part expression_takes (given (λ e m h. omega (arith, h, expression_value_is e))))

-- ---- elements

labelled_takes : Measures labelled_element (Is element_nesting)
unfolding labelled_element
labelled_takes = part component_value_takes (before (lightly refl) (part labels_take (over (lightly refl) (given (λ at ls m h v n i. omega (arith, h, i, labelled_is at ls v))))))

filled_values_take : Measures filled_values (Is (there values_nesting))
unfolding filled_values
filled_values_take = behind (before (lightly refl) (part (within bracketed_values) (given (λ v m h. omega (arith, h)))))

-- `"of" "[" [ values ] "]"`
case_values_take : Measures case_values (Is (there values_nesting))
unfolding case_values
case_values_take = part (one_of (before (lightly refl) (given refl)) filled_values_take) (before (lightly refl) (before (lightly refl) (given (λ v m h. omega (arith, h)))))

case_plain_takes : Measures case_plain (To (Is expression_nesting) (Over (Is element_nesting)))
unfolding case_plain
case_plain_takes = part case_values_take (given (λ vs m h e n i at. omega (arith, h, i, case_is at None e vs)))

case_tagged_takes : Measures case_tagged (To Free (Over (Is element_nesting)))
unfolding case_tagged
case_tagged_takes = part case_values_take (part expression_takes (before (lightly refl) (given (λ e m h vs n i name k j at. omega (arith, h, i, j, case_is at (Some name) e vs)))))

case_tail_takes : Measures case_tail (Over (Is element_nesting))
unfolding case_tail
case_tail_takes = by_shape expression_takes (same_shape (Is expression_nesting)) case_plain_takes (λ e name n h i. i ∙ identifier_takes e name h) case_tagged_takes

case_element_takes : Measures case_element (Is element_nesting)
unfolding case_element
case_element_takes = part case_tail_takes (before (lightly refl) (over (lightly refl) (given (λ at t m h. omega (arith, h at)))))

-- `element = labels ":" cvalue | "case" [ id ":" ] expr "of" "[" [ values ] "]"`
pub element_takes : Measures element (Is element_nesting)
unfolding element
element_takes = one_of case_element_takes labelled_takes

-- ---- values, with the level of their own

otherwise_values_take : Measures otherwise_values (Under values_nesting)
unfolding otherwise_values
otherwise_values_take = part (otherwise_takes component_value_takes) (over (lightly refl) (given (λ at v m h. omega (arith, h, values_are at [] (Some v)))))

element_values_take : Measures element_values (Under values_nesting)
unfolding element_values
element_values_take = part (values_rest_takes element_takes component_value_takes) (part element_takes (over (lightly refl) (given (λ at e m h r n i. omega (arith, h, i, values_are at (e ∷ r.0) r.1)))))

-- `values = element { ";" element } [ [ ";" ] "otherwise" cvalue ] [ ";" ] | "otherwise" cvalue [ ";" ]`
pub values_take : Measures values (Under values_nesting)
unfolding values
values_take = one_of otherwise_values_take element_values_take
