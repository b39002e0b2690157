-- The productions of component values and elements: what their tokens derive, tokens of the same kinds derive too. A lemma for each description, under its name and along it.
use Rattle.std.proofs.Common.{refl}
use Rattle.ep_grammar.specs.Descriptions.{component_values, bracketed_values}
use Rattle.ep_grammar.specs.Expressions.{set_tail, values_tail, value_labels, value_values, empty_set_tail, value_content, bracketed_value, component_value, labelled_element, filled_values, case_values, case_plain, case_tagged, case_element, element, case_tail, otherwise_values, element_values, values}
use Rattle.ep_format.proofs.kinds.Forms.{a_line, behind, by_class, mark, one_of, within, by_shape, Any}
use Rattle.ep_format.proofs.kinds.Simply.{Simply, anything, ◌&◌, ◌<*◌, simply, function}
use Rattle.ep_format.proofs.kinds.Expressions.{expression_decided, expression_rest_decided, inner_values_end_decided, labels_decided}
use Rattle.ep_format.proofs.kinds.Expressions.{inner_labels_as, expression_as, otherwise_decided, values_rest_decided}
use Rattle.ep_format.proofs.kinds.Shapes.{identifier_as}

pub set_tail_decided : Simply set_tail
unfolding set_tail
set_tail_decided = anything <* mark refl & expression_rest_decided

pub values_tail_decided : Simply values_tail
unfolding values_tail
values_tail_decided = anything <* mark refl & within component_values & inner_values_end_decided

pub value_labels_decided : Simply value_labels
unfolding value_labels
value_labels_decided = anything & a_line & simply inner_labels_as & one_of set_tail_decided values_tail_decided

pub value_values_decided : Simply value_values
unfolding value_values
value_values_decided = anything & within bracketed_values <* mark refl

pub empty_set_tail_decided : Simply empty_set_tail
unfolding empty_set_tail
empty_set_tail_decided = anything <* mark refl & expression_rest_decided

pub value_content_decided : Simply value_content
unfolding value_content
value_content_decided = behind (by_class value_values_decided value_labels_decided)

pub bracketed_value_decided : Simply bracketed_value
unfolding bracketed_value
bracketed_value_decided = anything & a_line <* mark refl & one_of empty_set_tail_decided value_content_decided

pub component_value_decided : Simply component_value
unfolding component_value
component_value_decided = by_class bracketed_value_decided (anything & expression_decided)

pub labelled_element_decided : Simply labelled_element
unfolding labelled_element
labelled_element_decided = anything & a_line & labels_decided <* mark refl & component_value_decided

pub filled_values_decided : Simply filled_values
unfolding filled_values
filled_values_decided = behind (anything & within bracketed_values <* mark refl)

pub case_values_decided : Simply case_values
unfolding case_values
case_values_decided = anything <* mark refl <* mark refl & one_of (anything <* mark refl) filled_values_decided

pub case_plain_decided : Simply case_plain
unfolding case_plain
case_plain_decided = anything & case_values_decided

pub case_tagged_decided : Simply case_tagged
unfolding case_tagged
case_tagged_decided = anything <* mark refl & expression_decided & case_values_decided

case_tail_decided : Simply case_tail
unfolding case_tail
case_tail_decided = by_shape {Q = Any} {U = Any} expression_as (λ y z c h e. (z, refl, tt)) (function case_plain_decided) identifier_as (function case_tagged_decided)

pub case_element_decided : Simply case_element
unfolding case_element
case_element_decided = anything & a_line <* mark refl & case_tail_decided

pub element_decided : Simply element
unfolding element
element_decided = one_of case_element_decided labelled_element_decided

otherwise_values_decided : Simply otherwise_values
unfolding otherwise_values
otherwise_values_decided = anything & a_line & otherwise_decided component_value_decided

element_values_decided : Simply element_values
unfolding element_values
element_values_decided = anything & a_line & element_decided & values_rest_decided element_decided component_value_decided

pub values_decided : Simply values
unfolding values
values_decided = one_of otherwise_values_decided element_values_decided
