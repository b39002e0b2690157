use Rattle.std.proofs.Common.{◌≡◌, true, None, drop, map}
use Rattle.std.specs.List.{list_all}
use Rattle.ep_built.specs.Built.{addend_belonging, element_unbuilt, expression_unbuilt, first_in, form_told, is_component, label_unbuilt, lines_in, multiplier_belonging, selector_belonging, written_unbuilt}
use Rattle.ep_check_expr.proofs.expressions.+typed.Given as goal
use Rattle.ep_check_expr.specs.Answers.{arranged_of, filled_of, ranges_of}
use Rattle.ep_rules.specs.Answers.{members_of, taken_of, typed_of}
use Rattle.ep_rules.specs.Arguments.{arguments_judged}
use Rattle.ep_check_expr.proofs.Gathering.{gathered}
use Rattle.ep_rules.specs.Constructors.{gathered as gathered_labels, no_members}
use Rattle.ep_check_expr.specs.Expressions.{element_written, labelled, addend_judged, chained, given, selected_all, judged, multiplier_judged, selected}
use Rattle.ep_rules.specs.Indexing.{indexed_all}
use Rattle.ep_rules.specs.Judgements.{Accepts}
use Rattle.ep_rules.specs.Operators.{added, multiplied}
use Rattle.ep_check_expr.specs.StructuredValues.{array_elements, no_ranges, ranges_labelled, record_elements}

abbrev pub invariant-addends-loop-addend : goal.invariant-addends-loop-addend
invariant-addends-loop-addend l =
    record {
      judged : chained added (Accepts (typed_of l.sum)) (map (addend_judged l.scopes) (drop l.addend-index l.all)) ≡ chained added (Accepts (typed_of l.fn.first)) (map (addend_judged l.scopes) l.all);
      operands : lines_in (map addend_belonging (drop l.addend-index l.all)) ≡ None;
    }

abbrev pub invariant-multipliers-loop-multiplier : goal.invariant-multipliers-loop-multiplier
invariant-multipliers-loop-multiplier l =
    record {
      judged : chained multiplied (Accepts (typed_of l.product)) (map (multiplier_judged l.scopes) (drop l.multiplier-index l.all)) ≡ chained multiplied (Accepts (typed_of l.fn.first)) (map (multiplier_judged l.scopes) l.all);
      operands : lines_in (map multiplier_belonging (drop l.multiplier-index l.all)) ≡ None;
    }

abbrev pub invariant-typed_arguments-loop-place : goal.invariant-typed_arguments-loop-place
invariant-typed_arguments-loop-place l =
    record {
      built : first_in (map written_unbuilt (drop l.place l.arguments)) ≡ None;
      same : gathered (taken_of l.taken) (arguments_judged (drop l.place l.parameters) (map (given l.scopes) (drop l.place l.arguments))) ≡ arguments_judged l.parameters (map (given l.scopes) l.arguments);
    }

abbrev pub invariant-selected-loop-selector : goal.invariant-selected-loop-selector
invariant-selected-loop-selector l =
    record {
      judged : selected_all l.scopes (Accepts (typed_of l.variable)) (map (selected l.scopes) (drop l.selector-index l.all)) ≡ selected_all l.scopes (Accepts (typed_of l.fn.first)) (map (selected l.scopes) l.all);
      selectors : list_all is_component (map form_told (map selector_belonging (drop l.selector-index l.all))) ≡ true;
      lines : lines_in (map selector_belonging (drop l.selector-index l.all)) ≡ None;
    }

abbrev pub invariant-set-loop-label : goal.invariant-set-loop-label
invariant-set-loop-label l =
    record {
      judged : gathered_labels (Accepts (members_of l.members)) (map (labelled l.scopes) (drop l.label-index l.all)) ≡ gathered_labels (Accepts no_members) (map (labelled l.scopes) l.all);
      built : first_in (map label_unbuilt (drop l.label-index l.all)) ≡ None;
    }

abbrev pub invariant-with_indexes-loop-expression : goal.invariant-with_indexes-loop-expression
invariant-with_indexes-loop-expression l =
    record {
      judged : indexed_all l.scopes (Accepts (typed_of l.variable)) (map (judged l.scopes) (drop l.expression-index l.all)) ≡ indexed_all l.scopes (Accepts (typed_of l.fn.first)) (map (judged l.scopes) l.all);
      built : first_in (map expression_unbuilt (drop l.expression-index l.all)) ≡ None;
    }

abbrev pub invariant-with_elements-loop-element : goal.invariant-with_elements-loop-element
invariant-with_elements-loop-element l =
    record {
      judged : array_elements l.of (map (element_written l.scopes) (drop l.element-index l.elements)) (arranged_of l.arranged) ≡ array_elements l.of (map (element_written l.scopes) l.elements) (arranged_of l.fn.before);
      built : first_in (map element_unbuilt (drop l.element-index l.elements)) ≡ None;
    }

abbrev pub invariant-ranges-loop-label : goal.invariant-ranges-loop-label
invariant-ranges-loop-label l =
    record {
      judged : ranges_labelled l.of (map (labelled l.scopes) (drop l.label-index l.labels)) (ranges_of l.ranges) ≡ ranges_labelled l.of (map (labelled l.scopes) l.labels) no_ranges;
      built : first_in (map label_unbuilt (drop l.label-index l.labels)) ≡ None;
    }

abbrev pub invariant-record_elements-loop-element : goal.invariant-record_elements-loop-element
invariant-record_elements-loop-element l =
    record {
      judged : record_elements l.fields l.within (map (element_written l.scopes) (drop l.element-index l.elements)) (filled_of l.filled) ≡ record_elements l.fields l.within (map (element_written l.scopes) l.elements) (filled_of l.fn.before);
      built : first_in (map element_unbuilt (drop l.element-index l.elements)) ≡ None;
    }
