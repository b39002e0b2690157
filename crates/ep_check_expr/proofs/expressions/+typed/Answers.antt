use Rattle.std.proofs.Common.{◌≡◌, ◌+◌, ◌<◌, drop, [], ◌∷◌, ◌⊎◌, inl, inr, ◌∙◌, Some, None, ap, map, length, sym, arith, rules}
use Rattle.std.proofs.lemmas.List.{length-map}
use Rattle.ep_tree.specs.declared.expression.Access.{out-Access}
use Rattle.ep_tree.specs.declared.expression.Label.{out-Label}
use Rattle.ep_tree.specs.declared.expression.Simple.{out-Simple}
use Rattle.ep_tree.specs.declared.expression.Term.{out-Term}
use Rattle.ep_tree.specs.declared.expression.ComponentValue.TheViews.{the_lemmas}
use Rattle.ep_built.specs.Built.{addend_belonging, element_unbuilt, expression_unbuilt, label_unbuilt, multiplier_belonging, written_unbuilt}
use Rattle.ep_rules.proofs.public.Breaking.{part-exit, refused-exit, when_accepted-part}
use Rattle.ep_check_expr.proofs.public.Rows.{chained-first, left-cons, next-built, rest-built, chained-operand, chained-operator, chained-step, operands-built, at_node-inner, or-first, or-second}
use Rattle.ep_check_expr.proofs.Calls.{given-exit, one-item, two-items, applied-one, applied-two, applied-fault, applied-number, fault-exit, first-fault, later-fault}
use Rattle.ep_check_expr.proofs.public.Folds.{addend_judged-is, multiplier_judged-is, addend_belonging-is, multiplier_belonging-is, simple_judged-is, term_judged-is, simple_unbuilt-is, term_unbuilt-is}
use Rattle.ep_check_expr.proofs.Selectors.{FieldNode, IndexNode, access-alone-fails, access-call-fails, access-field-fails, arguments-split, call-components, call-lines, component-node, field-acts, field-split, index-acts, index-fails, index-turned, indexing-fails, more-components, more-lines, next-component, node-lines, rest-components, rest-lines, selector-fails, selector-turned}
use Rattle.ep_check_expr.proofs.expressions.+typed.Goals as goal
use Rattle.ep_check_expr.proofs.expressions.+typed.Goals.{selected-in-Index+in_ok-variable-in-Index, selected-in-Field+in_ok-variable-in-Field}
use Rattle.ep_check_expr.specs.Answers.{choice_of, filled_of, index_of, labels_of, ranges_of}
use Rattle.ep_rules.specs.Answers.{members_of, taken_of, typed_of}
use Rattle.ep_rules.specs.Arguments.{argument_taken}
use Rattle.ep_check_expr.proofs.Elements.{choice_fails, field_fails, field_given_is, high_fails, low_fails, more_labels, names_fail, one_label, ranges-fail, ranges-turned, tag_fails}
use Rattle.ep_check_expr.proofs.public.Labels.{label-fails, label-turned}
use Rattle.ep_check_expr.proofs.Gathering.{argument_fails, gathered, other_number, turned, value_fails}
use Rattle.ep_check_expr.proofs.Reading.{argument-reads}
use Rattle.ep_check_expr.proofs.public.Written.{all_written}
use Rattle.ep_rules.specs.Constructors.{constructed, gathered as gathered_labels, no_members}
use Rattle.ep_check_expr.specs.Expressions.{addend_judged, element_written, judged, labelled, multiplier_judged, given, selected, selected_all}
use Rattle.ep_rules.specs.Judgements.{Accepts, when_accepted}
use Rattle.ep_rules.specs.Operators.{added, multiplied}
use Rattle.ep_check_expr.specs.StructuredValues.{Many, One, index_judged, no_ranges, ranges_labelled, record_elements, single_label}
use Rattle.ep_check_expr.specs.Shapes.{arguments_first, field_first}

pub addends-returns-in_err-right : goal.addends-returns-in_err-right
addends-returns-in_err-right t c =
    refused-exit c.from_residual.result c.in_err-right.field-0.0 _ _ c.from_residual.ensures.1
    (λ n h. rw (← c.loop-addend.invariant.judged) (chained-operand added (addend_judged c.args.scopes.now) c.args.all.now c.loop-addend.addend-index c.addend-item.result c.loop-addend-test.true c.addend-item.is _ _ (addend_judged-is c.args.scopes.now c.addend-item.result) (typed_of c.loop-addend.sum) n h))
    c.in_err-right.ensures

pub addends-returns-in_err-sum : goal.addends-returns-in_err-sum
addends-returns-in_err-sum t c =
    refused-exit c.from_residual-in_err-sum.result c.in_err-sum.field-0.0 _ _ c.from_residual-in_err-sum.ensures.1
    (λ n h. rw (← c.loop-addend.invariant.judged) (chained-operator added (addend_judged c.args.scopes.now) c.args.all.now c.loop-addend.addend-index c.addend-item.result c.loop-addend-test.true c.addend-item.is _ _ (addend_judged-is c.args.scopes.now c.addend-item.result) (typed_of c.loop-addend.sum) (typed_of c.in_ok-right.right) c.in_ok-right.ensures n h))
    c.in_err-sum.ensures

pub addends-loop-addend-preserved : goal.addends-loop-addend-preserved
addends-loop-addend-preserved t c =
    record {
      judged = chained-step added (addend_judged c.args.scopes.now) c.args.all.now c.loop-addend.addend-index c.addend-item.result c.loop-addend-test.true c.addend-item.is _ _ (addend_judged-is c.args.scopes.now c.addend-item.result) (typed_of c.loop-addend.sum) (typed_of c.in_ok-right.right) (typed_of c.in_ok-sum.sum) c.in_ok-right.ensures c.in_ok-sum.ensures ∙ c.loop-addend.invariant.judged;
      operands = operands-built addend_belonging c.args.all.now c.loop-addend.addend-index c.addend-item.result c.loop-addend-test.true c.addend-item.is _ _ (addend_belonging-is c.addend-item.result) c.loop-addend.invariant.operands;
    }

pub multipliers-returns-in_err-right : goal.multipliers-returns-in_err-right
multipliers-returns-in_err-right t c =
    refused-exit c.from_residual.result c.in_err-right.field-0.0 _ _ c.from_residual.ensures.1
    (λ n h. rw (← c.loop-multiplier.invariant.judged) (chained-operand multiplied (multiplier_judged c.args.scopes.now) c.args.all.now c.loop-multiplier.multiplier-index c.multiplier-item.result c.loop-multiplier-test.true c.multiplier-item.is _ _ (multiplier_judged-is c.args.scopes.now c.multiplier-item.result) (typed_of c.loop-multiplier.product) n h))
    (rw c.get.ensures at c.in_err-right.ensures)

pub multipliers-returns-in_err-product : goal.multipliers-returns-in_err-product
multipliers-returns-in_err-product t c =
    refused-exit c.from_residual-in_err-product.result c.in_err-product.field-0.0 _ _ c.from_residual-in_err-product.ensures.1
    (λ n h. rw (← c.loop-multiplier.invariant.judged) (chained-operator multiplied (multiplier_judged c.args.scopes.now) c.args.all.now c.loop-multiplier.multiplier-index c.multiplier-item.result c.loop-multiplier-test.true c.multiplier-item.is _ _ (multiplier_judged-is c.args.scopes.now c.multiplier-item.result) (typed_of c.loop-multiplier.product) (typed_of c.in_ok-right.right) (rw c.get.ensures at c.in_ok-right.ensures) n h))
    c.in_err-product.ensures

pub multipliers-loop-multiplier-preserved : goal.multipliers-loop-multiplier-preserved
multipliers-loop-multiplier-preserved t c =
    record {
      judged = chained-step multiplied (multiplier_judged c.args.scopes.now) c.args.all.now c.loop-multiplier.multiplier-index c.multiplier-item.result c.loop-multiplier-test.true c.multiplier-item.is _ _ (multiplier_judged-is c.args.scopes.now c.multiplier-item.result) (typed_of c.loop-multiplier.product) (typed_of c.in_ok-right.right) (typed_of c.in_ok-product.product) (rw c.get.ensures at c.in_ok-right.ensures) c.in_ok-product.ensures ∙ c.loop-multiplier.invariant.judged;
      operands = operands-built multiplier_belonging c.args.all.now c.loop-multiplier.multiplier-index c.multiplier-item.result c.loop-multiplier-test.true c.multiplier-item.is _ _ (multiplier_belonging-is c.multiplier-item.result) c.loop-multiplier.invariant.operands;
    }

pub set-returns-in_err-members : goal.set-returns-in_err-members
set-returns-in_err-members t c =
    part-exit members_of typed_of c.from_residual.result c.in_err-members.field-0.0 _ _ c.from_residual.ensures.1
    (λ n h. when_accepted-part n constructed (gathered_labels (Accepts no_members) (map (labelled c.args.scopes.now) c.args.all.now)) (rw (← c.loop-label.invariant.judged) (label-fails (labelled c.args.scopes.now) c.args.all.now c.loop-label.label-index c.label-item.result c.loop-label-test.true c.label-item.is n (Accepts (members_of c.loop-label.members)) h)))
    c.in_err-members.ensures

pub set-loop-label-preserved : goal.set-loop-label-preserved
set-loop-label-preserved t c =
    record {
      judged = sym (label-turned (labelled c.args.scopes.now) c.args.all.now c.loop-label.label-index c.label-item.result c.loop-label-test.true c.label-item.is (members_of c.loop-label.members) (members_of c.in_ok-members.members) c.in_ok-members.ensures) ∙ c.loop-label.invariant.judged;
      built = rest-built label_unbuilt c.args.all.now c.loop-label.label-index c.label-item.result c.loop-label-test.true c.label-item.is c.loop-label.invariant.built;
    }

pub simple-returns-in_err-first : goal.simple-returns-in_err-first
simple-returns-in_err-first t c =
    refused-exit c.from_residual.result c.in_err-first.field-0.0 _ _ c.from_residual.ensures.1
    (λ n h. rw (simple_judged-is c.args.scopes.now c.args.s.now) (chained-first n added _ (map (addend_judged c.args.scopes.now) (out-Simple c.args.s.now).more) (when_accepted-part n _ _ h)))
    c.in_err-first.ensures

pub simple-returns-in_err-sum : goal.simple-returns-in_err-sum
simple-returns-in_err-sum t c =
    refused-exit c.from_residual-in_err-sum.result c.in_err-sum.field-0.0 _ _ c.from_residual-in_err-sum.ensures.1
    (λ n h. rw (simple_judged-is c.args.scopes.now c.args.s.now, c.in_ok-first.ensures) (chained-first n added _ (map (addend_judged c.args.scopes.now) (out-Simple c.args.s.now).more) h))
    c.in_err-sum.ensures

pub simple-addends-requires : goal.simple-addends-requires
simple-addends-requires t c =
    let built = sym (simple_unbuilt-is c.args.s.now) ∙ c.requires.built in
    (search (rules, the_lemmas), rw c.items.ensures (or-second _ _ (at_node-inner _ _ _ built)))

pub term-returns-in_err-first : goal.term-returns-in_err-first
term-returns-in_err-first t c =
    refused-exit c.from_residual.result c.in_err-first.field-0.0 _ _ c.from_residual.ensures.1
    (λ n h. rw (term_judged-is c.args.scopes.now c.args.t.now) (chained-first n multiplied _ (map (multiplier_judged c.args.scopes.now) (out-Term c.args.t.now).more) h))
    (rw c.get.ensures at c.in_err-first.ensures)

pub term-multipliers-requires : goal.term-multipliers-requires
term-multipliers-requires t c =
    let built = sym (term_unbuilt-is c.args.t.now) ∙ c.requires.built in
    (search (rules, the_lemmas), rw c.items.ensures (or-second _ _ (at_node-inner _ _ _ built)))

pub application-returns-in_err-x-in-len1 : goal.application-returns-in_err-x-in-len1
application-returns-in_err-x-in-len1 t c =
    let all = one-item c.args.arguments.now c.one-item.result c.in-len1.len_at_least c.in-len1.len_below c.one-item.is in
    rw all (fault-exit c.from_residual.result c.in_err-x-in-len1.field-0.0 (given c.args.scopes.now c.one-item.result) _ c.from_residual.ensures.1 (λ n h. applied-fault n c.args.function (given c.args.scopes.now c.one-item.result ∷ []) (first-fault n (given c.args.scopes.now c.one-item.result) [] h)) c.in_err-x-in-len1.ensures)

pub application-returns-in_ok-x-in-len1 : goal.application-returns-in_ok-x-in-len1
application-returns-in_ok-x-in-len1 t c =
    let all = one-item c.args.arguments.now c.one-item.result c.in-len1.len_at_least c.in-len1.len_below c.one-item.is in
    let x = c.in_ok-x-in-len1.ensures in
    rw (all, applied-one c.args.function (given c.args.scopes.now c.one-item.result) (typed_of c.in_ok-x-in-len1.x) x.0 x.1) c.applied_to_one.ensures

pub application-returns-in_err-x-in-len2 : goal.application-returns-in_err-x-in-len2
application-returns-in_err-x-in-len2 t c =
    let all = two-items c.args.arguments.now c.one-item-then-arguments-lt3.result c.two-item.result c.in-len2.len_at_least c.in-len2.len_below c.one-item-then-arguments-lt3.is c.two-item.is in
    rw all (fault-exit c.from_residual-in_err-x-in-len2.result c.in_err-x-in-len2.field-0.0 (given c.args.scopes.now c.one-item-then-arguments-lt3.result) _ c.from_residual-in_err-x-in-len2.ensures.1 (λ n h. applied-fault n c.args.function (given c.args.scopes.now c.one-item-then-arguments-lt3.result ∷ given c.args.scopes.now c.two-item.result ∷ []) (first-fault n (given c.args.scopes.now c.one-item-then-arguments-lt3.result) (given c.args.scopes.now c.two-item.result ∷ []) h)) c.in_err-x-in-len2.ensures)

pub application-returns-in_err-y-in-len2 : goal.application-returns-in_err-y-in-len2
application-returns-in_err-y-in-len2 t c =
    let all = two-items c.args.arguments.now c.one-item-then-arguments-lt3.result c.two-item.result c.in-len2.len_at_least c.in-len2.len_below c.one-item-then-arguments-lt3.is c.two-item.is in
    rw all (fault-exit c.from_residual-in_err-y-in-len2.result c.in_err-y-in-len2.field-0.0 (given c.args.scopes.now c.two-item.result) _ c.from_residual-in_err-y-in-len2.ensures.1 (λ n h. applied-fault n c.args.function (given c.args.scopes.now c.one-item-then-arguments-lt3.result ∷ given c.args.scopes.now c.two-item.result ∷ []) (later-fault n (given c.args.scopes.now c.one-item-then-arguments-lt3.result) (given c.args.scopes.now c.two-item.result ∷ []) (first-fault n (given c.args.scopes.now c.two-item.result) [] h))) c.in_err-y-in-len2.ensures)

pub application-returns-in_ok-y-in-len2 : goal.application-returns-in_ok-y-in-len2
application-returns-in_ok-y-in-len2 t c =
    let all = two-items c.args.arguments.now c.one-item-then-arguments-lt3.result c.two-item.result c.in-len2.len_at_least c.in-len2.len_below c.one-item-then-arguments-lt3.is c.two-item.is in
    let x = c.in_ok-x-in-len2.ensures in
    let y = c.in_ok-y-in-len2.ensures in
    let number = rw all at (sym c.takes.ensures ∙ c.if-not-takes.false) in
    rw (all, applied-two c.args.function (given c.args.scopes.now c.one-item-then-arguments-lt3.result) (given c.args.scopes.now c.two-item.result) (typed_of c.in_ok-x-in-len2.x) (typed_of c.in_ok-y-in-len2.y) number x.0 x.1 y.0 y.1) c.applied_to_two.ensures

pub application-returns-then-not-takes : goal.application-returns-then-not-takes
application-returns-then-not-takes t c =
    applied-number c.args.function (map (given c.args.scopes.now) c.args.arguments.now) (rw length-map (sym c.takes.ensures ∙ c.if-not-takes.true))

pub application-argument-requires-in-len2-2 : goal.application-argument-requires-in-len2-2
application-argument-requires-in-len2-2 t c =
    let all = two-items c.args.arguments.now c.one-item-then-arguments-lt3.result c.two-item.result c.in-len2.len_at_least c.in-len2.len_below c.one-item-then-arguments-lt3.is c.two-item.is in
    (search (rules, the_lemmas), or-first _ _ (or-second _ _ (rw all at c.requires.built)))

pub call-application-requires : goal.call-application-requires
call-application-requires t c = (search (rules, the_lemmas), all_written c.args.arguments.now c.requires.built)

pub call-designator-requires : goal.call-designator-requires
call-designator-requires t c = (search (rules, the_lemmas), all_written c.args.arguments.now c.requires.built)

pub typed_arguments-returns-then-parameters-arguments : goal.typed_arguments-returns-then-parameters-arguments
typed_arguments-returns-then-parameters-arguments t c =
    record { taken = other_number c.args.parameters.now (map (given c.args.scopes.now) c.args.arguments.now) (λ e. grind (rules, e ∙ length-map c.args.arguments.now (given c.args.scopes.now), c.if-parameters-arguments.true)) }

pub typed_arguments-argument-requires : goal.typed_arguments-argument-requires
typed_arguments-argument-requires t c =
    (search (rules, the_lemmas), next-built written_unbuilt c.args.arguments.now c.loop-place.place c.index-arguments-place.result c.loop-place-test.true c.index-arguments-place.is c.loop-place.invariant.built)

pub typed_arguments-returns-in_err-value : goal.typed_arguments-returns-in_err-value
typed_arguments-returns-in_err-value t c =
    let within : c.loop-place.place < length c.args.parameters.now = grind (rules, arith, c.if-parameters-arguments.false, c.loop-place-test.true) in
    record {
      taken = given-exit taken_of c.from_residual.result c.in_err-value.field-0.0 (given c.args.scopes.now c.index-arguments-place.result) _ c.from_residual.ensures.1
          (λ n h. rw (← c.loop-place.invariant.same) (argument_fails (given c.args.scopes.now) c.args.parameters.now c.args.arguments.now c.loop-place.place c.index-parameters-place.result c.index-arguments-place.result within c.index-parameters-place.is c.loop-place-test.true c.index-arguments-place.is n (taken_of c.loop-place.taken) h))
          c.in_err-value.ensures;
    }

pub typed_arguments-returns-in_err-taken : goal.typed_arguments-returns-in_err-taken
typed_arguments-returns-in_err-taken t c =
    let within : c.loop-place.place < length c.args.parameters.now = grind (rules, arith, c.if-parameters-arguments.false, c.loop-place-test.true) in
    let v = typed_of c.in_ok-value.value in
    record {
      taken = part-exit taken_of taken_of c.from_residual-in_err-taken.result c.in_err-taken.field-0.0 (gathered (taken_of c.loop-place.taken) (argument_taken c.index-parameters-place.result v)) _ c.from_residual-in_err-taken.ensures.1
          (λ n h. rw (← c.loop-place.invariant.same) (value_fails (given c.args.scopes.now) c.args.parameters.now c.args.arguments.now c.loop-place.place c.index-parameters-place.result c.index-arguments-place.result within c.index-parameters-place.is c.loop-place-test.true c.index-arguments-place.is n (taken_of c.loop-place.taken) v c.in_ok-value.ensures.0 c.in_ok-value.ensures.1 h))
          c.in_err-taken.ensures;
    }

pub typed_arguments-loop-place-preserved : goal.typed_arguments-loop-place-preserved
typed_arguments-loop-place-preserved t c =
    let within : c.loop-place.place < length c.args.parameters.now = grind (rules, arith, c.if-parameters-arguments.false, c.loop-place-test.true) in
    record {
      built = rest-built written_unbuilt c.args.arguments.now c.loop-place.place c.index-arguments-place.result c.loop-place-test.true c.index-arguments-place.is c.loop-place.invariant.built;
      same = turned (given c.args.scopes.now) c.args.parameters.now c.args.arguments.now c.loop-place.place c.index-parameters-place.result c.index-arguments-place.result within c.index-parameters-place.is c.loop-place-test.true c.index-arguments-place.is (taken_of c.loop-place.taken) (taken_of c.in_ok-taken.taken) (typed_of c.in_ok-value.value) c.in_ok-value.ensures.0 c.in_ok-value.ensures.1 c.in_ok-taken.ensures ∙ c.loop-place.invariant.same;
    }

pub typed_arguments-with-requires : goal.typed_arguments-with-requires
typed_arguments-with-requires t c = argument-reads c.args.scopes.now c.index-arguments-place.result (typed_of c.in_ok-value.value) c.in_ok-value.ensures.0

pub application-argument-requires-in-len2 : goal.application-argument-requires-in-len2
application-argument-requires-in-len2 t c =
    let all = two-items c.args.arguments.now c.one-item-then-arguments-lt3.result c.two-item.result c.in-len2.len_at_least c.in-len2.len_below c.one-item-then-arguments-lt3.is c.two-item.is in
    (search (rules, the_lemmas), or-first _ _ (rw all at c.requires.built))

pub access-returns-in_err-variable-in-Some-field_first : goal.access-returns-in_err-variable-in-Some-field_first
access-returns-in_err-variable-in-Some-field_first t c =
    let none : arguments_first (out-Access c.args.a.now).selectors ≡ None = ap arguments_first (sym c.items.ensures) ∙ sym c.in_default.ensures in
    let split : field_first (out-Access c.args.a.now).selectors ≡ Some (c.in-Some-field_first.field.now, c.in-Some-field_first.more.now) = ap field_first (sym c.items-2.ensures) ∙ sym c.in-Some-field_first.ensures in
    refused-exit c.from_residual-in_err-variable-in-Some-field_first.result c.in_err-variable-in-Some-field_first.field-0.0 _ _ c.from_residual-in_err-variable-in-Some-field_first.ensures.1
    (λ n h. access-field-fails c.args.a.now c.requires.built none c.args.scopes.now c.in-Some-field_first.field.now c.in-Some-field_first.more.now split n h)
    c.in_err-variable-in-Some-field_first.ensures

pub access-returns-in_err-value : goal.access-returns-in_err-value
access-returns-in_err-value t c =
    let split : arguments_first (out-Access c.args.a.now).selectors ≡ Some (c.in-Some.arguments.now, c.in-Some.more.now) = ap arguments_first (sym c.items.ensures) ∙ sym c.in-Some.ensures in
    refused-exit c.from_residual.result c.in_err-value.field-0.0 _ _ c.from_residual.ensures.1
    (λ n h. access-call-fails c.args.a.now c.requires.built c.in-Some.arguments.now c.in-Some.more.now split c.args.scopes.now n h)
    c.in_err-value.ensures

pub access-selected-requires : goal.access-selected-requires
access-selected-requires t c =
    let split : arguments_first (out-Access c.args.a.now).selectors ≡ Some (c.in-Some.arguments.now, c.in-Some.more.now) = ap arguments_first (sym c.items.ensures) ∙ sym c.in-Some.ensures in
    let p = arguments-split (out-Access c.args.a.now).selectors c.in-Some.more.now c.in-Some.arguments.now split in
    let whole = p.3 in
    (search (rules, the_lemmas, whole), (call-components c.args.a.now c.requires.built c.in-Some.arguments.now c.in-Some.more.now split, call-lines c.args.a.now c.requires.built c.in-Some.arguments.now c.in-Some.more.now split))

pub access-selected-requires-in-Some-field_first : goal.access-selected-requires-in-Some-field_first
access-selected-requires-in-Some-field_first t c =
    let none : arguments_first (out-Access c.args.a.now).selectors ≡ None = ap arguments_first (sym c.items.ensures) ∙ sym c.in_default.ensures in
    let split : field_first (out-Access c.args.a.now).selectors ≡ Some (c.in-Some-field_first.field.now, c.in-Some-field_first.more.now) = ap field_first (sym c.items-2.ensures) ∙ sym c.in-Some-field_first.ensures in
    let p = field-split (out-Access c.args.a.now).selectors c.in-Some-field_first.more.now c.in-Some-field_first.field.now split in
    let whole = p.3 in
    (search (rules, the_lemmas, whole), (more-components c.args.a.now c.requires.built none c.args.scopes.now c.in-Some-field_first.field.now c.in-Some-field_first.more.now split, more-lines c.args.a.now c.requires.built none c.args.scopes.now c.in-Some-field_first.field.now c.in-Some-field_first.more.now split))

pub access-returns-in_err-variable-in-None : goal.access-returns-in_err-variable-in-None
access-returns-in_err-variable-in-None t c =
    let none : arguments_first (out-Access c.args.a.now).selectors ≡ None = ap arguments_first (sym c.items.ensures) ∙ sym c.in_default.ensures in
    let plain : field_first (out-Access c.args.a.now).selectors ≡ None = ap field_first (sym c.items-2.ensures) ∙ sym c.in-None.ensures in
    refused-exit c.from_residual-in_err-variable-in-None.result c.in_err-variable-in-None.field-0.0 _ _ c.from_residual-in_err-variable-in-None.ensures.1
    (λ n h. access-alone-fails c.args.a.now c.requires.built none c.args.scopes.now plain n h) c.in_err-variable-in-None.ensures

pub selected-returns-in_err-variable-in-Index : goal.selected-returns-in_err-variable-in-Index
selected-returns-in_err-variable-in-Index t c =
    refused-exit c.from_residual.result c.in_err-variable-in-Index.field-0.0 _ _ c.from_residual.ensures.1
    (λ n h. rw (← c.loop-selector.invariant.judged) (selector-fails c.args.scopes.now c.args.all.now c.loop-selector.selector-index c.selector-item.result c.loop-selector-test.true c.selector-item.is _ (index-acts c.args.scopes.now c.selector-item.result _ _ c.in-Index.is) n (typed_of c.loop-selector.variable) c.loop-selector.invariant.selectors h))
    (rw c.items.ensures at c.in_err-variable-in-Index.ensures)

pub selected-returns-in_err-variable-in-Field : goal.selected-returns-in_err-variable-in-Field
selected-returns-in_err-variable-in-Field t c =
    refused-exit c.from_residual-in_err-variable-in-Field.result c.in_err-variable-in-Field.field-0.0 _ _ c.from_residual-in_err-variable-in-Field.ensures.1
    (λ n h. rw (← c.loop-selector.invariant.judged) (selector-fails c.args.scopes.now c.args.all.now c.loop-selector.selector-index c.selector-item.result c.loop-selector-test.true c.selector-item.is _ (field-acts c.args.scopes.now c.selector-item.result _ _ c.in-Field.is) n (typed_of c.loop-selector.variable) c.loop-selector.invariant.selectors h))
    c.in_err-variable-in-Field.ensures

pub selected-with_indexes-requires : goal.selected-with_indexes-requires
selected-with_indexes-requires t c =
    (search (rules, the_lemmas), rw c.items.ensures (node-lines c.args.scopes.now c.args.all.now c.loop-selector.selector-index c.selector-item.result c.loop-selector-test.true c.selector-item.is _ _ c.in-Index.is c.loop-selector.invariant.lines))

pub selected-unreachable-requires : goal.selected-unreachable-requires
selected-unreachable-requires t c =
    no_other (component-node c.selector-item.result (next-component c.args.scopes.now c.args.all.now c.loop-selector.selector-index c.selector-item.result c.loop-selector-test.true c.selector-item.is c.loop-selector.invariant.selectors))
  where
    no_other : IndexNode c.selector-item.result ⊎ FieldNode c.selector-item.result → ⊥
    no_other (inl i) = c.in_default.not-Index i.0 i.1 i.2
    no_other (inr f) = c.in_default.not-Field f.0 f.1 f.2

pub selected-loop-selector-preserved : goal.selected-loop-selector-preserved
selected-loop-selector-preserved t c =
    record {
      judged = turned ∙ c.loop-selector.invariant.judged;
      selectors = rest-components c.args.scopes.now c.args.all.now c.loop-selector.selector-index c.selector-item.result c.loop-selector-test.true c.selector-item.is c.loop-selector.invariant.selectors;
      lines = rest-lines c.args.scopes.now c.args.all.now c.loop-selector.selector-index c.selector-item.result c.loop-selector-test.true c.selector-item.is c.loop-selector.invariant.lines;
    }
  where
    turned : selected_all c.args.scopes.now (Accepts (typed_of c.match-selector.variable)) (map (selected c.args.scopes.now) (drop (c.loop-selector.selector-index + 1) c.args.all.now))
        ≡ selected_all c.args.scopes.now (Accepts (typed_of c.loop-selector.variable)) (map (selected c.args.scopes.now) (drop c.loop-selector.selector-index c.args.all.now))
    turned =
        elim c.match-selector.branch [
          | selected-in-Index+in_ok-variable-in-Index w ↦
              selector-turned c.args.scopes.now c.args.all.now c.loop-selector.selector-index c.selector-item.result c.loop-selector-test.true c.selector-item.is _ (index-acts c.args.scopes.now c.selector-item.result _ _ w.in-Index.is)
              (typed_of c.loop-selector.variable) (typed_of c.match-selector.variable) (rw (w.variable-is, ← w.items.ensures) w.in_ok-variable-in-Index.ensures)
          | selected-in-Field+in_ok-variable-in-Field w ↦
              selector-turned c.args.scopes.now c.args.all.now c.loop-selector.selector-index c.selector-item.result c.loop-selector-test.true c.selector-item.is _ (field-acts c.args.scopes.now c.selector-item.result _ _ w.in-Field.is)
              (typed_of c.loop-selector.variable) (typed_of c.match-selector.variable) (rw w.variable-is w.in_ok-variable-in-Field.ensures)
        ]

pub with_indexes-typed_expression-requires : goal.with_indexes-typed_expression-requires
with_indexes-typed_expression-requires t c =
    (search (rules, the_lemmas), next-built expression_unbuilt c.args.all.now c.loop-expression.expression-index c.expression-item.result c.loop-expression-test.true c.expression-item.is c.loop-expression.invariant.built)

pub with_indexes-returns-in_err-index : goal.with_indexes-returns-in_err-index
with_indexes-returns-in_err-index t c =
    refused-exit c.from_residual.result c.in_err-index.field-0.0 _ _ c.from_residual.ensures.1
    (λ n h. rw (← c.loop-expression.invariant.judged) (index-fails c.args.scopes.now c.args.all.now c.loop-expression.expression-index c.expression-item.result c.loop-expression-test.true c.expression-item.is (typed_of c.loop-expression.variable) n h))
    c.in_err-index.ensures.typed

pub with_indexes-returns-in_err-variable : goal.with_indexes-returns-in_err-variable
with_indexes-returns-in_err-variable t c =
    refused-exit c.from_residual-in_err-variable.result c.in_err-variable.field-0.0 _ _ c.from_residual-in_err-variable.ensures.1
    (λ n h. rw (← c.loop-expression.invariant.judged) (indexing-fails c.args.scopes.now c.args.all.now c.loop-expression.expression-index c.expression-item.result c.loop-expression-test.true c.expression-item.is (typed_of c.loop-expression.variable) n (typed_of c.in_ok-index.index) c.in_ok-index.ensures.typed h))
    c.in_err-variable.ensures

pub with_indexes-loop-expression-preserved : goal.with_indexes-loop-expression-preserved
with_indexes-loop-expression-preserved t c =
    record {
      judged = index-turned c.args.scopes.now c.args.all.now c.loop-expression.expression-index c.expression-item.result c.loop-expression-test.true c.expression-item.is (typed_of c.loop-expression.variable) (typed_of c.in_ok-index.index) (typed_of c.in_ok-variable.variable) c.in_ok-index.ensures.typed c.in_ok-variable.ensures
          ∙ c.loop-expression.invariant.judged;
      built = rest-built expression_unbuilt c.args.all.now c.loop-expression.expression-index c.expression-item.result c.loop-expression-test.true c.expression-item.is c.loop-expression.invariant.built;
    }

pub ranges-returns-in_err-ranges : goal.ranges-returns-in_err-ranges
ranges-returns-in_err-ranges t c =
    part-exit ranges_of ranges_of c.from_residual.result c.in_err-ranges.field-0.0 _ _ c.from_residual.ensures.1
    (λ n h. rw (← c.loop-label.invariant.judged) (ranges-fail c.args.of (labelled c.args.scopes.now) c.args.labels.now c.loop-label.label-index c.label-item.result c.loop-label-test.true c.label-item.is n (ranges_of c.loop-label.ranges) h))
    c.in_err-ranges.ensures

pub ranges-loop-label-preserved : goal.ranges-loop-label-preserved
ranges-loop-label-preserved t c =
    record {
      judged = ranges-turned c.args.of (labelled c.args.scopes.now) c.args.labels.now c.loop-label.label-index c.label-item.result c.loop-label-test.true c.label-item.is (ranges_of c.loop-label.ranges) (ranges_of c.in_ok-ranges.ranges) c.in_ok-ranges.ensures ∙ c.loop-label.invariant.judged;
      built = rest-built label_unbuilt c.args.labels.now c.loop-label.label-index c.label-item.result c.loop-label-test.true c.label-item.is c.loop-label.invariant.built;
    }

pub with_range-returns-in_err-low : goal.with_range-returns-in_err-low
with_range-returns-in_err-low t c =
    part-exit index_of ranges_of c.from_residual.result c.in_err-low.field-0.0 _ _ c.from_residual.ensures.1
    (λ n h. low_fails c.args.scopes.now c.args.of c.args.label.now n (ranges_of c.args.before) h)
    (rw c.get.ensures at c.in_err-low.ensures)

pub with_range-returns-in_err-high-in-Some : goal.with_range-returns-in_err-high-in-Some
with_range-returns-in_err-high-in-Some t c =
    let there : (out-Label c.args.label.now).high ≡ Some c.get-in-Some.result.now = cc in
    part-exit index_of ranges_of c.from_residual-in_err-high-in-Some.result c.in_err-high-in-Some.field-0.0 _ _ c.from_residual-in_err-high-in-Some.ensures.1
    (λ n h. high_fails c.args.scopes.now c.args.of c.args.label.now (index_of c.in_ok-low.low) c.get-in-Some.result.now (rw c.get.ensures at c.in_ok-low.ensures) there n (ranges_of c.args.before) h)
    c.in_err-high-in-Some.ensures

pub index_labels-returns-in_err-index-in-Some : goal.index_labels-returns-in_err-index-in-Some
index_labels-returns-in_err-index-in-Some t c =
    let single : single_label c.args.labels.now ≡ Some c.in-Some.low.now = cc in
    part-exit index_of labels_of c.from_residual.result c.in_err-index-in-Some.field-0.0 _ _ c.from_residual.ensures.1
    (λ n h. rw (one_label c.args.scopes.now c.args.of c.args.labels.now c.in-Some.low.now single) (when_accepted-part n (λ x. Accepts (One x)) (when_accepted (index_judged c.args.of) (judged c.args.scopes.now c.in-Some.low.now)) h))
    c.in_err-index-in-Some.ensures

pub index_labels-returns-in_ok-index-in-Some : goal.index_labels-returns-in_ok-index-in-Some
index_labels-returns-in_ok-index-in-Some t c =
    let single : single_label c.args.labels.now ≡ Some c.in-Some.low.now = cc in
    one_label c.args.scopes.now c.args.of c.args.labels.now c.in-Some.low.now single ∙ ap (when_accepted (λ x. Accepts (One x))) c.in_ok-index-in-Some.ensures

pub index_labels-returns-in_err-ranges-in-None : goal.index_labels-returns-in_err-ranges-in-None
index_labels-returns-in_err-ranges-in-None t c =
    let none : single_label c.args.labels.now ≡ None = cc in
    part-exit ranges_of labels_of c.from_residual-in_err-ranges-in-None.result c.in_err-ranges-in-None.field-0.0 _ _ c.from_residual-in_err-ranges-in-None.ensures.1
    (λ n h. rw (more_labels c.args.scopes.now c.args.of c.args.labels.now none) (when_accepted-part n (λ x. Accepts (Many x)) (ranges_labelled c.args.of (map (labelled c.args.scopes.now) c.args.labels.now) no_ranges) h))
    c.in_err-ranges-in-None.ensures

pub index_labels-returns-in_ok-ranges-in-None : goal.index_labels-returns-in_ok-ranges-in-None
index_labels-returns-in_ok-ranges-in-None t c =
    let none : single_label c.args.labels.now ≡ None = cc in
    more_labels c.args.scopes.now c.args.of c.args.labels.now none ∙ ap (when_accepted (λ x. Accepts (Many x))) c.in_ok-ranges-in-None.ensures

pub record_elements-loop-element-preserved : goal.record_elements-loop-element-preserved
record_elements-loop-element-preserved t c =
    let all = c.args.elements.now in
    let place = c.loop-element.element-index in
    let next = c.element-item.result in
    let written = element_written c.args.scopes.now in
    let rest = map written (drop (place + 1) all) in
    let left : drop place all ≡ next ∷ drop (place + 1) all = left-cons all place next c.loop-element-test.true c.element-item.is in
    let turn : record_elements c.args.fields.now c.args.within.now (map written (drop place all)) (filled_of c.loop-element.filled) ≡ record_elements c.args.fields.now c.args.within.now rest (filled_of c.in_ok-filled.filled) =
    ap (λ es. record_elements c.args.fields.now c.args.within.now (map written es) (filled_of c.loop-element.filled)) left
    ∙ ap (when_accepted (record_elements c.args.fields.now c.args.within.now rest)) c.in_ok-filled.ensures in
    record {
      judged = sym turn ∙ c.loop-element.invariant.judged;
      built = rest-built element_unbuilt all place next c.loop-element-test.true c.element-item.is c.loop-element.invariant.built;
    }

pub with_fields-returns-in_err-places-in-Labelled : goal.with_fields-returns-in_err-places-in-Labelled
with_fields-returns-in_err-places-in-Labelled t c =
    part-exit (λ places. places) filled_of c.from_residual.result c.in_err-places-in-Labelled.field-0.0 _ _ c.from_residual.ensures.1
    (λ n h. names_fail c.args.scopes.now c.args.fields.now c.args.within.now c.args.element.now _ _ _ c.in-Labelled.is (filled_of c.args.before) n h)
    (rw c.items.ensures at c.in_err-places-in-Labelled.ensures)

pub with_fields-returns-in_err-value-in-Labelled : goal.with_fields-returns-in_err-value-in-Labelled
with_fields-returns-in_err-value-in-Labelled t c =
    part-exit typed_of filled_of c.from_residual-in_err-value-in-Labelled.result c.in_err-value-in-Labelled.field-0.0 _ _ c.from_residual-in_err-value-in-Labelled.ensures.1
    (λ n h. field_fails c.args.scopes.now c.args.fields.now c.args.within.now c.args.element.now _ _ _ c.in-Labelled.is (filled_of c.args.before) c.in_ok-places-in-Labelled.places (rw c.items.ensures at c.in_ok-places-in-Labelled.ensures) n h)
    (rw (c.asked_first-asked.ensures, c.items-in-Labelled.ensures, c.items-in-Labelled-2.ensures) at c.in_err-value-in-Labelled.ensures.typed)

pub with_fields-returns-in_ok-value-in-Labelled : goal.with_fields-returns-in_ok-value-in-Labelled
with_fields-returns-in_ok-value-in-Labelled t c =
    rw (field_given_is c.args.scopes.now c.args.fields.now c.args.within.now c.args.element.now _ _ _ c.in-Labelled.is (filled_of c.args.before) c.in_ok-places-in-Labelled.places (rw c.items.ensures at c.in_ok-places-in-Labelled.ensures) (typed_of c.in_ok-value-in-Labelled.value)
    (rw (c.asked_first-asked.ensures, c.items-in-Labelled.ensures, c.items-in-Labelled-2.ensures) at c.in_ok-value-in-Labelled.ensures.typed))
    (rw (c.items-in-Labelled-3.ensures, c.items-in-Labelled-4.ensures) at c.with_fields.ensures)

pub with_fields-returns-in_err-tag-in-Variant : goal.with_fields-returns-in_err-tag-in-Variant
with_fields-returns-in_err-tag-in-Variant t c =
    part-exit typed_of filled_of c.from_residual-in_err-tag-in-Variant.result c.in_err-tag-in-Variant.field-0.0 _ _ c.from_residual-in_err-tag-in-Variant.ensures.1
    (λ n h. tag_fails c.args.scopes.now c.args.fields.now c.args.within.now c.args.element.now _ _ _ _ c.in-Variant.is (filled_of c.args.before) n h)
    (rw c.get.ensures at c.in_err-tag-in-Variant.ensures.typed)

pub with_fields-returns-in_err-choice-in-Variant : goal.with_fields-returns-in_err-choice-in-Variant
with_fields-returns-in_err-choice-in-Variant t c =
    part-exit choice_of filled_of c.from_residual-in_err-choice-in-Variant.result c.in_err-choice-in-Variant.field-0.0 _ _ c.from_residual-in_err-choice-in-Variant.ensures.1
    (λ n h. choice_fails c.args.scopes.now c.args.fields.now c.args.within.now c.args.element.now _ _ _ _ c.in-Variant.is (filled_of c.args.before) (typed_of c.in_ok-tag-in-Variant.tag) (rw c.get.ensures at c.in_ok-tag-in-Variant.ensures.typed) n h)
    (rw c.items-in-Variant.ensures at c.in_err-choice-in-Variant.ensures)
