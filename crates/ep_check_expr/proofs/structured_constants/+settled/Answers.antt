use Rattle.std.proofs.Common.{◌∙◌, subst, sym}
use Rattle.ep_check_expr.specs.StructuredConstants.{AreSettled, IsSettled, IsSettledElement}
use Rattle.ep_check_expr.proofs.Settled.{settled_all, settled_field, settled_ranges, settled_step, settled_structured}
use Rattle.ep_check_expr.proofs.structured_constants.+settled.Goals as goal

pub is_settled-returns-in-Structured : goal.is_settled-returns-in-Structured
is_settled-returns-in-Structured t c settled =
    let x = c.in-Structured in
    subst IsSettled (sym x.is) (settled_structured x.field-0 x.given (subst AreSettled (c.items.ensures ∙ c.get.ensures) (c.are_settled.ensures settled)))

pub is_settled_element-returns-in-AtRanges : goal.is_settled_element-returns-in-AtRanges
is_settled_element-returns-in-AtRanges t c settled =
    let x = c.in-AtRanges in
    subst IsSettledElement (sym x.is) (settled_ranges x.field-0 x.value (subst IsSettled c.get.ensures (c.is_settled.ensures settled)))

pub is_settled_element-returns-in-AtField : goal.is_settled_element-returns-in-AtField
is_settled_element-returns-in-AtField t c settled =
    let x = c.in-AtField in
    subst IsSettledElement (sym x.is) (settled_field x.field-0 x.value (subst IsSettled c.get-in-AtField.ensures (c.is_settled-in-AtField.ensures settled)))

pub are_settled-loop-one-preserved : goal.are_settled-loop-one-preserved
are_settled-loop-one-preserved t c =
    settled_step c.args.all.now c.loop-one.one-index c.one-item.result c.loop-one-test.true c.one-item.is (c.is_settled_element.ensures c.if-not-is_settled_element.false) c.loop-one.invariant

pub are_settled-returns : goal.are_settled-returns
are_settled-returns t c settled = settled_all c.args.all.now c.loop-one.one-index c.loop-one-test.false c.loop-one.invariant
