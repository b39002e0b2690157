use Rattle.std.proofs.Common.{◌+◌, map, w64, arith}
use Rattle.std.proofs.lemmas.Int.{to_z_pos, to_z-of_z}
use Rattle.ep_typed.specs.Trees.{actuals, designators, elements}
use Rattle.ep_typed.proofs.public.DesignatorCounts.{counted}
use Rattle.ep_typed.specs.Viewed.{actual_of, callee_of, designator_of, element_of, expr_of}
use Rattle.ep_gen_expr.proofs.ActualForms.{appends_call, actuals_more}
use Rattle.ep_gen_code.proofs.public.Growing.{on_ok}
use Rattle.ep_gen_expr.proofs.Forms.{appends_short, appends_step}
use Rattle.ep_gen_expr.proofs.SetForms.{set_more}
use Rattle.ep_gen_expr.proofs.RangeIndexes.{appends_alone, appends_at_indexes, indexes_more}
use Rattle.ep_gen_expr.proofs.StructuredForms.{appends_at_field, appends_at_index, appends_at_ranges, appends_structured, elements_more}
use Rattle.ep_gen_expr.proofs.expressions.+expression.Goals as goal

pub short_code-returns : goal.short_code-returns
short_code-returns t c =
    on_ok c.land.result (appends_short c.args.operation (expr_of c.args.left.now) (expr_of c.args.right.now) c.in_ok-leave.leave c.in_ok-expression_code.ensures c.in_ok-leave.ensures c.in_ok-expression_code-2.ensures) c.land.ensures

pub step_code-returns : goal.step_code-returns
step_code-returns t c =
    let low = to_z-of_z w64 c.args.low c.ranges.low in
    let high = to_z-of_z w64 c.args.high c.ranges.high in
    on_ok c.apply_step.result (appends_step c.args.down c.args.low c.args.high (expr_of c.args.value.now) (expr_of c.args.count.now) c.in_ok-expression_code.ensures c.in_ok-expression_code-2.ensures) (rw (low, high) at c.apply_step.ensures)

pub call_code-returns : goal.call_code-returns
call_code-returns t c =
    let routine = to_z_pos w64 c.in_ok-routine.routine (omega arith) in
    let next = to_z_pos w64 (c.in_ok-next.field-0 + 1) (omega (arith, c.in_ok-next.ensures.small)) in
    on_ok c.emit-2.result (appends_call (callee_of c.args.callee.now) (actuals (map actual_of c.args.given.now)) c.in_ok-routine.routine c.in_ok-next.field-0 c.in_ok-actuals_code.ensures c.in_ok-routine.ensures (rw routine at c.in_ok-emit.ensures) c.in_ok-next.ensures) (rw next at c.emit-2.ensures)

pub actuals_code-loop-actual-preserved : goal.actuals_code-loop-actual-preserved
actuals_code-loop-actual-preserved t c = actuals_more actual_of c.args.given.now c.loop-actual.actual-index c.actual-item.result c.loop-actual-test.true c.actual-item.is c.loop-actual.invariant c.in_ok-actual_code.ensures

pub constructor_code-loop-designator-preserved : goal.constructor_code-loop-designator-preserved
constructor_code-loop-designator-preserved t c = set_more designator_of c.args.members.now c.loop-designator.designator-index c.designator-item.result c.loop-designator-test.true c.designator-item.is c.loop-designator.invariant c.in_ok-designator_code.ensures

pub elements_code-loop-element-preserved : goal.elements_code-loop-element-preserved
elements_code-loop-element-preserved t c = elements_more element_of c.args.elements.now c.loop-element.element-index c.element-item.result c.loop-element-test.true c.element-item.is c.loop-element.invariant c.in_ok-element_code.ensures

pub structured_code-returns : goal.structured_code-returns
structured_code-returns t c =
    on_ok c.end_structured.result (appends_structured c.args.number (elements (map element_of c.args.elements.now)) c.in_ok-begin_structured.ensures c.in_ok-elements_code.ensures) c.end_structured.ensures

pub at_index_code-returns : goal.at_index_code-returns
at_index_code-returns t c =
    on_ok c.emit-3.result (appends_at_index (expr_of c.args.index.now) (expr_of c.args.value.now) c.in_ok-emit.ensures c.in_ok-expression_code.ensures c.in_ok-emit-2.ensures c.in_ok-expression_code-2.ensures) c.emit-3.ensures

pub at_field_code-returns : goal.at_field_code-returns
at_field_code-returns t c =
    on_ok c.emit.result (appends_at_field c.args.steps.now (expr_of c.args.value.now) c.in_ok-reach_field.ensures c.in_ok-expression_code.ensures) c.emit.ensures

pub at_ranges_code-returns : goal.at_ranges_code-returns
at_ranges_code-returns t c =
    on_ok c.fill_ranges.result (appends_at_ranges c.args.ranges.now (expr_of c.args.value.now) c.in_ok-reach_first.ensures c.in_ok-expression_code.ensures c.in_ok-emit.ensures) c.fill_ranges.ensures

pub indexes_code-loop-range-preserved : goal.indexes_code-loop-range-preserved
indexes_code-loop-range-preserved t c = indexes_more designator_of c.args.indexes.now c.loop-range.range-index c.range-item.result c.loop-range-test.true c.range-item.is c.loop-range.invariant c.in_ok-index_range_code.ensures

pub at_indexes_code-returns : goal.at_indexes_code-returns
at_indexes_code-returns t c =
    on_ok c.emit.result (appends_at_indexes (designators (map designator_of c.args.indexes.now)) (expr_of c.args.value.now) _ (counted c.args.indexes.now) c.in_ok-indexes_code.ensures c.in_ok-expression_code.ensures c.in_ok-spread_values.ensures) c.emit.ensures

pub index_alone_code-returns : goal.index_alone_code-returns
index_alone_code-returns t c =
    on_ok c.test_range.result (appends_alone (expr_of c.args.index.now) c.in_ok-expression_code.ensures c.in_ok-emit.ensures) c.test_range.ensures
