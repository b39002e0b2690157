use Rattle.std.proofs.Common.{◌+◌, ◌*◌, max, map, take}
use Rattle.ep_typed.specs.Trees.{actuals, designators, elements, SetOf}
use Rattle.ep_typed.specs.Viewed.{actual_of, designator_of, element_of}
use Rattle.ep_typed.specs.declared.tree.Actual.{size-Actual}
use Rattle.ep_typed.specs.declared.tree.Element.{size-Element}
use Rattle.ep_typed.specs.declared.tree.MemberDesignator.{size-MemberDesignator}
use Rattle.ep_typed.specs.declared.tree.TypedExpr.{size-TypedExpr}
use Rattle.ep_typed.specs.declared.tree.TypedPlace.{size-TypedPlace}
use Rattle.ep_gen_expr.specs.Growth.{AppendsActuals, AppendsElements, AppendsExpr, AppendsIndexes}
use Rattle.ep_gen_expr.proofs.expressions.+expression.Given as goal

abbrev pub decreases-place_code : goal.decreases-place_code
decreases-place_code l = 4 * size-TypedPlace l.p.now

abbrev pub decreases-index_code : goal.decreases-index_code
decreases-index_code l = 4 * max (size-TypedPlace l.array.now) (size-TypedExpr l.index.now) + 1

abbrev pub decreases-field_code : goal.decreases-field_code
decreases-field_code l = 4 * size-TypedPlace l.variable.now + 1

abbrev pub decreases-variant_code : goal.decreases-variant_code
decreases-variant_code l = 4 * size-TypedPlace l.whole.now + 1

abbrev pub decreases-read_code : goal.decreases-read_code
decreases-read_code l = 4 * size-TypedPlace l.place.now + 1

abbrev pub decreases-expression_code : goal.decreases-expression_code
decreases-expression_code l = 4 * size-TypedExpr l.e.now

abbrev pub decreases-unary_code : goal.decreases-unary_code
decreases-unary_code l = 4 * size-TypedExpr l.operand.now + 1

abbrev pub decreases-binary_code : goal.decreases-binary_code
decreases-binary_code l = 4 * max (size-TypedExpr l.left.now) (size-TypedExpr l.right.now) + 1

abbrev pub decreases-short_code : goal.decreases-short_code
decreases-short_code l = 4 * max (size-TypedExpr l.left.now) (size-TypedExpr l.right.now) + 1

abbrev pub decreases-step_code : goal.decreases-step_code
decreases-step_code l = 4 * max (size-TypedExpr l.value.now) (size-TypedExpr l.count.now) + 1

abbrev pub decreases-call_code : goal.decreases-call_code
decreases-call_code l = 4 * goal.size-call_code l + 2

abbrev pub decreases-indexed_value_code : goal.decreases-indexed_value_code
decreases-indexed_value_code l = 4 * max (size-TypedExpr l.array.now) (size-TypedExpr l.index.now) + 1

abbrev pub decreases-field_value_code : goal.decreases-field_value_code
decreases-field_value_code l = 4 * size-TypedExpr l.whole.now + 1

abbrev pub decreases-variant_value_code : goal.decreases-variant_value_code
decreases-variant_value_code l = 4 * size-TypedExpr l.whole.now + 1

abbrev pub decreases-actuals_code : goal.decreases-actuals_code
decreases-actuals_code l = 4 * goal.size-actuals_code l + 1

abbrev pub decreases-actual_code : goal.decreases-actual_code
decreases-actual_code l = 4 * size-Actual l.actual.now

abbrev pub invariant-actuals_code-loop-actual : goal.invariant-actuals_code-loop-actual
invariant-actuals_code-loop-actual l = AppendsActuals l.fn.code l.code (actuals (map actual_of (take l.actual-index l.given)))

abbrev pub decreases-constructor_code : goal.decreases-constructor_code
decreases-constructor_code l = 4 * goal.size-constructor_code l + 1

abbrev pub decreases-designator_code : goal.decreases-designator_code
decreases-designator_code l = 4 * size-MemberDesignator l.designator.now

abbrev pub decreases-on_sets_code : goal.decreases-on_sets_code
decreases-on_sets_code l = 4 * max (size-TypedExpr l.left.now) (size-TypedExpr l.right.now) + 1

abbrev pub decreases-card_code : goal.decreases-card_code
decreases-card_code l = 4 * size-TypedExpr l.operand.now + 1

abbrev pub invariant-constructor_code-loop-designator : goal.invariant-constructor_code-loop-designator
invariant-constructor_code-loop-designator l = AppendsExpr l.fn.code l.code (SetOf (designators (map designator_of (take l.designator-index l.members))))

abbrev pub decreases-single_code : goal.decreases-single_code
decreases-single_code l = 4 * size-TypedExpr l.value.now + 1

abbrev pub decreases-range_code : goal.decreases-range_code
decreases-range_code l = 4 * max (size-TypedExpr l.first.now) (size-TypedExpr l.last.now) + 1

abbrev pub decreases-structured_code : goal.decreases-structured_code
decreases-structured_code l = 4 * goal.size-structured_code l + 2

abbrev pub decreases-elements_code : goal.decreases-elements_code
decreases-elements_code l = 4 * goal.size-elements_code l + 1

abbrev pub decreases-element_code : goal.decreases-element_code
decreases-element_code l = 4 * size-Element l.element.now

abbrev pub decreases-at_index_code : goal.decreases-at_index_code
decreases-at_index_code l = 4 * max (size-TypedExpr l.index.now) (size-TypedExpr l.value.now) + 1

abbrev pub decreases-at_field_code : goal.decreases-at_field_code
decreases-at_field_code l = 4 * size-TypedExpr l.value.now + 1

abbrev pub decreases-at_ranges_code : goal.decreases-at_ranges_code
decreases-at_ranges_code l = 4 * size-TypedExpr l.value.now + 1

abbrev pub invariant-elements_code-loop-element : goal.invariant-elements_code-loop-element
invariant-elements_code-loop-element l = AppendsElements l.fn.code l.code (elements (map element_of (take l.element-index l.elements)))

abbrev pub decreases-at_indexes_code : goal.decreases-at_indexes_code
decreases-at_indexes_code l = 4 * max (goal.size-at_indexes_code l) (size-TypedExpr l.value.now) + 2

abbrev pub decreases-indexes_code : goal.decreases-indexes_code
decreases-indexes_code l = 4 * goal.size-indexes_code l + 1

abbrev pub decreases-index_range_code : goal.decreases-index_range_code
decreases-index_range_code l = 4 * size-MemberDesignator l.range.now

abbrev pub invariant-indexes_code-loop-range : goal.invariant-indexes_code-loop-range
invariant-indexes_code-loop-range l = AppendsIndexes l.fn.code l.code (designators (map designator_of (take l.range-index l.indexes)))

abbrev pub decreases-index_alone_code : goal.decreases-index_alone_code
decreases-index_alone_code l = 4 * size-TypedExpr l.index.now + 1

abbrev pub decreases-index_pair_code : goal.decreases-index_pair_code
decreases-index_pair_code l = 4 * max (size-TypedExpr l.first.now) (size-TypedExpr l.last.now) + 1
