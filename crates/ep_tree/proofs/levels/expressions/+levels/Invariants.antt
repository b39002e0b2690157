use Rattle.std.proofs.Common.{◌≡◌, min, max, drop, map}
use Rattle.ep_tree.specs.Nesting.{most_inside, most_of, addend_nesting, argument_nesting, element_nesting, expression_nesting, label_nesting, multiplier_nesting, selector_nesting}
use Rattle.ep_tree.proofs.levels.expressions.+levels.Given as goal

abbrev pub invariant-addends-loop-addend : goal.invariant-addends-loop-addend
invariant-addends-loop-addend l = max l.most (min (most_of (map addend_nesting (drop l.addend-index l.all))) 4294967295) ≡ min (most_of (map addend_nesting l.all)) 4294967295

abbrev pub invariant-elements-loop-e : goal.invariant-elements-loop-e
invariant-elements-loop-e l = max l.most (min (most_of (map element_nesting (drop l.e-index l.all))) 4294967295) ≡ min (most_of (map element_nesting l.all)) 4294967295

abbrev pub invariant-inner_arguments-loop-a : goal.invariant-inner_arguments-loop-a
invariant-inner_arguments-loop-a l = max l.most (min (most_inside (map argument_nesting (drop l.a-index l.all))) 4294967295) ≡ min (most_inside (map argument_nesting l.all)) 4294967295

abbrev pub invariant-inner_expressions-loop-e : goal.invariant-inner_expressions-loop-e
invariant-inner_expressions-loop-e l = max l.most (min (most_inside (map expression_nesting (drop l.e-index l.all))) 4294967295) ≡ min (most_inside (map expression_nesting l.all)) 4294967295

abbrev pub invariant-inner_labels-loop-l : goal.invariant-inner_labels-loop-l
invariant-inner_labels-loop-l l = max l.most (min (most_inside (map label_nesting (drop l.l-index l.all))) 4294967295) ≡ min (most_inside (map label_nesting l.all)) 4294967295

abbrev pub invariant-labels-loop-l : goal.invariant-labels-loop-l
invariant-labels-loop-l l = max l.most (min (most_of (map label_nesting (drop l.l-index l.all))) 4294967295) ≡ min (most_of (map label_nesting l.all)) 4294967295

abbrev pub invariant-multipliers-loop-multiplier : goal.invariant-multipliers-loop-multiplier
invariant-multipliers-loop-multiplier l = max l.most (min (most_of (map multiplier_nesting (drop l.multiplier-index l.all))) 4294967295) ≡ min (most_of (map multiplier_nesting l.all)) 4294967295

abbrev pub invariant-selectors-loop-s : goal.invariant-selectors-loop-s
invariant-selectors-loop-s l = max l.most (min (most_of (map selector_nesting (drop l.s-index l.all))) 4294967295) ≡ min (most_of (map selector_nesting l.all)) 4294967295
