use Rattle.std.proofs.Common.{◌≡◌, drop, map}
use Rattle.ep_threats.specs.Threats.{any_true}
use Rattle.ep_unit_rules.specs.Giving.{addend_gives, any_inside, argument_gives, element_gives, expression_gives, label_gives, multiplier_gives, selector_gives}
use Rattle.ep_unit_rules.proofs.giving.+giving_expressions.Given as goal

abbrev pub invariant-addends-loop-addend : goal.invariant-addends-loop-addend
invariant-addends-loop-addend l = any_true (map (addend_gives l.name) (drop l.addend-index l.all)) ≡ any_true (map (addend_gives l.name) l.all)

abbrev pub invariant-multipliers-loop-multiplier : goal.invariant-multipliers-loop-multiplier
invariant-multipliers-loop-multiplier l = any_true (map (multiplier_gives l.name) (drop l.multiplier-index l.all)) ≡ any_true (map (multiplier_gives l.name) l.all)

abbrev pub invariant-selectors-loop-s : goal.invariant-selectors-loop-s
invariant-selectors-loop-s l = any_true (map (selector_gives l.name) (drop l.s-index l.all)) ≡ any_true (map (selector_gives l.name) l.all)

abbrev pub invariant-indexes-loop-e : goal.invariant-indexes-loop-e
invariant-indexes-loop-e l = any_inside (map (expression_gives l.name) (drop l.e-index l.all)) ≡ any_inside (map (expression_gives l.name) l.all)

abbrev pub invariant-arguments-loop-a : goal.invariant-arguments-loop-a
invariant-arguments-loop-a l = any_true (map (argument_gives l.name) (drop l.a-index l.all)) ≡ any_true (map (argument_gives l.name) l.all)

abbrev pub invariant-labels-loop-l : goal.invariant-labels-loop-l
invariant-labels-loop-l l = any_true (map (label_gives l.name) (drop l.l-index l.all)) ≡ any_true (map (label_gives l.name) l.all)

abbrev pub invariant-elements-loop-e : goal.invariant-elements-loop-e
invariant-elements-loop-e l = any_true (map (element_gives l.name) (drop l.e-index l.all)) ≡ any_true (map (element_gives l.name) l.all)
