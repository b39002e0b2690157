use Rattle.std.proofs.Common.{◌≡◌, drop}
use Rattle.ep_unit_rules.specs.Variants.{bounds_nodes}
use Rattle.ep_unit_rules.proofs.variants.bounds_nodes.Given as goal

abbrev pub invariant-loop-range : goal.invariant-loop-range
invariant-loop-range l = bounds_nodes l.all (drop l._range-index l.ranges) ≡ bounds_nodes l.nodes l.ranges
