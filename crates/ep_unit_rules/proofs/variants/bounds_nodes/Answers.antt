use Rattle.std.proofs.Common.{◌+◌, drop, sym, ap, ◌∙◌}
use Rattle.ep_unit_rules.specs.Variants.{bounds_nodes}
use Rattle.ep_unit_rules.proofs.VariantParts.{next_bounds}
use Rattle.ep_unit_rules.proofs.variants.bounds_nodes.Goals as goal

pub loop-range-preserved : goal.loop-range-preserved
loop-range-preserved c =
    ap (λ n. bounds_nodes n (drop (c.loop-range._range-index + 1) c.args.ranges.now)) c.counted-all.ensures
    ∙ (sym (next_bounds c.loop-range.all c.args.ranges.now c.loop-range._range-index c.loop-range-test.true) ∙ c.loop-range.invariant)
