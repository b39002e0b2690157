use Rattle.std.proofs.Common.{SFits, rules, w64}
use Rattle.std.proofs.lemmas.Int.{to_z-of_z}
use Rattle.ep_gen_expr.proofs.StructuredForms.{ranges_more}
use Rattle.ep_gen_expr.proofs.structured.fill_ranges.Goals as goal

pub loop-range-preserved : goal.loop-range-preserved
loop-range-preserved c =
    let fits : SFits w64 c.first_index-from.result = search rules in
    let from = to_z-of_z w64 c.first_index-from.result fits in
    rw from (ranges_more c.first_index-from.result c.args.ranges.now c.loop-range.range-index _ c.loop-range-test.true (search rules) (rw from at c.loop-range.invariant) (rw from at c.in_ok-fill_range.ensures))
