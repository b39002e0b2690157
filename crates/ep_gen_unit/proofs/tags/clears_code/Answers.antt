use Rattle.std.proofs.Common.{rules, arith}
use Rattle.ep_gen_unit.proofs.TagForms.{clears_more}
use Rattle.ep_gen_unit.proofs.tags.clears_code.Goals as goal

pub loop-ranges-preserved : goal.loop-ranges-preserved
loop-ranges-preserved c = (
  omega (arith, c.loop-ranges.invariant.0),
  clears_more c.args.code.now c.args.first c.args.all.now c.loop-ranges.ranges-index c.in_ok-number.number _ c.loop-ranges-test.true (search rules) (omega (arith, c.in_ok-number.ensures.0, c.loop-ranges.invariant.0)) c.loop-ranges.invariant.1 c.in_ok-cleared_code.ensures,
)
