use Rattle.std.proofs.Common.{length, refl, rules, arith}
use Rattle.ep_gen_unit.proofs.TagForms.{selections_more}
use Rattle.ep_gen_unit.proofs.tags.selections_code.Goals as goal

pub loop-ranges-preserved : goal.loop-ranges-preserved
loop-ranges-preserved c = (
  omega (arith, c.loop-ranges.invariant.0),
  selections_more c.args.code.now c.args.leave (length c.args.code.now.instructions) c.args.all.now c.loop-ranges.ranges-index c.in_ok-number.number _ refl c.loop-ranges-test.true (search rules) (omega (arith, c.in_ok-number.ensures.0, c.loop-ranges.invariant.0)) c.loop-ranges.invariant.1
      c.in_ok-selection_code.ensures,
)
