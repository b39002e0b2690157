use Rattle.std.proofs.Common.{length, refl, rules}
use Rattle.ep_gen_expr.proofs.RangeForms.{tests_more}
use Rattle.ep_gen_expr.proofs.ranges.tests_code.Goals as goal

pub loop-range-preserved : goal.loop-range-preserved
loop-range-preserved c =
    tests_more c.args.code.now c.args.body (length c.args.code.now.instructions) c.args.ranges.now c.loop-range.range-index _ refl c.loop-range-test.true (search rules) c.loop-range.invariant c.in_ok-test_code.ensures
