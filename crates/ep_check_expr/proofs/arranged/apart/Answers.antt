use Rattle.std.proofs.Common.{rules}
use Rattle.ep_check_expr.proofs.Apartness.{accepted, refused}
use Rattle.ep_check_expr.proofs.arranged.apart.Goals as goal

pub returns-then-not-branch : goal.returns-then-not-branch
returns-then-not-branch c =
    refused c.loop-range.apart c.args.ranges.now c.loop-range.range-index _ c.in_ok-add.field-0 c.in_ok-add.ensures.apart c.loop-range.invariant.0
    (search rules) (search rules) (search rules)

pub loop-range-preserved : goal.loop-range-preserved
loop-range-preserved c =
    accepted c.loop-range.apart c.args.ranges.now c.add.new.self c.loop-range.range-index _ c.in_ok-add.field-0 c.in_ok-add.ensures.apart
    c.in_ok-add.ensures.added c.loop-range.invariant (search rules) (search rules) (search rules)
