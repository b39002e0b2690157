use Rattle.std.proofs.Common.{◌≡◌, ◌∙◌, arith}
use Rattle.ep_values.specs.Sets.{member_limit}
use Rattle.ep_rules.specs.SetFolding.{takes_ordinal}
use Rattle.ep_rules.proofs.Taking.{all_taken, combination_is}
use Rattle.ep_rules.proofs.sets.combined.Goals as goal

pub returns : goal.returns
returns c =
    let all : c.loop-ordinal.ordinal ≡ member_limit = omega (arith, c.loop-ordinal-test.false, c.loop-ordinal.auto.ordinal-end) in
    all_taken (takes_ordinal c.args.operation c.args.first.now c.args.second.now) c.loop-ordinal.ordinal c.loop-ordinal.taken c.loop-ordinal.invariant all
    ∙ combination_is c.args.operation c.args.first.now c.args.second.now
