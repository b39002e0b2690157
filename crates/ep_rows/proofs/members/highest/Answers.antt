use Rattle.ep_rows.proofs.SetWords.{highest_is}
use Rattle.ep_rows.proofs.members.highest.Goals as goal

pub returns : goal.returns
returns c = highest_is c.ilog2.result c.args.word c.ilog2.ensures.bound c.ilog2.ensures.power_le c.ilog2.ensures.next_power_gt
