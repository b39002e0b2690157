use Rattle.ep_rows.proofs.SetWords.{lowest_is}
use Rattle.ep_rows.proofs.members.lowest.Goals as goal

pub returns : goal.returns
returns c = lowest_is c.args.word c.requires c.ranges.word.fits
