use Rattle.ep_rows.proofs.SetBits.{zero_told}
use Rattle.ep_rows.proofs.members.is_zero.Goals as goal

pub returns : goal.returns
returns c = zero_told c.args.word c.ranges.word.fits
