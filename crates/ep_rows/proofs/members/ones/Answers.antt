use Rattle.std.proofs.lemmas.Nat.{ones-le}
use Rattle.ep_rows.proofs.members.ones.Goals as goal

pub returns-clause-few : goal.returns-clause-few
returns-clause-few c = ones-le 32 c.args.word c.ranges.word.fits
