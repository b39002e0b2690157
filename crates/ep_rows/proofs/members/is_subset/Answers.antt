use Rattle.ep_rows.proofs.SetBits.{subset_told}
use Rattle.ep_rows.proofs.members.is_subset.Goals as goal

pub returns : goal.returns
returns c = subset_told c.args.a c.args.b c.combined.result c.is_empty.result c.combined.ensures.told c.is_empty.ensures
