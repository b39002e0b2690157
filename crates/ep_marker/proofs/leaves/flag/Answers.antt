use Rattle.ep_marker.proofs.Walks.{passed}
use Rattle.ep_marker.proofs.leaves.flag.Goals as goal

pub returns : goal.returns
returns c = passed c.takes_word.ensures c.left-before.ensures c.pass.ensures
