use Rattle.ep_marker.proofs.Walks.{leaf}
use Rattle.ep_marker.proofs.leaves.core.Goals as goal

pub returns : goal.returns
returns c = leaf c.core.result c.core.new.reader c.core.ensures c.err-refusal.ensures.value c.left-before.ensures c.pass.ensures
