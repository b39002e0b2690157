use Rattle.ep_marker.proofs.Walks.{leaf}
use Rattle.ep_marker.proofs.leaves.accesses.Goals as goal

pub returns : goal.returns
returns c = leaf c.accesses.result c.accesses.new.reader c.accesses.ensures c.err-refusal.ensures.value c.left-before.ensures c.pass.ensures
