use Rattle.ep_marker.proofs.Walks.{leaf}
use Rattle.ep_marker.proofs.leaves.names.Goals as goal

pub returns : goal.returns
returns c = leaf c.names.result c.names.new.reader c.names.ensures c.err-refusal.ensures.value c.left-before.ensures c.pass.ensures
