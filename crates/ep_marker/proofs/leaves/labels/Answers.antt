use Rattle.ep_marker.proofs.Walks.{leaf}
use Rattle.ep_marker.proofs.leaves.labels.Goals as goal

pub returns : goal.returns
returns c = leaf c.labels.result c.labels.new.reader c.labels.ensures c.err-refusal.ensures.value c.left-before.ensures c.pass.ensures
