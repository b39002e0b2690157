use Rattle.ep_marker.proofs.Walks.{leaf}
use Rattle.ep_marker.proofs.leaves.parameters.Goals as goal

pub returns : goal.returns
returns c = leaf c.parameters.result c.parameters.new.reader c.parameters.ensures c.err-refusal.ensures.value c.left-before.ensures c.pass.ensures
