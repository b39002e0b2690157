use Rattle.ep_marker.proofs.Walks.{leaf}
use Rattle.ep_marker.proofs.leaves.implementation.Goals as goal

pub returns : goal.returns
returns c = leaf c.implementation.result c.implementation.new.self c.implementation.ensures c.err-refusal.ensures.value c.left-before.ensures c.pass.ensures
