use Rattle.ep_marker.proofs.Walks.{leaf}
use Rattle.ep_marker.proofs.leaves.direction.Goals as goal

pub returns : goal.returns
returns c = leaf c.direction.result c.direction.new.self c.direction.ensures c.err-refusal.ensures.value c.left-before.ensures c.pass.ensures
