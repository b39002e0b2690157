use Rattle.ep_marker.proofs.Walks.{leaf}
use Rattle.ep_marker.proofs.leaves.name.Goals as goal

pub returns : goal.returns
returns c = leaf c.name.result c.name.new.self c.name.ensures c.err-refusal.ensures.value c.left-before.ensures c.pass.ensures
