use Rattle.ep_marker.proofs.Walks.{leaf}
use Rattle.ep_marker.proofs.leaves.interface.Goals as goal

pub returns : goal.returns
returns c = leaf c.interface.result c.interface.new.self c.interface.ensures c.err-refusal.ensures.value c.left-before.ensures c.pass.ensures
