use Rattle.ep_marker.proofs.Walks.{leaf}
use Rattle.ep_marker.proofs.leaves.discriminants.Goals as goal

pub returns : goal.returns
returns c = leaf c.discriminants.result c.discriminants.new.reader c.discriminants.ensures c.err-refusal.ensures.value c.left-before.ensures c.pass.ensures
