use Rattle.ep_marker.proofs.Walks.{leaf}
use Rattle.ep_marker.proofs.leaves.forward_body.Goals as goal

pub returns : goal.returns
returns c = leaf c.forward_body.result c.forward_body.new.reader c.forward_body.ensures c.err-refusal.ensures.value c.left-before.ensures c.pass.ensures
