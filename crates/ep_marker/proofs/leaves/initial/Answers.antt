use Rattle.ep_marker.proofs.Walks.{leaf}
use Rattle.ep_marker.proofs.leaves.initial.Goals as goal

pub returns : goal.returns
returns c = leaf c.initial.result c.initial.new.reader c.initial.ensures c.err-refusal.ensures.value c.left-before.ensures c.pass.ensures
