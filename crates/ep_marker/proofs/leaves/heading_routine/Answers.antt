use Rattle.ep_marker.proofs.Walks.{leaf}
use Rattle.ep_marker.proofs.leaves.heading_routine.Goals as goal

pub returns : goal.returns
returns c = leaf c.heading_routine.result c.heading_routine.new.reader c.heading_routine.ensures c.err-refusal.ensures.value c.left-before.ensures c.pass.ensures
