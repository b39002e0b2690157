use Rattle.ep_marker.proofs.Walks.{leaf}
use Rattle.ep_marker.proofs.leaves.routine_start.Goals as goal

pub returns : goal.returns
returns c = leaf c.routine_start.result c.routine_start.new.reader c.routine_start.ensures c.err-refusal.ensures.value c.left-before.ensures c.pass.ensures
