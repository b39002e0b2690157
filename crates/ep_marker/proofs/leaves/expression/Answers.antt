use Rattle.ep_marker.proofs.Walks.{leaf}
use Rattle.ep_marker.proofs.leaves.expression.Goals as goal

pub returns : goal.returns
returns c = leaf c.expression.result c.expression.new.reader c.expression.ensures c.err-refusal.ensures.value c.left-before.ensures c.pass.ensures
