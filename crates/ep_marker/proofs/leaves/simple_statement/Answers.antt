use Rattle.ep_marker.proofs.Walks.{leaf}
use Rattle.ep_marker.proofs.leaves.simple_statement.Goals as goal

pub returns : goal.returns
returns c = leaf c.simple_statement.result c.simple_statement.new.reader c.simple_statement.ensures c.err-refusal.ensures.value c.left-before.ensures c.pass.ensures
