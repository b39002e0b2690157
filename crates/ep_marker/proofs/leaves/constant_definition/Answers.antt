use Rattle.ep_marker.proofs.Walks.{leaf}
use Rattle.ep_marker.proofs.leaves.constant_definition.Goals as goal

pub returns : goal.returns
returns c = leaf c.constant_definition.result c.constant_definition.new.reader c.constant_definition.ensures c.err-refusal.ensures.value c.left-before.ensures c.pass.ensures
