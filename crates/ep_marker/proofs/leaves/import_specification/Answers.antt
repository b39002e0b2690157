use Rattle.ep_marker.proofs.Walks.{leaf}
use Rattle.ep_marker.proofs.leaves.import_specification.Goals as goal

pub returns : goal.returns
returns c = leaf c.import_specification.result c.import_specification.new.reader c.import_specification.ensures c.err-refusal.ensures.value c.left-before.ensures c.pass.ensures
