use Rattle.ep_marker.proofs.Walks.{leaf}
use Rattle.ep_marker.proofs.leaves.export_part.Goals as goal

pub returns : goal.returns
returns c = leaf c.export_part.result c.export_part.new.reader c.export_part.ensures c.err-refusal.ensures.value c.left-before.ensures c.pass.ensures
