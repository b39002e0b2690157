use Rattle.ep_marker.proofs.Walks.{leaf}
use Rattle.ep_marker.proofs.leaves.variant_selector.Goals as goal

pub returns : goal.returns
returns c = leaf c.variant_selector.result c.variant_selector.new.reader c.variant_selector.ensures c.err-refusal.ensures.value c.left-before.ensures c.pass.ensures
