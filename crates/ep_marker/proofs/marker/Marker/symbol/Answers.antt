use Rattle.ep_marker.proofs.Walks.{leaf}
use Rattle.ep_marker.proofs.marker.Marker.symbol.Goals as goal

pub returns : goal.returns
returns c = λ room. leaf c.symbol.result c.symbol.new.self c.symbol.ensures c.err-refusal.ensures.value c.left-before.ensures c.pass.ensures
