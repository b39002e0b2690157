use Rattle.ep_marker.proofs.Walks.{leaf}
use Rattle.ep_marker.proofs.marker.Marker.word.Goals as goal

pub returns : goal.returns
returns c = λ room. leaf c.keyword.result c.keyword.new.self c.keyword.ensures c.err-refusal.ensures.value c.left-before.ensures c.pass.ensures
