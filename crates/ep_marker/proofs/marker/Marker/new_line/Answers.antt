use Rattle.ep_marker.proofs.Walks.{started}
use Rattle.ep_marker.proofs.marker.Marker.new_line.Goals as goal

pub returns : goal.returns
returns c = λ room. started c.len-first.ensures (c.word.ensures room) c.start.ensures
