use Rattle.std.proofs.Common.{refl, arith}
use Rattle.ep_marker.proofs.Forms.{append-nil}
use Rattle.ep_marker.proofs.marker.Marker.pass.Goals as goal

pub loop-token-init : goal.loop-token-init
loop-token-init c = record { reader = refl; stop = refl; turns = omega arith; items = append-nil _ }
