use Rattle.std.proofs.Common.{◌≡◌}
use Rattle.ep_object.specs.Frames.{frame_above}
use Rattle.ep_machine.proofs.state.above.Given as goal

abbrev pub invariant-loop-left : goal.invariant-loop-left
invariant-loop-left l = frame_above l.calls l.left l.frame ≡ frame_above l.calls l.up l.fn.from

abbrev pub decreases-loop-left : goal.decreases-loop-left
decreases-loop-left l = l.left
