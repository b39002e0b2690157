use Rattle.std.proofs.Common.{length, ◌-◌}
use Rattle.ep_pieces.proofs.Rows.{Split}
use Rattle.ep_pieces.proofs.source.pieces_of.Given as goal

abbrev pub invariant-loop-place : goal.invariant-loop-place
invariant-loop-place l = Split l.source l.tokens l.found.items l.place l.taken

abbrev pub decreases-loop-place : goal.decreases-loop-place
decreases-loop-place l = length l.source - l.place
