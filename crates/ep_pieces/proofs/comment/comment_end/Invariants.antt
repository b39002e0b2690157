use Rattle.std.proofs.Common.{◌≡◌, false, drop}
use Rattle.ep_token.specs.Reading.{comment_end}
use Rattle.ep_pieces.proofs.comment.comment_end.Given as goal

abbrev pub invariant-loop-i : goal.invariant-loop-i
invariant-loop-i l = comment_end l.after_star l.i (drop l.i l.text) ≡ comment_end false 0 l.text
