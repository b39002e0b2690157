use Rattle.std.proofs.Common.{length, ◌-◌}
use Rattle.ep_token.proofs.public.TokenLaws.{Reached}
use Rattle.ep_token.proofs.source.scan.Given as goal

abbrev pub invariant-loop-place : goal.invariant-loop-place
invariant-loop-place l = Reached l.source l.found.items l.place l.line

abbrev pub decreases-loop-place : goal.decreases-loop-place
decreases-loop-place l = length l.source - l.place
