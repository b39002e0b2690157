use Rattle.std.proofs.Common.{◌<◌, ℕ, pos, None, get_or}
use Rattle.ep_rows.specs.Members.{IsLeastIn}
use Rattle.ep_rows.proofs.members.least.Given as goal

abbrev pub invariant-loop-place : goal.invariant-loop-place
invariant-loop-place l = (k : ℕ) → k < l.place → IsLeastIn (pos l.from) k (get_or l.set.words k 0) None
