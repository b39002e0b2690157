use Rattle.std.proofs.Common.{◌<◌, ℕ, true, get_or}
use Rattle.ep_rows.specs.Members.{AreInside}
use Rattle.ep_rows.proofs.members.is_between.Given as goal

abbrev pub invariant-loop-place : goal.invariant-loop-place
invariant-loop-place l = (k : ℕ) → k < l.place → AreInside true l.lo l.hi k (get_or l.set.words k 0)
