use Rattle.std.proofs.Common.{◌≡◌, ◌<◌, ◌^◌, ℕ, pos, length, get_or}
use Rattle.ep_rows.proofs.members.written.Given as goal

abbrev pub invariant-loop-place : goal.invariant-loop-place
invariant-loop-place l = record {
  size : length l.words ≡ 8;
  done : (k : ℕ) → k < l.place → (get_or l.words k (pos 0) ≡ pos (get_or l.set.words k 0)) × (get_or l.set.words k 0 < 2 ^ 32);
}
