use Rattle.std.proofs.Common.{◌≡◌, ◌<◌, ℕ, length, get_or}
use Rattle.ep_rows.specs.Members.{either, is_one}
use Rattle.ep_rows.proofs.members.combined.Given as goal

abbrev pub invariant-loop-place : goal.invariant-loop-place
invariant-loop-place l = record {
  size : length l.words ≡ 8;
  done : (k : ℕ) → k < l.place → (i : ℕ) → is_one (get_or l.words k 0) i ≡ either l.combination (is_one (get_or l.a.words k 0) i) (is_one (get_or l.b.words k 0) i);
}
