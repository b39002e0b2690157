use Rattle.std.proofs.Common.{◌≡◌, ◌<◌, ℕ, length, get_or, slice_get}
use Rattle.ep_object.specs.Sets.{tells, word_members}
use Rattle.ep_rows.specs.Members.{is_one}
use Rattle.ep_rows.proofs.members.read.Given as goal

abbrev pub invariant-loop-place : goal.invariant-loop-place
invariant-loop-place l = record {
  size : length l.read ≡ 8;
  done : (k : ℕ) → k < l.place → (i : ℕ) → i < word_members → is_one (get_or l.read k 0) i ≡ tells i (slice_get l.words k);
}
