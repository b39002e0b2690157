use Rattle.std.proofs.Common.{◌≡◌, ◌≤◌, ◌*◌}
use Rattle.ep_frames.specs.Members.{is_told}
use Rattle.ep_object.proofs.public.Sets.{count_below}
use Rattle.ep_rows.proofs.members.count.Given as goal

abbrev pub invariant-loop-place : goal.invariant-loop-place
invariant-loop-place l = record {
  count : l.members ≡ count_below (is_told l.set.words) (l.place * 32);
  few : l.members ≤ l.place * 32;
}
