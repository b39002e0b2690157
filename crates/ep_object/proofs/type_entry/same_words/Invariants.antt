use Rattle.std.proofs.Common.{◌≡◌, drop}
use Rattle.ep_object.specs.Types.{same_words}
use Rattle.ep_object.proofs.type_entry.same_words.Given as goal

abbrev pub invariant-loop-place : goal.invariant-loop-place
invariant-loop-place l = same_words l.words l.others ≡ same_words (drop l.place l.words) (drop l.place l.others)
