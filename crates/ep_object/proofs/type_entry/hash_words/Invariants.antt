use Rattle.std.proofs.Common.{◌≡◌, drop, fold}
use Rattle.ep_object.specs.TypeEntries.{words_writes}
use Rattle.ep_object.proofs.type_entry.hash_words.Given as goal

abbrev pub invariant-loop-place : goal.invariant-loop-place
invariant-loop-place g l = fold g.H.Hasher.write l.state (words_writes (drop l.place l.words)) ≡ fold g.H.Hasher.write l.initial.state (words_writes l.words)
