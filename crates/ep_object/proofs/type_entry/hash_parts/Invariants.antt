use Rattle.std.proofs.Common.{◌≡◌, drop, fold}
use Rattle.ep_object.specs.TypeEntries.{parts_writes}
use Rattle.ep_object.proofs.type_entry.hash_parts.Given as goal

abbrev pub invariant-loop-place : goal.invariant-loop-place
invariant-loop-place g l = fold g.H.Hasher.write l.state (parts_writes (drop l.place l.parts)) ≡ fold g.H.Hasher.write l.initial.state (parts_writes l.parts)
