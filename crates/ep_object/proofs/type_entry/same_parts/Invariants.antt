use Rattle.std.proofs.Common.{◌≡◌, drop}
use Rattle.ep_object.specs.Types.{same_parts}
use Rattle.ep_object.proofs.type_entry.same_parts.Given as goal

abbrev pub invariant-loop-place : goal.invariant-loop-place
invariant-loop-place l = same_parts l.parts l.others ≡ same_parts (drop l.place l.parts) (drop l.place l.others)
