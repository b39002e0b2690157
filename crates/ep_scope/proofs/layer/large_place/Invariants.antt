use Rattle.std.proofs.Common.{◌≡◌, None, drop}
use Rattle.ep_scope.specs.Layers.{large_place}
use Rattle.ep_scope.proofs.layer.large_place.Given as goal

abbrev pub invariant-loop-at : goal.invariant-loop-at
invariant-loop-at l = large_place l.records (drop l.at l.large) l.name ≡ None
