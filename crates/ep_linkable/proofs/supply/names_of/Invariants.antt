use Rattle.std.proofs.Common.{◌≡◌, take}
use Rattle.ep_linkable.specs.Units.{names_at}
use Rattle.ep_linkable.proofs.supply.names_of.Given as goal

abbrev pub invariant-loop-place : goal.invariant-loop-place
invariant-loop-place l = l.names ≡ names_at l.units (take l.place-index l.places)
