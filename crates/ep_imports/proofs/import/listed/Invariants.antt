use Rattle.std.proofs.Common.{◌≡◌, take}
use Rattle.ep_imports.specs.Brought.{listed}
use Rattle.ep_imports.proofs.import.listed.Given as goal

abbrev pub invariant-loop-pair : goal.invariant-loop-pair
invariant-loop-pair l = l.all ≡ listed l.offer.constituents (take l.pair-index l.pairs)
