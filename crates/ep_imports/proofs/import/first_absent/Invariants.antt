use Rattle.std.proofs.Common.{◌≡◌, drop}
use Rattle.ep_imports.specs.Brought.{first_absent}
use Rattle.ep_imports.proofs.import.first_absent.Given as goal

abbrev pub invariant-loop-pair : goal.invariant-loop-pair
invariant-loop-pair l = first_absent l.offer.constituents (drop l.pair-index l.pairs) ≡ first_absent l.offer.constituents l.pairs
