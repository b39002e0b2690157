use Rattle.std.proofs.Common.{◌≡◌, ◌++◌, take}
use Rattle.ep_imports.specs.Brought.{unlisted}
use Rattle.ep_imports.proofs.import.with_unlisted.Given as goal

abbrev pub invariant-loop-constituent : goal.invariant-loop-constituent
invariant-loop-constituent l = l.all ≡ l.fn.listed ++ unlisted l.pairs (take l.constituent-index l.constituents)
