use Rattle.std.proofs.Common.{◌≡◌, ℕ, List, take}
use Rattle.ep_imports.specs.Brought.{denoted_as}
use Rattle.ep_imports.specs.Found.{found}
use Rattle.ep_imports.proofs.offer.by_names.Given as goal

abbrev pub invariant-loop-constituent : goal.invariant-loop-constituent
invariant-loop-constituent l = (name : List ℕ) → found l.denoted name ≡ denoted_as (take l.constituent-index l.constituents) name
