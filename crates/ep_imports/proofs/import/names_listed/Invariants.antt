use Rattle.std.proofs.Common.{◌≡◌, ℕ, List, take}
use Rattle.std.specs.List.{list_any}
use Rattle.std.specs.Str.{bytes_eq}
use Rattle.ep_imports.specs.Brought.{is_listed}
use Rattle.ep_imports.proofs.import.names_listed.Given as goal

abbrev pub invariant-loop-pair : goal.invariant-loop-pair
invariant-loop-pair l = (name : List ℕ) → list_any (bytes_eq name) l.names ≡ is_listed (take l.pair-index l.pairs) name
