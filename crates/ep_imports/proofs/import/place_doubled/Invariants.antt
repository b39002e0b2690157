use Rattle.std.proofs.Common.{drop}
use Rattle.ep_imports.specs.Brought.{names_here}
use Rattle.ep_imports.specs.Parts.{HaveSame, IsFirstDoubled}
use Rattle.ep_imports.proofs.import.place_doubled.Given as goal

abbrev pub invariant-loop-place : goal.invariant-loop-place
invariant-loop-place l = record {
  same : HaveSame l.behind (names_here (drop l.place l.brought));
  first : IsFirstDoubled l.brought (drop l.place l.brought) l.doubled;
}
