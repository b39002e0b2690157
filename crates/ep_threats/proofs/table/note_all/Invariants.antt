use Rattle.std.proofs.Common.{◌≡◌, ℕ, true, false, drop, nat_eq}
use Rattle.std.specs.List.{list_any}
use Rattle.ep_threats.specs.Inner.{IsNoted, KeepsNoted}
use Rattle.ep_threats.proofs.table.note_all.Given as goal

abbrev pub invariant-loop-number : goal.invariant-loop-number
invariant-loop-number l =
    KeepsNoted l.fn.places.entries l.places.entries
    × ((n : ℕ) → list_any (nat_eq n) l.numbers ≡ true → list_any (nat_eq n) (drop l.number-index l.numbers) ≡ false → IsNoted l.places.entries n l.place)
