use Rattle.std.proofs.Common.{◌≡◌, ℕ, List, take}
use Rattle.std.specs.Option.{option_copied}
use Rattle.ep_linkable.specs.Registers.{IsTwice, place_in, place_under, seen}
use Rattle.ep_linkable.proofs.register.Register.of.Given as goal

abbrev pub invariant-loop-entry : goal.invariant-loop-entry
invariant-loop-entry l = record {
  places : (name : List ℕ) → place_under l.register name ≡ place_in (seen (take l.entry-index l.entries)) name;
  twice : IsTwice (seen (take l.entry-index l.entries)) (option_copied l.register.twice);
}
