use Rattle.std.proofs.Common.{◌≡◌, ◌∷◌, take}
use Rattle.ep_unit_rules.proofs.headings.one_more.Given as goal

abbrev pub invariant-loop-other : goal.invariant-loop-other
invariant-loop-other l = l.all ≡ l.fn.inner ∷ take l.other-index l.around
