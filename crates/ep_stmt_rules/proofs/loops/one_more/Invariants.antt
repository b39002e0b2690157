use Rattle.std.proofs.Common.{◌≡◌, ◌∷◌, take}
use Rattle.ep_stmt_rules.proofs.loops.one_more.Given as goal

abbrev pub invariant-loop-other : goal.invariant-loop-other
invariant-loop-other l = l.all ≡ l.control ∷ take l.other-index l.controls
