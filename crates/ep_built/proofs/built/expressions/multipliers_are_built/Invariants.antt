use Rattle.std.proofs.Common.{◌≡◌, drop, map}
use Rattle.ep_built.specs.Built.{multiplier_belonging, all_are_built}
use Rattle.ep_built.proofs.built.expressions.multipliers_are_built.Given as goal

abbrev pub invariant-loop-multiplier : goal.invariant-loop-multiplier
invariant-loop-multiplier l = all_are_built (map multiplier_belonging (drop l.multiplier-index l.all)) ≡ all_are_built (map multiplier_belonging l.all)
