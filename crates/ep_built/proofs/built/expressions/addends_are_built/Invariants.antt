use Rattle.std.proofs.Common.{◌≡◌, drop, map}
use Rattle.ep_built.specs.Built.{addend_belonging, all_are_built}
use Rattle.ep_built.proofs.built.expressions.addends_are_built.Given as goal

abbrev pub invariant-loop-addend : goal.invariant-loop-addend
invariant-loop-addend l = all_are_built (map addend_belonging (drop l.addend-index l.all)) ≡ all_are_built (map addend_belonging l.all)
