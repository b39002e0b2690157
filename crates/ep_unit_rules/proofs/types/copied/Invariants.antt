use Rattle.std.proofs.Common.{◌≡◌, take}
use Rattle.ep_unit_rules.proofs.types.copied.Given as goal

abbrev pub invariant-loop-name : goal.invariant-loop-name
invariant-loop-name l = l.copy ≡ take l.name-index l.names
