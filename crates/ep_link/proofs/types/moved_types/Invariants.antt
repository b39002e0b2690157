use Rattle.std.proofs.Common.{◌≡◌, map, take}
use Rattle.ep_object.specs.Placing.{moved_type}
use Rattle.ep_link.proofs.types.moved_types.Given as goal

abbrev pub invariant-loop-number : goal.invariant-loop-number
invariant-loop-number l = l.moved ≡ map (moved_type l.span) (take l.number-index l.numbers)
