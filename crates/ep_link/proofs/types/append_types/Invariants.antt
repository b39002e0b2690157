use Rattle.std.proofs.Common.{◌≡◌, ◌++◌, map, take}
use Rattle.ep_object.specs.Placing.{placed_type}
use Rattle.ep_link.proofs.types.append_types.Given as goal

abbrev pub invariant-loop-constant_type : goal.invariant-loop-constant_type
invariant-loop-constant_type l =
    l.image ≡ l.initial.image ++ map (placed_type l.span) (take l.constant_type-index l.types)
