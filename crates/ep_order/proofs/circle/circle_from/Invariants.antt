use Rattle.std.proofs.Common.{◌≡◌, length}
use Rattle.std.specs.List.{Contains}
use Rattle.ep_order.specs.Dependents.{IsModuleAt}
use Rattle.ep_order.specs.Placings.{IsWalk}
use Rattle.ep_order.proofs.circle.circle_from.Given as goal

abbrev pub invariant-loop-path : goal.invariant-loop-path
invariant-loop-path l = record {
  limit : l.path.limit ≡ length l.units;
  walk : IsWalk l.units l.path.items l.place;
  module' : IsModuleAt l.units l.place;
  left : ¬ Contains l.placed.items l.place;
}

abbrev pub decreases-loop-path : goal.decreases-loop-path
decreases-loop-path l = l.path.left
