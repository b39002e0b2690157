use Rattle.std.proofs.Common.{ℕ, ◌<◌}
use Rattle.std.specs.List.{Contains}
use Rattle.ep_order.specs.Dependents.{IsModuleAt}
use Rattle.ep_order.proofs.order.first_left.Given as goal

abbrev pub invariant-loop-place : goal.invariant-loop-place
invariant-loop-place l = (other : ℕ) → other < l.place → IsModuleAt l.units other → Contains l.placed.items other
