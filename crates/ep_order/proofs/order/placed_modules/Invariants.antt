use Rattle.std.proofs.Common.{◌≡◌, length}
use Rattle.ep_order.specs.Placings.{IsPlacing}
use Rattle.ep_order.specs.Queues.{IsSound, IsWhole}
use Rattle.ep_order.proofs.order.placed_modules.Given as goal

abbrev pub invariant-loop-place : goal.invariant-loop-place
invariant-loop-place l = record {
  limit : l.placed.limit ≡ length l.units;
  placing : IsPlacing l.units l.placed.items;
  sound : IsSound l.units l.placed.items l.queue;
  whole : IsWhole l.units l.placed.items l.queue;
}

abbrev pub decreases-loop-place : goal.decreases-loop-place
decreases-loop-place l = l.placed.left
