use Rattle.std.proofs.Common.{ℕ, ◌<◌}
use Rattle.ep_order.specs.Dependents.{IsModuleAt}
use Rattle.ep_order.specs.Queues.{IsSound, IsKept}
use Rattle.ep_order.proofs.queue.Queue.of_modules.Given as goal

abbrev pub invariant-loop-place : goal.invariant-loop-place
invariant-loop-place l = record {
  sound : IsSound l.units l.placed.items l.queue;
  whole : (other : ℕ) → other < l.place → IsModuleAt l.units other → IsKept l.units l.placed.items l.queue other;
}
