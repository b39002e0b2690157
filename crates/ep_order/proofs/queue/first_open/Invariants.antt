use Rattle.ep_order.specs.Placings.{ArePlacedBefore}
use Rattle.ep_order.proofs.queue.first_open.Given as goal

abbrev pub invariant-loop-number : goal.invariant-loop-number
invariant-loop-number l = ArePlacedBefore l.placed.items l.suppliers l.number
