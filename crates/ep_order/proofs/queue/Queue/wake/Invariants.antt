use Rattle.ep_order.proofs.Rounds.{IsWaking}
use Rattle.ep_order.proofs.queue.Queue.wake.Given as goal

abbrev pub invariant-loop-waiter : goal.invariant-loop-waiter
invariant-loop-waiter l = IsWaking l.units l.placed.items l.place l.waiter-items l.self l.waiter-index
