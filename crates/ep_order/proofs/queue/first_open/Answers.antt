use Rattle.std.proofs.Common.{arith}
use Rattle.ep_order.proofs.Queues.{placed_all}
use Rattle.ep_order.proofs.queue.first_open.Goals as goal

pub returns : goal.returns
returns c = placed_all _ _ _ c.loop-number.invariant (omega arith)
