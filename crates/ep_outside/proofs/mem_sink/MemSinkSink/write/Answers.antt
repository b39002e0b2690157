use Rattle.std.proofs.Common.{is_ok}
use Rattle.ep_outside.proofs.Fronts.{front_kept}
use Rattle.ep_outside.proofs.mem_sink.MemSinkSink.write.Goals as goal

pub returns-then-next_fails-clause-writes : goal.returns-then-next_fails-clause-writes
returns-then-next_fails-clause-writes c = front_kept (is_ok c.extend_from_slice.result) _ _ _ _ c.extend_from_slice.ensures.items
