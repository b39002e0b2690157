use Rattle.std.proofs.Common.{◌≡◌, ℕ, [], Some, slice_get, vec_len}
use Rattle.std.specs.declared.vec.Vec.{Vec}
use Rattle.std.specs.declared.alloc.Global.{Global}
use Rattle.ep_order.specs.declared.queue.Waiter.{Waiter}
use Rattle.ep_order.proofs.queue.Queue.empty.Given as goal

abbrev pub invariant-loop : goal.invariant-loop
invariant-loop l = record {
  rows : vec_len l.waiting ≡ l.counter;
  empty : (place : ℕ) (row : Vec Waiter Global) → slice_get l.waiting.items place ≡ Some row → row.items ≡ [];
}
