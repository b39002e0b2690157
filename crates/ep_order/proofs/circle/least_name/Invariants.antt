use Rattle.std.proofs.Common.{ℕ, ◌<◌, get_or, length}
use Rattle.ep_order.specs.Systems.{IsUpTo}
use Rattle.ep_order.specs.Dependents.{name_at}
use Rattle.ep_order.proofs.circle.least_name.Given as goal

abbrev pub invariant-loop-number : goal.invariant-loop-number
invariant-loop-number l = record {
  within : l.least < length l.places;
  least : (k : ℕ) → k < l.number → IsUpTo (name_at l.units (get_or l.places l.least 0)) (name_at l.units (get_or l.places k 0));
}
