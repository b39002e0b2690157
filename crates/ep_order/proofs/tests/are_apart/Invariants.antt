use Rattle.std.proofs.Common.{ℕ, ◌<◌}
use Rattle.ep_order.specs.Tests.{IsApartFrom}
use Rattle.ep_order.proofs.tests.are_apart.Given as goal

abbrev pub invariant-loop-place : goal.invariant-loop-place
invariant-loop-place l = (other : ℕ) → other < l.place → IsApartFrom l.units other other
