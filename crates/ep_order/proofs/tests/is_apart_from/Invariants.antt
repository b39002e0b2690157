use Rattle.ep_order.specs.Tests.{IsApartFrom}
use Rattle.ep_order.proofs.tests.is_apart_from.Given as goal

abbrev pub invariant-loop-number : goal.invariant-loop-number
invariant-loop-number l = IsApartFrom l.units l.place l.number
