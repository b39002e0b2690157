use Rattle.std.proofs.Common.{ℕ, ◌<◌}
use Rattle.ep_order.specs.Dependents.{IsProgramAt}
use Rattle.ep_order.proofs.order.program_of.Given as goal

abbrev pub invariant-loop-place : goal.invariant-loop-place
invariant-loop-place l = (other : ℕ) → other < l.place → ¬ IsProgramAt l.units other
