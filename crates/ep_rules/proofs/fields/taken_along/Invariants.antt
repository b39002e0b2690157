use Rattle.std.proofs.Common.{◌≡◌, drop}
use Rattle.ep_typed.specs.Viewed.{expr_of}
use Rattle.ep_rules.specs.FieldDesignators.{taken_along}
use Rattle.ep_rules.proofs.fields.taken_along.Given as goal

abbrev pub invariant-loop-step : goal.invariant-loop-step
invariant-loop-step l = taken_along (drop l.step-index l.path) (expr_of l.value) ≡ taken_along l.path (expr_of l.fn.whole)
