use Rattle.std.proofs.Common.{◌≡◌, drop}
use Rattle.ep_typed.specs.Viewed.{place_of}
use Rattle.ep_rules.specs.FieldDesignators.{along}
use Rattle.ep_rules.proofs.fields.along.Given as goal

abbrev pub invariant-loop-step : goal.invariant-loop-step
invariant-loop-step l = along (drop l.step-index l.path) (place_of l.place) ≡ along l.path (place_of l.fn.whole)
