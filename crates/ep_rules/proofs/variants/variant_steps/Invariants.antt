use Rattle.std.proofs.Common.{◌≡◌, ◌++◌, drop, map}
use Rattle.ep_rules.specs.VariantSteps.{variant_step}
use Rattle.ep_rules.proofs.variants.variant_steps.Given as goal

abbrev pub invariant-loop-step : goal.invariant-loop-step
invariant-loop-step l = l.steps ++ map variant_step (drop l.step-index l.path) ≡ map variant_step l.path
