use Rattle.std.proofs.Common.{◌≡◌, ◌∷◌, take}
use Rattle.ep_unit_rules.proofs.variants.one_more.Given as goal

abbrev pub invariant-loop-step : goal.invariant-loop-step
invariant-loop-step l = l.all ≡ record { selection = l.selection; variant = l.variant } ∷ take l.step-index l.path
