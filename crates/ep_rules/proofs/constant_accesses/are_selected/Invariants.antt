use Rattle.std.proofs.Common.{◌≡◌, [], drop, map}
use Rattle.ep_typed.specs.Trees.{elements}
use Rattle.ep_typed.specs.Viewed.{element_of}
use Rattle.ep_rules.specs.KnownFields.{are_selected}
use Rattle.ep_rules.proofs.constant_accesses.are_selected.Given as goal

abbrev pub invariant-loop-step : goal.invariant-loop-step
invariant-loop-step l = are_selected (elements (map element_of l.given)) l.before (drop l.step-index l.path) ≡ are_selected (elements (map element_of l.fn.given)) [] l.path
