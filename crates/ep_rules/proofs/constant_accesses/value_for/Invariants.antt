use Rattle.std.proofs.Common.{◌≡◌, drop, map}
use Rattle.ep_typed.specs.Trees.{elements}
use Rattle.ep_typed.specs.Viewed.{element_of}
use Rattle.ep_rules.specs.ConstantAccesses.{value_for}
use Rattle.ep_rules.proofs.constant_accesses.value_for.Given as goal

abbrev pub invariant-loop-one : goal.invariant-loop-one
invariant-loop-one l = value_for (elements (map element_of l.fn.given)) (elements (map element_of (drop l.one-index l.given))) l.steps ≡ value_for (elements (map element_of l.fn.given)) (elements (map element_of l.fn.given)) l.fn.steps
