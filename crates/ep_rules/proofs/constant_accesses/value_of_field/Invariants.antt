use Rattle.std.proofs.Common.{◌≡◌, drop, map}
use Rattle.ep_typed.specs.Trees.{elements}
use Rattle.ep_typed.specs.Viewed.{element_of}
use Rattle.ep_rules.specs.ConstantAccesses.{value_of_field}
use Rattle.ep_rules.proofs.constant_accesses.value_of_field.Given as goal

abbrev pub invariant-loop-one : goal.invariant-loop-one
invariant-loop-one l = value_of_field (elements (map element_of (drop l.one-index l.given))) l.steps ≡ value_of_field (elements (map element_of l.fn.given)) l.fn.steps
