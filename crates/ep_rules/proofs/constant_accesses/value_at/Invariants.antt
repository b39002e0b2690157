use Rattle.std.proofs.Common.{◌≡◌, drop, map}
use Rattle.std.specs.Option.{option_map, option_or}
use Rattle.ep_typed.specs.Trees.{elements}
use Rattle.ep_typed.specs.Viewed.{element_of, expr_of}
use Rattle.ep_rules.specs.ConstantAccesses.{value_at}
use Rattle.ep_rules.proofs.constant_accesses.value_at.Given as goal

abbrev pub invariant-loop-one : goal.invariant-loop-one
invariant-loop-one l =
    option_or (value_at (elements (map element_of (drop l.one-index l.given))) l.index) (option_map (λ x. expr_of x.now) l.found) ≡ value_at (elements (map element_of l.fn.given)) l.fn.index
