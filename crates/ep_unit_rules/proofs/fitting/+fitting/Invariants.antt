use Rattle.std.proofs.Common.{◌≡◌, drop, map}
use Rattle.ep_scope.specs.Scopes.{structure_in}
use Rattle.ep_typed.specs.Trees.{elements}
use Rattle.ep_typed.specs.Viewed.{element_of}
use Rattle.ep_unit_rules.specs.FittingConstants.{are_in}
use Rattle.ep_unit_rules.proofs.fitting.+fitting.Given as goal

abbrev pub invariant-are_in-loop-one : goal.invariant-are_in-loop-one
invariant-are_in-loop-one l =
    are_in l.fn.types l.fn.scopes (structure_in l.fn.scopes l.fn.number) (elements (map element_of l.fn.all)) (elements (map element_of (drop l.one-index l.all)))
    ≡ are_in l.fn.types l.fn.scopes (structure_in l.fn.scopes l.fn.number) (elements (map element_of l.fn.all)) (elements (map element_of l.fn.all))
