use Rattle.std.proofs.Common.{◌≡◌, drop, map}
use Rattle.ep_typed.specs.Trees.{elements}
use Rattle.ep_typed.specs.Viewed.{element_of}
use Rattle.ep_check_expr.specs.StructuredConstants.{elements_constancy, joined}
use Rattle.ep_check_expr.proofs.structured_constants.+constancies.Given as goal

abbrev pub invariant-elements-loop-one : goal.invariant-elements-loop-one
invariant-elements-loop-one l =
    joined l.found (elements_constancy l.scopes l.of (elements (map element_of (drop l.one-index l.all)))) ≡ elements_constancy l.fn.scopes l.fn.of (elements (map element_of l.fn.all))
