use Rattle.std.proofs.Common.{◌≡◌, ◌≤◌, true, List, [], ◌∷◌, length, refl, arith}
use Rattle.ep_typed.specs.Trees.{Callee}
use Rattle.ep_scope.specs.declared.kind.Kind.{Kind}
use Rattle.ep_scope.specs.declared.parameter.FormalParameter.{FormalParameter}
use Rattle.ep_rules.specs.Arguments.{callee_at, function_called}
use Rattle.ep_rules.specs.Judgements.{breaks}
use Rattle.ep_rules.proofs.names.function_alone.Goals as goal

-- a function that has parameters, without arguments
without_arguments : (callee : Callee) (ps : List FormalParameter) (k : Kind) → 1 ≤ length ps → breaks 37 (function_called callee ps k []) ≡ true
without_arguments callee [] k e = let none : ⊥ = omega (arith, e) in absurd none
without_arguments callee (p ∷ ps) k e = refl

pub returns-in_default : goal.returns-in_default
returns-in_default c = without_arguments (callee_at c.args.depth c.args.d.now) c.args.parameters.now c.args.kind c.in_default.len_at_least
