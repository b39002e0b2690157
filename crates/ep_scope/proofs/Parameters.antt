-- Lists of formal parameters that are the same have one length.
use Rattle.std.proofs.Common.{◌≡◌, suc, Bool, true, false, ◌&&◌, List, [], ◌∷◌, length, refl, ap}
use Rattle.ep_scope.specs.Parameters.{same_parameter, same_parameters}
use Rattle.ep_scope.specs.declared.parameter.FormalParameter.{FormalParameter}

no_more : (b : Bool) → false ≡ (b && false)
no_more true = refl
no_more false = refl

pub other_length : (ps qs : List FormalParameter) → (length ps ≡ length qs → ⊥) → false ≡ same_parameters ps qs
other_length [] [] h = absurd (h refl)
other_length [] (q ∷ qs) h = refl
other_length (p ∷ ps) [] h = refl
other_length (p ∷ ps) (q ∷ qs) h = let rest : false ≡ same_parameters ps qs = other_length ps qs (λ e. h (ap suc e)) in rw (← rest) (no_more (same_parameter p q))
