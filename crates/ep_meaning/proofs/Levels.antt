-- Which variables a routine names that is declared in another one, whose calls nest.
use Rattle.std.proofs.Common.{◌≡◌, ℕ, pos, Some, None, refl, codes}
use Rattle.ep_meaning.specs.Calls.{entered}
use Rattle.ep_meaning.specs.Meaning.{activation}
use Rattle.ep_meaning.specs.Steps.{whole, State, made_own, own_variable, first_state}
use Rattle.ep_values.specs.TypeValues.{Ordinal}

-- one more activation of a routine that is declared so many levels up, with one variable
abbrev enters : ℕ → State → State
enters levels s = made_own 0 (Ordinal (pos 0) (pos 9)) (entered 0 levels (activation (codes "f") (codes "p") 1) s)

-- two activations of a routine of the unit, whose variables are the allocations 3 and 4, and one of a routine in it
abbrev inner : State
inner = enters 1 (enters 0 (enters 0 first_state))

own_is_newest : own_variable 0 0 inner ≡ Some (whole 5)
own_is_newest = refl

-- the variable is that of the activation that made the call, of those that there are
around_is_the_caller : own_variable 1 0 inner ≡ Some (whole 4)
around_is_the_caller = refl

-- a call of its own leaves what is around it
again_is_around : own_variable 1 0 (enters 2 inner) ≡ Some (whole 4)
again_is_around = refl

-- a routine in it has two levels around it
two_levels_up : own_variable 2 0 (enters 1 inner) ≡ Some (whole 4)
two_levels_up = refl

one_level_up : own_variable 1 0 (enters 1 inner) ≡ Some (whole 5)
one_level_up = refl

-- a routine beside the one around it, which the innermost calls, is in the activation around that one
beside : own_variable 1 0 (enters 3 (enters 1 inner)) ≡ Some (whole 4)
beside = refl

-- one of the unit has nothing around it
of_the_unit : own_variable 1 0 (enters 0 inner) ≡ None
of_the_unit = refl
