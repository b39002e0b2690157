-- What the tests ask of the units that they make.
use Rattle.std.specs.Prelude.{◌≡◌, ℕ, ◌<◌, true, List}
use Rattle.ep_order.specs.declared.dependent.Dependent.{Dependent}
use Rattle.ep_order.specs.Dependents.{StandsAt}

-- the unit at a place has another name than those at the first places, so many of them, and is not a second program
abbrev pub IsApartFrom : List Dependent → ℕ → ℕ → Type 0
IsApartFrom units place count = (k : ℕ) (a b : Dependent) → k < count → StandsAt units k a → StandsAt units place b
    → ¬ (a.name.now ≡ b.name.now) × ((a.is_program ≡ true) → ¬ (b.is_program ≡ true))
