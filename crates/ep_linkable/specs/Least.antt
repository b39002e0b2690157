-- The least of those of a list that are so, by their names.
use Rattle.std.specs.Prelude.{◌≡◌, ◌⊎◌, ℕ, ◌<◌, List, Option, Some, None}
use Rattle.ep_order.specs.Systems.{IsUpTo}

-- of the first ones, so many of them, this one is so and has the least name of those that are, or none is so
abbrev pub IsLeastAt : (ℕ → Type 0) → (ℕ → List ℕ) → ℕ → Option ℕ → Type 0
IsLeastAt P name count None = (k : ℕ) → k < count → ¬ P k
IsLeastAt P name count (Some least) = (least < count) × P least
    × ((k : ℕ) → k < count → P k → IsUpTo (name least) (name k))

-- of one and the least so far this is chosen, which is the one where there is none so far, and else has no greater
-- name than either
abbrev pub IsChosen : (ℕ → List ℕ) → ℕ → Option ℕ → ℕ → Type 0
IsChosen name one None chosen = chosen ≡ one
IsChosen name one (Some least) chosen = ((chosen ≡ least) × IsUpTo (name least) (name one))
    ⊎ ((chosen ≡ one) × IsUpTo (name one) (name least))
