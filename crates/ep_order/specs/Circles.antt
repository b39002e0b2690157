-- Circles of units that supply one another.
use Rattle.std.specs.Prelude.{ℕ, List, [], ◌∷◌, ◌++◌}
use Rattle.std.specs.List.{All, Contains}
use Rattle.ep_order.specs.Systems.{NamedUnit, Supplies, IsUpTo}

-- each one of a list is in this relation to the one behind it
abbrev pub Follows : {X : Type 0} → (X → X → Type 0) → List X → Type 0
Follows R [] = Unit {0}
Follows R (a ∷ []) = Unit {0}
Follows R (a ∷ b ∷ rest) = R a b × Follows R (b ∷ rest)

-- no one of a list stands in it twice
abbrev pub IsApart : {X : Type 0} → List X → Type 0
IsApart [] = Unit {0}
IsApart (a ∷ rest) = ¬ Contains rest a × IsApart rest

-- a circle of these names: no name stands twice, each supplies the next and the last one the first, and the first one
-- is the least in the order of bytes
pub record IsCircleFrom (units : List NamedUnit) (first : List ℕ) (rest : List (List ℕ)) : Type 0 where
  pub apart : IsApart (first ∷ rest)
  pub supplied : Follows (Supplies units) (first ∷ rest ++ first ∷ [])
  pub least : All (IsUpTo first) rest

abbrev pub IsCircle : List NamedUnit → List (List ℕ) → Type 0
IsCircle units [] = ⊥
IsCircle units (first ∷ rest) = IsCircleFrom units first rest
