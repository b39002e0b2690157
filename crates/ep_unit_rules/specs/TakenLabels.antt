-- The labels of variants that are taken so far, of each variant and one after another.
use Rattle.std.specs.Prelude.{◌≡◌, ℕ, ◌≤◌, Bool, List, [], ◌∷◌, ◌++◌, length, take}
use Rattle.ep_typed.specs.declared.tree.CaseRange.{CaseRange}

-- the ranges of each variant before the one that is under way, those of this one, and whether all labels are built
pub record TakenLabels : Type 0 where
  pub before : List (List CaseRange)
  pub own : List CaseRange
  pub built : Bool

-- the ranges of variants, one after another
abbrev pub joined : List (List CaseRange) → List CaseRange
joined [] = []
joined (ranges ∷ more) = ranges ++ joined more

-- so many of these ranges, the first ones, are those of the variants before
pub record StandsBefore (before : List (List CaseRange)) (start : ℕ) (taken : List CaseRange) : Type 0 where
  pub fits : start ≤ length taken
  pub first : joined before ≡ take start taken
