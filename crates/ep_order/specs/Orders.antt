-- The order in which the units of a system are activated: over and over the least name, in the order of bytes, among
-- the modules that are not placed yet and whose suppliers all are; the program comes last.
use Rattle.std.specs.Prelude.{◌≡◌, ℕ, List, [], ◌∷◌, ◌++◌}
use Rattle.std.specs.List.{All, Contains}
use Rattle.ep_order.specs.Systems.{NamedUnit, IsModule, IsProgram, Supplies, IsUpTo}

-- a unit of this name may come behind the ones placed: it is not placed, all its suppliers are, and if it is a
-- program so are all modules
pub record IsReady (units : List NamedUnit) (placed : List (List ℕ)) (name : List ℕ) : Type 0 where
  pub stands : (unit : NamedUnit) × Contains units unit × (unit.name ≡ name)
  pub unplaced : ¬ Contains placed name
  pub supplied : (supplier : List ℕ) → Supplies units supplier name → Contains placed supplier
  pub last : IsProgram units name → (other : List ℕ) → IsModule units other → Contains placed other

-- the name comes next behind the ones placed: it is the least of those that may
pub record IsNext (units : List NamedUnit) (placed : List (List ℕ)) (name : List ℕ) : Type 0 where
  pub ready : IsReady units placed name
  pub least : (other : List ℕ) → IsReady units placed other → IsUpTo name other

-- each name of the list comes next behind the ones placed and those before it
abbrev pub EachIsNext : List NamedUnit → List (List ℕ) → List (List ℕ) → Type 0
EachIsNext units placed [] = Unit {0}
EachIsNext units placed (name ∷ names) = IsNext units placed name × EachIsNext units (placed ++ name ∷ []) names

-- the names are those of all units of the system in the order of their activation
pub record IsOrder (units : List NamedUnit) (names : List (List ℕ)) : Type 0 where
  pub each : EachIsNext units [] names
  pub whole : All (λ unit. Contains names unit.name) units
