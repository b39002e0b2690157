-- A system of units, which supply one another.
use Rattle.std.specs.Prelude.{◌≡◌, ℕ, Bool, true, false, List}
use Rattle.std.specs.List.{Contains}
use Rattle.std.specs.Ordering.{is_gt, nat_cmp}
use Rattle.std.specs.Cmp.Lexicographic.{slice_cmp}

-- a unit: its name, whether it is a program or else a module, and the names of the units that supply it
pub record NamedUnit : Type 0 where
  pub name : List ℕ
  pub is_program : Bool
  pub suppliers : List (List ℕ)

-- a unit of this name is a module of the system
abbrev pub IsModule : List NamedUnit → List ℕ → Type 0
IsModule units name = (unit : NamedUnit) × Contains units unit × (unit.name ≡ name) × (unit.is_program ≡ false)

-- a unit of this name is a program of the system
abbrev pub IsProgram : List NamedUnit → List ℕ → Type 0
IsProgram units name = (unit : NamedUnit) × Contains units unit × (unit.name ≡ name) × (unit.is_program ≡ true)

-- the unit `a` supplies the unit `b`
abbrev pub Supplies : List NamedUnit → List ℕ → List ℕ → Type 0
Supplies units a b = (unit : NamedUnit) × Contains units unit × (unit.name ≡ b) × Contains unit.suppliers a

-- the first name is no greater than the second one, in the order of bytes
abbrev pub IsUpTo : List ℕ → List ℕ → Type 0
IsUpTo name other = is_gt (slice_cmp nat_cmp name other) ≡ false
