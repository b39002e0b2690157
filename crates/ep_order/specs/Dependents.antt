-- Systems as the linker has them, where a unit names its suppliers by their places in the list of units.
use Rattle.std.specs.Prelude.{◌≡◌, ℕ, ◌<◌, ◌^◌, false, true, List, [], map, length, Option, Some, None, slice_get}
use Rattle.std.specs.List.{All}
use Rattle.ep_order.specs.declared.dependent.Dependent.{Dependent}
use Rattle.ep_order.specs.declared.dependent.Activation.{Activation}
use Rattle.ep_order.specs.declared.dependent.Activation.TheVariants.{Ordered, Circle}
use Rattle.ep_order.specs.Systems.{NamedUnit}
use Rattle.ep_order.specs.Orders.{IsOrder}
use Rattle.ep_order.specs.Circles.{IsCircle}

-- the unit at this place
abbrev pub StandsAt : List Dependent → ℕ → Dependent → Type 0
StandsAt units place unit = slice_get units place ≡ Some unit

-- a module stands at this place
abbrev pub IsModuleAt : List Dependent → ℕ → Type 0
IsModuleAt units place = (unit : Dependent) × StandsAt units place unit × (unit.is_program ≡ false)

-- a program stands at this place
abbrev pub IsProgramAt : List Dependent → ℕ → Type 0
IsProgramAt units place = (unit : Dependent) × StandsAt units place unit × (unit.is_program ≡ true)

-- the name of a unit, if there is one
abbrev pub name_of : Option Dependent → List ℕ
name_of None = []
name_of (Some unit) = unit.name.now

-- the name of the unit at this place
abbrev pub name_at : List Dependent → ℕ → List ℕ
name_at units place = name_of (slice_get units place)

-- the names of the units at these places
abbrev pub names_at : List Dependent → List ℕ → List (List ℕ)
names_at units places = map (name_at units) places

-- a unit with the names of its suppliers
abbrev pub named : List Dependent → Dependent → NamedUnit
named units unit =
    record { name = unit.name.now; is_program = unit.is_program; suppliers = names_at units unit.suppliers }

-- the system of these units
abbrev pub system_of : List Dependent → List NamedUnit
system_of units = map (named units) units

-- what the linker knows of the units: no two have one name, at most one is a program, and each supplier is a module
-- of the list
pub record IsSystem (units : List Dependent) : Type 0 where
  pub few : length units < 2 ^ 32
  pub apart : (i k : ℕ) (a b : Dependent) → StandsAt units i a → StandsAt units k b → a.name.now ≡ b.name.now → i ≡ k
  pub one_program : (i k : ℕ) (a b : Dependent) → StandsAt units i a → StandsAt units k b
      → a.is_program ≡ true → b.is_program ≡ true → i ≡ k
  pub modules : All (λ unit. All (IsModuleAt units) unit.suppliers) units

-- the answer is the order of activation, or a circle where there is none
abbrev pub IsActivation : List Dependent → Activation → Type 0
IsActivation units (Ordered places) = All (λ place. place < length units) places
    × IsOrder (system_of units) (names_at units places)
IsActivation units (Circle places) = All (λ place. place < length units) places
    × IsCircle (system_of units) (names_at units places)
    × ((order : List (List ℕ)) → ¬ IsOrder (system_of units) order)
