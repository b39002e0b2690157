-- Modules that are placed one behind the other, by their places in the list of units.
use Rattle.std.specs.Prelude.{◌≡◌, ℕ, ◌<◌, List, [], ◌∷◌, ◌++◌, Some, slice_get}
use Rattle.std.specs.List.{Contains}
use Rattle.ep_order.specs.declared.dependent.Dependent.{Dependent}
use Rattle.ep_order.specs.Orders.{EachIsNext}
use Rattle.ep_order.specs.Circles.{Follows, IsApart}
use Rattle.ep_order.specs.Dependents.{StandsAt, IsModuleAt, names_at, system_of}

-- the unit at the first place supplies the one at the second
abbrev pub SuppliesAt : List Dependent → ℕ → ℕ → Type 0
SuppliesAt units supplier place = (unit : Dependent) × StandsAt units place unit × Contains unit.suppliers supplier

-- the module at this place may come next behind those placed
pub record IsReadyAt (units : List Dependent) (placed : List ℕ) (place : ℕ) : Type 0 where
  pub stands : IsModuleAt units place
  pub unplaced : ¬ Contains placed place
  pub supplied : (supplier : ℕ) → SuppliesAt units supplier place → Contains placed supplier

-- modules in the order of activation, as far as they are placed
pub record IsPlacing (units : List Dependent) (placed : List ℕ) : Type 0 where
  pub each : EachIsNext (system_of units) [] (names_at units placed)
  pub modules : (place : ℕ) → Contains placed place → IsModuleAt units place
  pub closed : (supplier place : ℕ) → Contains placed place → SuppliesAt units supplier place
      → Contains placed supplier

-- a module that is not placed has a supplier that is not
abbrev pub IsStuck : List Dependent → List ℕ → Type 0
IsStuck units placed = (place : ℕ) → IsModuleAt units place → ¬ Contains placed place
    → (supplier : ℕ) × SuppliesAt units supplier place × ¬ Contains placed supplier

-- those of a list that stand before this number are placed
abbrev pub ArePlacedBefore : List ℕ → List ℕ → ℕ → Type 0
ArePlacedBefore placed suppliers number = (k supplier : ℕ) → k < number → slice_get suppliers k ≡ Some supplier
    → Contains placed supplier

-- the one of this number is the first of the list that is not placed
abbrev pub IsFirstOpen : List ℕ → List ℕ → ℕ → Type 0
IsFirstOpen placed suppliers number = (supplier : ℕ) × (slice_get suppliers number ≡ Some supplier)
    × ¬ Contains placed supplier × ArePlacedBefore placed suppliers number

-- a walk from units to suppliers of theirs that has come to this place: no place of it stands twice, and all are
-- modules
pub record IsWalk (units : List Dependent) (path : List ℕ) (place : ℕ) : Type 0 where
  pub apart : IsApart path
  pub modules : (other : ℕ) → Contains (path ++ place ∷ []) other → IsModuleAt units other
  pub supplied : Follows (λ client supplier. SuppliesAt units supplier client) (path ++ place ∷ [])
