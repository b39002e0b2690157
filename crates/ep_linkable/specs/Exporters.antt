-- The names of units and of what they export with the units' places, and the exporters by them.
use Rattle.std.specs.Prelude.{◌≡◌, ℕ, suc, ◌<◌, List, [], ◌∷◌, ◌++◌, Some, map}
use Rattle.std.specs.List.{Contains}
use Rattle.ep_linkable.specs.declared.register.Register.{Register}
use Rattle.ep_linkable.specs.declared.unit.LinkUnit.{LinkUnit}
use Rattle.ep_linkable.specs.Units.{StandsAt, IsExporter, exports_of, exports_named}
use Rattle.ep_linkable.specs.Registers.{NamedPlace, place_under}

-- a name that comes from a place
abbrev pub entry_at : ℕ → List ℕ → NamedPlace
entry_at place name = record { name = name; place = place }

-- the names of units, the first of which stands at this place
abbrev pub unit_entries : ℕ → List LinkUnit → List NamedPlace
unit_entries place [] = []
unit_entries place (unit ∷ units) = entry_at place unit.name.now ∷ unit_entries (suc place) units

-- the names of what they export
abbrev pub export_entries : ℕ → List LinkUnit → List NamedPlace
export_entries place [] = []
export_entries place (unit ∷ units) = map (entry_at place) (exports_of unit) ++ export_entries (suc place) units

-- the register has for each interface that is exported the place of the one unit that exports it
pub record IsExporters (units : List LinkUnit) (register : Register) : Type 0 where
  pub found : (interface : List ℕ) (place : ℕ) → place_under register interface ≡ Some place
      → (exporter : LinkUnit) × StandsAt units place exporter × Contains (exports_of exporter) interface
  pub whole : (interface : List ℕ) (exporter : LinkUnit) → IsExporter units exporter interface
      → (place : ℕ) × (place_under register interface ≡ Some place)
  pub once : (interface : List ℕ) → exports_named units interface < 2
