-- Units that are to be linked, and what they export and import.
use Rattle.std.specs.Prelude.{◌≡◌, ℕ, List, [], Option, Some, None, map, slice_get, if◌then◌else◌}
use Rattle.std.specs.List.{Contains, count_by, sum_by}
use Rattle.std.specs.Str.{bytes_eq}
use Rattle.ep_linkable.specs.declared.unit.Import.{Import}
use Rattle.ep_linkable.specs.declared.unit.LinkUnit.{LinkUnit}

-- the names of the interfaces that a unit exports, which a program doesn't
abbrev pub exports_of : LinkUnit → List (List ℕ)
exports_of unit = if unit.is_program then [] else unit.exports.now

-- a unit of the list exports an interface of this name
abbrev pub IsExporter : List LinkUnit → LinkUnit → List ℕ → Type 0
IsExporter units exporter interface = Contains units exporter × Contains (exports_of exporter) interface

-- how many units have this name
abbrev pub units_named : List LinkUnit → List ℕ → ℕ
units_named units name = count_by (λ unit. bytes_eq name unit.name.now) units

-- how often an interface of this name is exported
abbrev pub exports_named : List LinkUnit → List ℕ → ℕ
exports_named units name = sum_by (λ unit. count_by (bytes_eq name) (exports_of unit)) units

-- an interface of the first name, whose import is so, is imported by a unit of the second name
abbrev pub IsImported : List LinkUnit → (Import → Type 0) → List ℕ → List ℕ → Type 0
IsImported units P interface importer = (unit : LinkUnit) × Contains units unit × (unit.name.now ≡ importer)
    × (import' : Import) × Contains unit.imports import' × (import'.interface.now ≡ interface) × P import'

-- the unit at this place
abbrev pub StandsAt : List LinkUnit → ℕ → LinkUnit → Type 0
StandsAt units place unit = slice_get units place ≡ Some unit

-- the name of a unit, if there is one
abbrev pub name_of : Option LinkUnit → List ℕ
name_of None = []
name_of (Some unit) = unit.name.now

-- the name of the unit at this place
abbrev pub name_at : List LinkUnit → ℕ → List ℕ
name_at units place = name_of (slice_get units place)

-- the names of the units at these places
abbrev pub names_at : List LinkUnit → List ℕ → List (List ℕ)
names_at units places = map (name_at units) places
