-- What the functions say of programs, imports and places, by their places in lists.
use Rattle.std.specs.Prelude.{◌≡◌, ◌≢◌, ℕ, true, List, [], Option, Some, None, map, slice_get, unwrap_or}
use Rattle.std.specs.List.{All, Contains}
use Rattle.ep_order.specs.declared.dependent.Dependent.{Dependent}
use Rattle.ep_linkable.specs.declared.imports.Fault.{Fault}
use Rattle.ep_linkable.specs.declared.imports.Fault.TheVariants.{Missing, Different}
use Rattle.ep_linkable.specs.declared.register.Register.{Register}
use Rattle.ep_linkable.specs.declared.refusal.LinkRefusal.{LinkRefusal}
use Rattle.ep_linkable.specs.declared.refusal.LinkRefusal.TheVariants.{NoModule, InterfaceDiffers}
use Rattle.ep_linkable.specs.declared.unit.Import.{Import}
use Rattle.ep_linkable.specs.declared.unit.LinkUnit.{LinkUnit}
use Rattle.ep_linkable.specs.Units.{StandsAt}
use Rattle.ep_linkable.specs.Refusals.{IsMissing, IsDifferent}
use Rattle.ep_linkable.specs.Registers.{place_under}

-- ---- programs

-- a program stands at this place
abbrev pub IsProgramAt : List LinkUnit → ℕ → Type 0
IsProgramAt units place = (unit : LinkUnit) × StandsAt units place unit × (unit.is_program ≡ true)

-- a program stands at this place, which is not that one
abbrev pub IsOtherProgram : List LinkUnit → ℕ → ℕ → Type 0
IsOtherProgram units but place = IsProgramAt units place × (place ≢ but)

-- just one program is there
abbrev pub HasOneProgram : List LinkUnit → Type 0
HasOneProgram units = (place : ℕ) × IsProgramAt units place × ((k : ℕ) → IsProgramAt units k → k ≡ place)

-- ---- imports

-- an import has a fault
abbrev pub HasFault : List LinkUnit → Fault → Import → Type 0
HasFault units Missing import' = IsMissing units import'
HasFault units Different import' = IsDifferent units import'

-- the number of the refusal for a fault
abbrev pub number_of : Fault → ℕ
number_of Missing = 5
number_of Different = 6

-- that refusal, for the import of an interface by a unit
abbrev pub refusal_for : Fault → List ℕ → List ℕ → LinkRefusal
refusal_for Missing interface importer = NoModule interface importer
refusal_for Different interface importer = InterfaceDiffers interface importer

-- the import of this number in a list has a fault
abbrev pub IsFaulty : List LinkUnit → Fault → List Import → ℕ → Type 0
IsFaulty units fault imports k = (import' : Import) × (slice_get imports k ≡ Some import')
    × HasFault units fault import'

-- the interface of an import, if there is one
abbrev pub interface_of : Option Import → List ℕ
interface_of None = []
interface_of (Some import') = import'.interface.now

-- the interface of the import of this number
abbrev pub interface_at : List Import → ℕ → List ℕ
interface_at imports k = interface_of (slice_get imports k)

-- the unit at this place has an import with a fault
abbrev pub IsFaultyUnit : List LinkUnit → Fault → ℕ → Type 0
IsFaultyUnit units fault place = (unit : LinkUnit) × StandsAt units place unit
    × (k : ℕ) × IsFaulty units fault unit.imports k

-- no import of the units has a fault
abbrev pub HasNoFault : List LinkUnit → Fault → Type 0
HasNoFault units fault = (unit : LinkUnit) → Contains units unit → (import' : Import)
    → Contains unit.imports import' → ¬ HasFault units fault import'

-- ---- suppliers

-- the place of the exporter of an import
abbrev pub supplier_place : Register → Import → ℕ
supplier_place register import' = unwrap_or (place_under register import'.interface.now) 0

-- a unit with the places of its suppliers
abbrev pub dependent_of : Register → LinkUnit → Dependent
dependent_of register unit =
    record { name = unit.name; is_program = unit.is_program; suppliers = map (supplier_place register) unit.imports }

-- each import has an exporter in the register
abbrev pub AreFound : Register → List Import → Type 0
AreFound register imports =
    All (λ import'. (place : ℕ) × (place_under register import'.interface.now ≡ Some place)) imports
