-- When each of the link refusals holds of a list of units, the order of which plays no part, and what is answered.
use Rattle.std.specs.Prelude.{◌≡◌, ℕ, ◌<◌, ◌-◌, ◌^◌, ◌⊎◌, ◌&&◌, min, not, true, false, List, length}
use Rattle.std.specs.List.{All, Contains, count_by, sum_by}
use Rattle.std.specs.Ordering.{is_gt, is_lt, nat_cmp}
use Rattle.std.specs.Cmp.Lexicographic.{slice_cmp}
use Rattle.ep_order.specs.Systems.{IsUpTo}
use Rattle.ep_order.specs.Orders.{IsOrder}
use Rattle.ep_order.specs.Circles.{IsCircle}
use Rattle.ep_linkable.specs.declared.unit.Import.{Import}
use Rattle.ep_linkable.specs.declared.unit.LinkUnit.{LinkUnit}
use Rattle.ep_linkable.specs.declared.refusal.LinkRefusal.{LinkRefusal}
use Rattle.ep_linkable.specs.declared.refusal.LinkRefusal.TheVariants.{NoProgram, TwoPrograms, TwoUnits}
use Rattle.ep_linkable.specs.declared.refusal.LinkRefusal.TheVariants.{TwoInterfaces, NoModule, InterfaceDiffers}
use Rattle.ep_linkable.specs.declared.refusal.LinkRefusal.TheVariants.{Circle, TooLarge, NoMemory}
use Rattle.ep_linkable.specs.declared.linkable.TheConstants as limit
use Rattle.ep_linkable.specs.Units.{IsExporter, IsImported, units_named, exports_named, names_at}
use Rattle.ep_linkable.specs.Supplies.{system}

-- ---- programs

-- a program has this name
abbrev pub IsProgramName : List LinkUnit → List ℕ → Type 0
IsProgramName units name =
    (unit : LinkUnit) × Contains units unit × (unit.is_program ≡ true) × (unit.name.now ≡ name)

-- how many programs have names that are no greater than this one, in the order of bytes
abbrev pub programs_up_to : List LinkUnit → List ℕ → ℕ
programs_up_to units name =
    count_by (λ unit. unit.is_program && not (is_gt (slice_cmp nat_cmp unit.name.now name))) units

-- how many programs have lesser names
abbrev pub programs_below : List LinkUnit → List ℕ → ℕ
programs_below units name =
    count_by (λ unit. unit.is_program && is_lt (slice_cmp nat_cmp unit.name.now name)) units

-- these are the two least names of programs, which may be one name
pub record AreLeastPrograms (units : List LinkUnit) (first second : List ℕ) : Type 0 where
  pub first_is : IsProgramName units first
  pub second_is : IsProgramName units second
  pub least : (other : List ℕ) → IsProgramName units other → IsUpTo first other
  pub two : 1 < programs_up_to units second
  pub few : programs_below units second < 2

-- ---- names that stand twice

-- this is the least name that stands twice, or more often, where this tells how often each name stands
abbrev pub IsLeastTwice : (List ℕ → ℕ) → List ℕ → Type 0
IsLeastTwice count name = (1 < count name) × ((other : List ℕ) → 1 < count other → IsUpTo name other)

-- ---- imports

-- no unit exports what is imported
abbrev pub IsMissing : List LinkUnit → Import → Type 0
IsMissing units import' = (exporter : LinkUnit) → ¬ IsExporter units exporter import'.interface.now

-- a unit exports what is imported, and its own interface file is another one
abbrev pub IsDifferent : List LinkUnit → Import → Type 0
IsDifferent units import' = (exporter : LinkUnit) × IsExporter units exporter import'.interface.now
    × ¬ (exporter.interface.now ≡ import'.file.now)

-- of the imports that are so this is one, by the least importer, and of those by it the one of the least interface
pub record IsLeastImport (units : List LinkUnit) (P : Import → Type 0) (interface importer : List ℕ) : Type 0 where
  pub imported : IsImported units P interface importer
  pub importer_least : (other by : List ℕ) → IsImported units P other by → IsUpTo importer by
  pub interface_least : (other : List ℕ) → IsImported units P other importer → IsUpTo interface other

-- ---- sizes

-- how many bytes all object files have, where what cannot be counted is the greatest number
abbrev pub total_size : List LinkUnit → ℕ
total_size units = min (sum_by (λ unit. unit.size) units) (2 ^ 64 - 1)

-- ---- refusals

-- the refusal holds of the units
abbrev pub Holds : List LinkUnit → LinkRefusal → Type 0
Holds units NoProgram = All (λ unit. unit.is_program ≡ false) units
Holds units (TwoPrograms first second) = AreLeastPrograms units first second
Holds units (TwoUnits name) = IsLeastTwice (units_named units) name
Holds units (TwoInterfaces interface) = IsLeastTwice (exports_named units) interface
Holds units (NoModule interface importer) = IsLeastImport units (IsMissing units) interface importer
Holds units (InterfaceDiffers interface importer) = IsLeastImport units (IsDifferent units) interface importer
Holds units (Circle names) = IsCircle (system units) names
Holds units (TooLarge size) = (size ≡ total_size units) × (limit.MAX_LINK < size)
Holds units NoMemory = ⊥

-- in which order the refusals are tested
abbrev pub number : LinkRefusal → ℕ
number NoProgram = 1
number (TwoPrograms _ _) = 2
number (TwoUnits _) = 3
number (TwoInterfaces _) = 4
number (NoModule _ _) = 5
number (InterfaceDiffers _ _) = 6
number (Circle _) = 7
number (TooLarge _) = 8
number NoMemory = 9

-- no refusal before this number holds
abbrev pub NoneBefore : List LinkUnit → ℕ → Type 0
NoneBefore units limit = (refusal : LinkRefusal) → number refusal < limit → ¬ Holds units refusal

-- the first refusal that holds
abbrev pub IsFirst : List LinkUnit → LinkRefusal → Type 0
IsFirst units refusal = Holds units refusal × NoneBefore units (number refusal)

-- the refusal of this number holds, or memory is wanting
abbrev pub IsCase : List LinkUnit → ℕ → LinkRefusal → Type 0
IsCase units place refusal = (refusal ≡ NoMemory) ⊎ (Holds units refusal × (number refusal ≡ place))

-- ---- answers

-- what is answered where the units cannot be linked: the first refusal that holds, or that memory is wanting
abbrev pub IsRefusal : List LinkUnit → LinkRefusal → Type 0
IsRefusal units refusal = (refusal ≡ NoMemory) ⊎ IsFirst units refusal

-- what is answered where they can: no refusal holds, and these are the places of the units in the order of activation
pub record IsLinkOrder (units : List LinkUnit) (places : List ℕ) : Type 0 where
  pub none : (refusal : LinkRefusal) → ¬ Holds units refusal
  pub within : All (λ place. place < length units) places
  pub order : IsOrder (system units) (names_at units places)
