-- Units that run together, and what the object of one of them does, whatever compiled the others.
use Rattle.std.specs.Prelude.{◌≡◌, ℕ, ◌<◌, ◌≤◌, List, [], ◌∷◌, Option, Some, None, length, slice_get, ⊤}
use Rattle.ep_meaning.specs.Meaning.{handler_of, routine_in, start_of, stop_of, type_in}
use Rattle.ep_meaning.specs.Units.{GivenUnit, IsValid, headed_routines, headed_variables}
use Rattle.ep_meaning.specs.Valid.{IsOfKind, ValueKind}
use Rattle.ep_object.specs.Placing.{HasDistinctNames, Placement, Stands, moved}
use Rattle.ep_object.specs.declared.code.Image.{Image}
use Rattle.ep_object.specs.declared.code.Object.{Object}
use Rattle.ep_simulation.specs.Follows.{Bare}
use Rattle.ep_simulation.specs.Layouts.{layout_of}
use Rattle.ep_simulation.specs.Promises.{RoutineKeeps}
use Rattle.ep_simulation.specs.Scene.{VariableStands}
use Rattle.ep_simulation.specs.Simulates.{Simulates}
use Rattle.ep_typed.specs.Denoters.{IsInstance, bare_type_of}
use Rattle.ep_typed.specs.Routines.{heading_of, routine_number, routine_numbered, unit_variables}
use Rattle.ep_typed.specs.Trees.{Denoter}
use Rattle.ep_typed.specs.Viewed.{denoter_of}
use Rattle.ep_typed.specs.declared.interface.Formal.{Formal}
use Rattle.ep_typed.specs.declared.interface.RoutineEntry.{RoutineEntry}
use Rattle.ep_typed.specs.declared.interface.RoutineResult.{RoutineResult}
use Rattle.ep_typed.specs.declared.unit.Unit.{Unit as TypedUnit}
use Rattle.ep_typed.specs.declared.unit.UnitRoutine.{UnitRoutine}
use Rattle.ep_typed.specs.declared.unit.UnitType.{UnitType}
use Rattle.ep_typed.specs.declared.unit.UnitVariable.{UnitVariable}
use Rattle.ep_values.specs.TypeValues.{TypeValue}

-- no two of the units have the same name
abbrev pub HaveOwnNames : List TypedUnit → Type 0
HaveOwnNames units =
    (i j : ℕ) (u v : TypedUnit) → slice_get units i ≡ Some u → slice_get units j ≡ Some v → u.name ≡ v.name → i ≡ j

-- ---- what is given of a unit, and what it has

-- Two denoters, each under its own list of types, are of the same types (ISO 10206, 6.4.1): of the same type values,
-- and so of the same kinds and of one type but for initial states.
pub record HaveSameTypes (types : List UnitType) (d : Denoter) (others : List UnitType) (e : Denoter) : Type 0 where
  pub into : (t : TypeValue) → IsInstance types d t → IsInstance others e t
  pub back : (t : TypeValue) → IsInstance others e t → IsInstance types d t
  pub kinds : (k : ValueKind) → IsOfKind k others e → IsOfKind k types d
  pub bare : bare_type_of types d ≡ bare_type_of others e

-- two formal parameters are passed alike and are of the same types; one for one
abbrev pub AreSameFormals : List UnitType → List Formal → List UnitType → List Formal → Type 0
AreSameFormals types [] others [] = ⊤
AreSameFormals types [] others (g ∷ gs) = ⊥
AreSameFormals types (f ∷ fs) others [] = ⊥
AreSameFormals types (f ∷ fs) others (g ∷ gs) =
    (f.mode ≡ g.mode) × HaveSameTypes types (denoter_of f.denoter) others (denoter_of g.denoter)
    × AreSameFormals types fs others gs

-- both routines are procedures, or functions with results of the same types
abbrev pub AreSameResults : List UnitType → Option RoutineResult → List UnitType → Option RoutineResult → Type 0
AreSameResults types None others None = ⊤
AreSameResults types None others (Some s) = ⊥
AreSameResults types (Some r) others None = ⊥
AreSameResults types (Some r) others (Some s) =
    HaveSameTypes types (denoter_of r.denoter) others (denoter_of s.denoter)

-- What is given of a unit, with denoters that name in these types, is what its heading has of it by the same numbers.
pub record IsGivenOf (types : List UnitType) (g : GivenUnit) (w : TypedUnit) : Type 0 where
  pub variables : (k : ℕ) (v : UnitVariable) → slice_get g.variables k ≡ Some v
      → (k < headed_variables w.interface)
      × ((x : UnitVariable) × (slice_get (unit_variables w) k ≡ Some x)
      × HaveSameTypes types (denoter_of v.denoter) w.types (denoter_of x.denoter))
  pub routines : (k : ℕ) (r : RoutineEntry) → slice_get g.routines k ≡ Some r
      → (k < headed_routines w.interface)
      × ((x : UnitRoutine) × (slice_get w.routines k ≡ Some x)
      × AreSameFormals types r.formals w.types x.formals × AreSameResults types r.result w.types x.result)

-- among the units is one of that name which has what is given of it
pub record IsFound (units : List TypedUnit) (types : List UnitType) (g : GivenUnit) : Type 0 where
  pub number : ℕ
  pub unit : TypedUnit
  pub there : slice_get units number ≡ Some unit
  pub named : unit.name ≡ g.name
  pub has : IsGivenOf types g unit

-- The unit is valid with what is given to it, which others of these units have (ISO 10206, 6.11.1).
pub record IsJoined (units : List TypedUnit) (u : TypedUnit) : Type 0 where
  pub given : List GivenUnit
  pub valid : IsValid given u
  pub found : (k : ℕ) (g : GivenUnit) → slice_get given k ≡ Some g → IsFound units u.types g

-- The units may run together (ISO 10206, 6.12): each is valid with what others give, and no two have one name.
pub record AreJoined (units : List TypedUnit) : Type 0 where
  pub each : (k : ℕ) (u : TypedUnit) → slice_get units k ≡ Some u → IsJoined units u
  pub named : HaveOwnNames units

-- what calls find among the units by the name of this one is its own
pub record IsAmong (units : List TypedUnit) (u : TypedUnit) : Type 0 where
  pub routines : (number : ℕ) → routine_in units u.name number ≡ routine_numbered u number
  pub types : (index : ℕ) → type_in units u.name index ≡ slice_get u.types index

-- Each routine that a unit's heading has keeps its promise for what calls mean among these units, with up to n steps.
abbrev pub HeadingIsKept : List TypedUnit → Image → List Placement → ℕ → TypedUnit → Type 0
HeadingIsKept units G ps n u =
    (k : ℕ) (r : UnitRoutine) → k < headed_routines u.interface → slice_get u.routines k ≡ Some r
    → RoutineKeeps (layout_of units) G ps (handler_of units n) n u.types [] u.name (routine_number u k)
    (heading_of r)

-- the routines of all headings do
abbrev pub HeadingsAreKept : List TypedUnit → Image → List Placement → ℕ → Type 0
HeadingsAreKept units G ps n = (k : ℕ) (u : TypedUnit) → slice_get units k ≡ Some u → HeadingIsKept units G ps n u

-- the unit has slots for its variables, by which a `Unit` that names them is placed
abbrev pub SlotsStand : Image → List Placement → TypedUnit → Type 0
SlotsStand G ps u = (k : ℕ) → k < length (unit_variables u) → VariableStands G ps u.name k

-- The unit is the one of this number of joined units, and its object stands in an image whose units have names of
-- their own. All of the units have slots in it.
pub record StandsAmong (units : List TypedUnit) (number : ℕ) (u : TypedUnit) (G : Image) (ps : List Placement)
    (p : Placement) (o : Object) : Type 0 where
  pub joined : AreJoined units
  pub there : slice_get units number ≡ Some u
  pub stands : Stands G ps p o
  pub distinct : HasDistinctNames G
  pub slots : (k : ℕ) (w : TypedUnit) → slice_get units k ≡ Some w → SlotsStand G ps w

-- The object implements the unit, whatever other units run with it, and wherever it stands. Where the routines of all
-- headings keep their promises with fewer steps, those of the unit's heading keep theirs; and where they do with so
-- many steps, its routines simulate its start and its stop.
pub record ObjectImplements (u : TypedUnit) (o : Object) : Type 0 where
  pub name : o.name ≡ u.name
  -- its frame has a slot for each of the unit's variables
  pub slots : length (unit_variables u) ≤ o.unit_slots
  pub heading : (units : List TypedUnit) (number : ℕ) (G : Image) (ps : List Placement) (p : Placement)
      → StandsAmong units number u G ps p o
      → (n : ℕ) → ((m : ℕ) → m < n → HeadingsAreKept units G ps m) → HeadingIsKept units G ps n u
  pub start : (units : List TypedUnit) (number : ℕ) (G : Image) (ps : List Placement) (p : Placement)
      → StandsAmong units number u G ps p o → (n : ℕ) → ((m : ℕ) → m ≤ n → HeadingsAreKept units G ps m)
      → Simulates (layout_of units) G p.unit (moved p.routines o.start) n (start_of (handler_of units n) n u) Bare
  pub stop : (units : List TypedUnit) (number : ℕ) (G : Image) (ps : List Placement) (p : Placement)
      → StandsAmong units number u G ps p o → (n : ℕ) → ((m : ℕ) → m ≤ n → HeadingsAreKept units G ps m)
      → Simulates (layout_of units) G p.unit (moved p.routines o.stop) n (stop_of (handler_of units n) n u) Bare
