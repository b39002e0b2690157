-- Units as the static rules give them: what may be named in their blocks, and which units are valid.
use Rattle.std.specs.Prelude.{◌≡◌, ℕ, ◌<◌, All, List, [], ◌∷◌, map, slice_get, length, Option, Some, None, ⊤}
use Rattle.std.specs.Prelude.{if◌then◌else◌}
use Rattle.std.specs.Str.{bytes_eq}
use Rattle.ep_meaning.specs.Valid.{Declarations, HasKind, IsConstant, IsDenoter, IsStmt, IsType, IsVariable, Level}
use Rattle.ep_meaning.specs.Valid.{in_routine}
use Rattle.ep_typed.specs.Routines.{first_private, first_with, heading_of, made_by_unit, routine_numbered}
use Rattle.ep_typed.specs.Routines.{unit_variables, variables_of}
use Rattle.ep_typed.specs.Trees.{Denoter}
use Rattle.ep_typed.specs.Viewed.{denoter_of, stmt_of}
use Rattle.ep_typed.specs.declared.interface.Formal.{Formal}
use Rattle.ep_typed.specs.declared.interface.FormalMode.{FormalMode}
use Rattle.ep_typed.specs.declared.interface.FormalMode.TheVariants as mode
use Rattle.ep_typed.specs.declared.interface.Interface.{Interface}
use Rattle.ep_typed.specs.declared.interface.RoutineEntry.{RoutineEntry}
use Rattle.ep_typed.specs.declared.interface.RoutineResult.{RoutineResult}
use Rattle.ep_typed.specs.declared.unit.Unit.{Unit as TypedUnit}
use Rattle.ep_typed.specs.declared.unit.UnitRoutine.{UnitRoutine}
use Rattle.ep_typed.specs.declared.unit.UnitType.{UnitType}
use Rattle.ep_typed.specs.declared.unit.UnitVariable.{UnitVariable}

abbrev pub variables_in : Option UnitRoutine → List UnitVariable
variables_in None = []
variables_in (Some r) = variables_of r

abbrev pub first_with_in : Option UnitRoutine → ℕ
first_with_in None = 0
first_with_in (Some r) = first_with r

-- the routines of these numbers
abbrev pub levels_of : List UnitRoutine → List ℕ → List Level
levels_of routines [] = []
levels_of routines (n ∷ ns) =
    record {
      number = n;
      variables = variables_in (slice_get routines n);
      first_with = first_with_in (slice_get routines n);
    }
    ∷ levels_of routines ns

abbrev pub around_in : List UnitRoutine → Option UnitRoutine → List Level
around_in routines None = []
around_in routines (Some r) = levels_of routines r.around

-- What another unit gives to be named, as its heading tells it (ISO 10206, 6.11.1): its variables and its routines by
-- number, with denoters that name in the list of types of the unit to which they are given.
pub record GivenUnit : Type 0 where
  pub name : List ℕ
  pub variables : List UnitVariable
  pub routines : List RoutineEntry

-- the variable of this number of the first of these of this name
abbrev pub variable_given : List GivenUnit → List ℕ → ℕ → Option UnitVariable
variable_given [] unit number = None
variable_given (g ∷ gs) unit number =
    if bytes_eq g.name unit then slice_get g.variables number else variable_given gs unit number

-- its routines
abbrev pub routines_given : List GivenUnit → List ℕ → List RoutineEntry
routines_given [] unit = []
routines_given (g ∷ gs) unit = if bytes_eq g.name unit then g.routines else routines_given gs unit

-- what may be named in the start of a unit to which these are given
abbrev pub declared_of : List GivenUnit → TypedUnit → Declarations
declared_of given u =
    record {
      variables =
          λ unit number. if bytes_eq u.name unit then slice_get (unit_variables u) number
          else variable_given given unit number;
      routines = λ unit. if bytes_eq u.name unit then map heading_of u.routines else routines_given given unit;
      around =
          λ unit number. if bytes_eq u.name unit then around_in u.routines (routine_numbered u number) else [];
      types = u.types;
      home = u.name;
      levels = [];
      first_private = first_private u;
      first_with = length (made_by_unit u);
    }

-- the declarations of one unit alone
abbrev pub own : TypedUnit → Declarations
own = declared_of []

-- the same in the block of the routine of this number
abbrev pub in_block : List GivenUnit → TypedUnit → ℕ → UnitRoutine → Declarations
in_block given u number r =
    in_routine
    (record { number = number; variables = variables_of r; first_with = first_with r } ∷ levels_of u.routines r.around)
    (declared_of given u)

-- a value parameter is of a kind that values have, and a variable parameter of any type
abbrev pub IsFormalBy : FormalMode → List UnitType → Denoter → Type 0
IsFormalBy mode.Value types d = HasKind types d
IsFormalBy mode.ProtectedValue types d = HasKind types d
IsFormalBy mode.Variable types d = IsDenoter types d
IsFormalBy mode.ProtectedVariable types d = IsDenoter types d

-- a formal parameter of a valid denoter
pub record IsFormal (types : List UnitType) (f : Formal) : Type 0 where
  pub denoter : IsFormalBy f.mode types (denoter_of f.denoter)

-- a result of a kind that values have, where there is one
abbrev pub IsResult : List UnitType → Option RoutineResult → Type 0
IsResult types None = ⊤
IsResult types (Some r) = HasKind types (denoter_of r.denoter)

-- The routines around one of this number: the innermost stands before it, and the others are those around that one.
abbrev pub IsAround : List UnitRoutine → ℕ → List ℕ → Type 0
IsAround routines number [] = ⊤
IsAround routines number (n ∷ ns) =
    (n < number) × ((r : UnitRoutine) × (slice_get routines n ≡ Some r) × (r.around ≡ ns))

-- The routine of this number of a unit: the one in which it is declared stands before it in the text.
pub record IsRoutine (given : List GivenUnit) (u : TypedUnit) (number : ℕ) (r : UnitRoutine) : Type 0 where
  pub formals : All (IsFormal u.types) r.formals
  pub result : IsResult u.types r.result
  pub variables : All (IsVariable u.types) r.variables
  pub around : IsAround u.routines number r.around
  pub block : IsStmt (in_block given u number r) (stmt_of r.block)

-- what is given of another unit names valid types
pub record IsGivenUnit (types : List UnitType) (g : GivenUnit) : Type 0 where
  pub variables : All (λ (v : UnitVariable). IsDenoter types (denoter_of v.denoter)) g.variables

-- how many routines of a unit with such a heading other units may name, which are the first of its list
abbrev pub headed_routines : Option Interface → ℕ
headed_routines None = 0
headed_routines (Some i) = length i.routines

-- and how many of its variables
abbrev pub headed_variables : Option Interface → ℕ
headed_variables None = 0
headed_variables (Some i) = length i.variables

-- the routines that a unit's heading has are declared in no other routine
abbrev pub HeadingIsOutermost : TypedUnit → Type 0
HeadingIsOutermost u =
    (k : ℕ) (r : UnitRoutine) → k < headed_routines u.interface → slice_get u.routines k ≡ Some r → r.around ≡ []

-- a unit that names of other units what they give
pub record IsValid (given : List GivenUnit) (u : TypedUnit) : Type 0 where
  pub heading : HeadingIsOutermost u
  pub given_valid : All (IsGivenUnit u.types) given
  pub types : All (IsType u.types) u.types
  pub constants : All (IsConstant u.types) u.constants
  pub variables : All (IsVariable u.types) u.variables
  pub routines : (number : ℕ) (r : UnitRoutine) → slice_get u.routines number ≡ Some r → IsRoutine given u number r
  pub start : IsStmt (declared_of given u) (stmt_of u.start)
  pub stop : IsStmt (declared_of given u) (stmt_of u.stop)
