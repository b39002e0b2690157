-- The routines that the code of a unit may call, and their formal parameters.
use Rattle.std.specs.Prelude.{ℕ, List, [], ◌∷◌, map, Option, Some, None, slice_get, if◌then◌else◌}
use Rattle.std.specs.Str.{bytes_eq}
use Rattle.ep_typed.specs.declared.interface.Formal.{Formal}
use Rattle.ep_typed.specs.declared.interface.Interface.{Interface}
use Rattle.ep_typed.specs.declared.interface.RoutineEntry.{RoutineEntry}
use Rattle.ep_typed.specs.declared.unit.UnitRoutine.{UnitRoutine}
use Rattle.ep_threats.specs.RoutineForms.{RoutineForm, formals_if, routine_form}
use Rattle.ep_threats.specs.declared.callees.Callees as declared

-- those of the unit itself, and those of the headings that it is given (ISO 10206, 6.11.2)
pub record Callees : Type 0 where
  pub own : List RoutineForm
  pub given : List Interface

abbrev pub callees_in : List UnitRoutine → List Interface → Callees
callees_in own given = record { own = map routine_form own; given = given }

abbrev pub callees_of : declared.Callees → Callees
callees_of c = callees_in c.own.now c.given.now

-- the routines of a unit, with the headings that it is given
abbrev pub callees_among : List UnitRoutine × List Interface → Callees
callees_among routines = callees_in routines.0 routines.1

-- the heading of the unit of this name
abbrev pub heading_among : List Interface → List ℕ → Option Interface
heading_among [] unit = None
heading_among (i ∷ is) unit = if bytes_eq unit i.«module» then Some i else heading_among is unit

-- the formal parameters of a routine of a heading, where there is one
abbrev pub given_formals : Option RoutineEntry → List Formal
given_formals None = []
given_formals (Some r) = r.formals

-- those of a routine by its number, of a heading or else of the unit itself
abbrev pub formals_in : Option Interface → List RoutineForm → ℕ → List Formal
formals_in None own number = formals_if (slice_get own number)
formals_in (Some i) own number = given_formals (slice_get i.routines number)

-- The formal parameters of the routine of this number of the unit of this name. No heading has schemata so far, whose
-- numbers come before those of its routines.
abbrev pub formals_at : Callees → List ℕ → ℕ → List Formal
formals_at c unit number = formals_in (heading_among c.given unit) c.own number
