-- The variables of routines, by number: the formal parameters, the result of a function, those that it declares, and
-- the auxiliary ones of `for` and of `with`; those of units; and the numbers of routines.
use Rattle.std.specs.Prelude.{ℕ, ◌+◌, false, List, [], ◌∷◌, ◌++◌, length, map, slice_get, Option, Some}
use Rattle.std.specs.Prelude.{None}
use Rattle.ep_typed.specs.Auxiliaries.{block_auxiliaries, with_variables}
use Rattle.ep_typed.specs.Trees.{Stmt, Compound, next, none}
use Rattle.ep_typed.specs.Viewed.{stmt_of}
use Rattle.ep_typed.specs.declared.interface.Formal.{Formal}
use Rattle.ep_typed.specs.declared.interface.RoutineEntry.{RoutineEntry}
use Rattle.ep_typed.specs.declared.interface.RoutineResult.{RoutineResult}
use Rattle.ep_typed.specs.declared.unit.Unit.{Unit as TypedUnit}
use Rattle.ep_typed.specs.declared.unit.UnitRoutine.{UnitRoutine}
use Rattle.ep_typed.specs.declared.unit.UnitVariable.{UnitVariable}

-- the heading of a routine
abbrev pub heading_of : UnitRoutine → RoutineEntry
heading_of r = record { name = r.name; formals = r.formals; result = r.result }

-- a formal parameter as a variable of its routine, which is declared on this line
abbrev pub formal_variable : ℕ → Formal → UnitVariable
formal_variable line f =
    record { name = f.name; line = line; declaration = 0; denoter = f.denoter; tuple = []; parameter = false }

-- the name of the variable that has the result of a function: its own, or that of the function (ISO 10206, 6.7.2)
abbrev pub result_name : List ℕ → Option (List ℕ) → List ℕ
result_name name None = name
result_name name (Some own) = own

-- the variable that has the result of a function of this name, which is declared on this line; a procedure has none
abbrev pub result_variable : List ℕ → ℕ → Option RoutineResult → List UnitVariable
result_variable name line None = []
result_variable name line (Some r) =
    record {
      name = result_name name r.name;
      line = line;
      declaration = 0;
      denoter = r.denoter;
      tuple = [];
      parameter = false;
    }
    ∷ []

-- the variables that a routine makes: the one that has its result, those that it declares, and the auxiliary ones of
-- `for` in its block
abbrev pub made_variables : UnitRoutine → List UnitVariable
made_variables r = result_variable r.name r.line r.result ++ (r.variables ++ block_auxiliaries (stmt_of r.block))

-- the start and the stop of a unit as one statement: they run in one frame, and share its auxiliary variables
abbrev pub unit_block : TypedUnit → Stmt
unit_block u = Compound (next (stmt_of u.start) (next (stmt_of u.stop) none))

-- the variables that a unit makes: those that it declares, and the auxiliary ones of `for` in its start and its stop
abbrev pub made_by_unit : TypedUnit → List UnitVariable
made_by_unit u = u.variables ++ block_auxiliaries (unit_block u)

-- the variables of a unit: those that it makes, and those of `with` in its start and its stop
abbrev pub unit_variables : TypedUnit → List UnitVariable
unit_variables u = made_by_unit u ++ with_variables (unit_block u)

-- the first number of those of `with` in a routine
abbrev pub first_with : UnitRoutine → ℕ
first_with r = length r.formals + length (made_variables r)

-- the variables of a routine: its formal parameters, those that it makes, and those of `with` in its block
abbrev pub variables_of : UnitRoutine → List UnitVariable
variables_of r = map (formal_variable r.line) r.formals ++ (made_variables r ++ with_variables (stmt_of r.block))

-- ---- the numbers of routines among all those of their unit's object (own)

-- The routine at this place of a unit's list has this number. Schemata of the unit's heading will have numbers before
-- it.
abbrev pub routine_number : TypedUnit → ℕ → ℕ
routine_number u k = k

-- the routine of this number
abbrev pub routine_numbered : TypedUnit → ℕ → Option UnitRoutine
routine_numbered u number = slice_get u.routines number

-- the first number behind those, from which on the routines are numbered that no text writes, as the start and the
-- stop
abbrev pub first_private : TypedUnit → ℕ
first_private u = routine_number u (length u.routines)
