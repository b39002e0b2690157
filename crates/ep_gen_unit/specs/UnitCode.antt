-- Which object is the code of a unit: its start makes the variables and runs its statement, its stop runs its own, and
-- behind them stands the code of its routines, of those that structured values call, and of those that elaborate its
-- types.
use Rattle.std.specs.Prelude.{◌≡◌, ℕ, pos, ◌+◌, false, List, [], ◌∷◌, ◌++◌, Some, length, slice_get}
use Rattle.ep_gen_code.specs.Growth.{in_row}
use Rattle.ep_gen_code.specs.Instructions.{◌▸◌, bare, instr}
use Rattle.ep_gen_code.specs.Referring.{type_reference}
use Rattle.ep_gen_code.specs.declared.code.TheConstants as code
use Rattle.ep_gen_code.specs.declared.references.TheConstants as routine
use Rattle.ep_gen_type.specs.TypeCode.{type_code}
use Rattle.ep_gen_unit.specs.StmtCode.{IsStmtCode, take_all_code, make_all_code, return_code, end_code}
use Rattle.ep_object.specs.declared.code.CodeRoutine.{CodeRoutine}
use Rattle.ep_object.specs.declared.code.Instr.{Instr}
use Rattle.ep_object.specs.declared.code.Object.{Object}
use Rattle.ep_object.specs.declared.code.Reference.{Reference}
use Rattle.ep_object.specs.declared.op.TheConstants as op
use Rattle.ep_simulation.specs.Promises.{filling_code, ranging_code, spreading_code}
use Rattle.ep_simulation.specs.Promises.{start_routine, stop_routine, swap_routine}
use Rattle.ep_outside.specs.Known.{IsPrefix}
use Rattle.ep_typed.specs.Denoters.{definition_of}
use Rattle.ep_meaning.specs.Meaning.{line_where}
use Rattle.ep_typed.specs.Routines.{first_private, made_by_unit, made_variables, unit_variables, variables_of}
use Rattle.ep_typed.specs.Viewed.{stmt_of}
use Rattle.ep_typed.specs.declared.unit.Unit.{Unit as TypedUnit}
use Rattle.ep_typed.specs.declared.unit.UnitRoutine.{UnitRoutine}
use Rattle.ep_typed.specs.declared.unit.UnitType.{UnitType}

-- a routine with this entry, and with so many arguments and slots of its own
abbrev pub routine_at : ℕ → ℕ → ℕ → CodeRoutine
routine_at entry arguments slots = record { entry = entry; arguments = arguments; slots = slots }

-- the entry of one that takes none and has none
abbrev pub plain_at : ℕ → CodeRoutine
plain_at entry = routine_at entry 0 0

-- these instructions stand in the code from this place on
pub record StandsIn (instructions : List Instr) (place : ℕ) (code : List Instr) : Type 0 where
  pub before : List Instr
  pub after : List Instr
  pub is : instructions ≡ before ++ (code ++ after)
  pub from : length before ≡ place

-- the code with which a routine begins: its formal parameters take the arguments, and the
-- variables of its own are made, of which the one that has its result is the first
abbrev pub own_code : UnitRoutine → List Instr
own_code r =
    take_all_code r.line 0 r.formals ++ make_all_code (length r.formals) (made_variables r)

-- the entry of a routine, with an argument for each formal parameter and a slot for each variable
abbrev pub entry_of : ℕ → UnitRoutine → CodeRoutine
entry_of entry r = routine_at entry (length r.formals) (length (variables_of r))

-- the code with which a routine of a unit with these types ends, at this place
abbrev pub its_end : List UnitType → ℕ → UnitRoutine → List Instr
its_end types at r = end_code types r.line (length r.formals) at r.result

-- At the entry of a routine of a unit with these types stands the code with which it begins, and behind that the one
-- of its
-- block, and that with which it ends.
pub record IsRoutineCode (texts : List (List ℕ)) (references : List Reference) (instructions : List Instr)
    (types : List UnitType) (r : UnitRoutine) (x : CodeRoutine) : Type 0 where
  pub plain : x ≡ entry_of x.entry r
  pub code : List Instr
  pub is_code : IsStmtCode texts references (x.entry ▸ own_code r) (stmt_of r.block) code
  pub stands : StandsIn instructions x.entry
      (own_code r ++ (code ++ its_end types (x.entry ▸ own_code r ▸ code) r))

-- the routines of a unit have these entries, one for each and in order
pub record AreRoutinesCode (texts : List (List ℕ)) (references : List Reference) (instructions : List Instr)
    (types : List UnitType) (rs : List UnitRoutine) (entries : List CodeRoutine) : Type 0 where
  pub count : length entries ≡ length rs
  pub each : (k : ℕ) (r : UnitRoutine) (x : CodeRoutine) → slice_get rs k ≡ Some r → slice_get entries k ≡ Some x
      → IsRoutineCode texts references instructions types r x

-- the line of the code that elaborates a type, and that code, which leaves the type and returns
abbrev pub elaborating_code : UnitType → List Instr
elaborating_code t = type_code (line_where t.line) (definition_of t) ++ bare (line_where t.line) op.RETURN ∷ []

-- at the entry of a routine that takes nothing stands the code that elaborates a type
pub record IsTypeCode (instructions : List Instr) (t : UnitType) (x : CodeRoutine) : Type 0 where
  pub plain : x ≡ plain_at x.entry
  pub stands : StandsIn instructions x.entry (elaborating_code t)

-- the routines that elaborate types have these entries, one for each and in order
pub record AreTypesCode (instructions : List Instr) (ts : List UnitType) (entries : List CodeRoutine) : Type 0 where
  pub count : length entries ≡ length ts
  pub each : (k : ℕ) (t : UnitType) (x : CodeRoutine) → slice_get ts k ≡ Some t → slice_get entries k ≡ Some x
      → IsTypeCode instructions t x

-- the code that takes two operands, and leaves them in the other order
abbrev pub swap_code : List Instr
swap_code = instr op.ARG (pos 1) 0 code.NO_LINE ∷ instr op.ARG (pos 0) 0 code.NO_LINE ∷ return_code ∷ []

-- at the entry of a routine that takes two operands stands that code
pub record IsSwapCode (instructions : List Instr) (x : CodeRoutine) : Type 0 where
  pub plain : x ≡ routine_at x.entry 2 0
  pub stands : StandsIn instructions x.entry swap_code

-- the code, at this place, that gives the value of a component of an array to others
abbrev pub fill_code : ℕ → List Instr
fill_code entry = filling_code entry routine.SWAP code.NO_LINE

-- at the entry of a routine that takes four operands and has one slot stands that code
pub record IsFillCode (instructions : List Instr) (x : CodeRoutine) : Type 0 where
  pub plain : x ≡ routine_at x.entry 4 1
  pub stands : StandsIn instructions x.entry (fill_code x.entry)

-- the code that leaves the indexes of a range and what tests them
abbrev pub range_code : List Instr
range_code = ranging_code code.NO_LINE

-- the code that leaves what the components with the indexes of a range are given by
abbrev pub spread_code : List Instr
spread_code = spreading_code code.NO_LINE

-- at the entry of a routine that takes so many operands and has one slot stands this code
pub record IsShuffleCode (instructions : List Instr) (operands : ℕ) (its : List Instr) (x : CodeRoutine) : Type 0 where
  pub plain : x ≡ routine_at x.entry operands 1
  pub stands : StandsIn instructions x.entry its

-- where the code of the stop of a unit begins, whose start has this code behind the making of the variables, with a
-- `Return`
abbrev pub stop_entry : TypedUnit → List Instr → ℕ
stop_entry u code = length (make_all_code 0 (made_by_unit u)) ▸ code + 1

-- the object has the code of the unit
pub record IsUnitCode (u : TypedUnit) (o : Object) : Type 0 where
  -- the code of the start's statement
  pub code : List Instr
  pub is_code : IsStmtCode o.texts o.references (length (make_all_code 0 (made_by_unit u))) (stmt_of u.start) code
  -- the code of the stop's
  pub stop_code : List Instr
  pub is_stop_code : IsStmtCode o.texts o.references (stop_entry u code) (stmt_of u.stop) stop_code
  -- the code of the other routines
  pub others : List Instr
  pub instructions : o.instructions
      ≡ make_all_code 0 (made_by_unit u) ++ (code ++ return_code ∷ (stop_code ++ return_code ∷ others))
  pub entries : List CodeRoutine
  pub blocks : AreRoutinesCode o.texts o.references o.instructions u.types u.routines entries
  pub swapping : CodeRoutine
  pub swaps : IsSwapCode o.instructions swapping
  pub filling : CodeRoutine
  pub fills : IsFillCode o.instructions filling
  pub ranging : CodeRoutine
  pub ranges : IsShuffleCode o.instructions 3 range_code ranging
  pub spreading : CodeRoutine
  pub spreads : IsShuffleCode o.instructions 5 spread_code spreading
  pub elaborating : List CodeRoutine
  pub types : AreTypesCode o.instructions u.types elaborating
  -- the first references, to the routines behind the stop
  pub named : IsPrefix (in_row u.name (swap_routine (first_private u)) (type_reference (length u.types)))
      o.references
  pub routines : o.routines
      ≡ entries ++ plain_at 0 ∷ plain_at (stop_entry u code) ∷ swapping ∷ filling ∷ ranging ∷ spreading ∷ elaborating
  pub start : o.start ≡ start_routine (first_private u)
  pub stop : o.stop ≡ stop_routine (first_private u)
  pub unit_slots : o.unit_slots ≡ length (unit_variables u)
  pub name : o.name ≡ u.name
  pub constant_types : o.constant_types ≡ []

-- the object is one of a program, which has no interface, and imports nothing
pub record HasProgramParts (o : Object) : Type 0 where
  pub is_program : o.«module» ≡ false
  pub interface : o.interface ≡ []
  pub imports : o.imports ≡ []
