-- What a routine promises to the code that calls it, whoever made either. It is said over the `Call` instruction, from
-- before it to after the instruction that leaves the routine, whose tick may have an effect as any other.
use Rattle.std.specs.Prelude.{◌≡◌, ℕ, ℤ, pos, ◌+◌, ◌*◌, ◌≤◌, ◌<◌, ◌⊎◌, IsTrue, List, [], ◌∷◌, ◌++◌, Option, Some, None}
use Rattle.std.specs.Prelude.{length, slice_get, ⊤}
use Rattle.ep_typed.specs.Denoters.{bare_type_of}
use Rattle.ep_typed.specs.Viewed.{denoter_of}
use Rattle.ep_typed.specs.declared.interface.Formal.{Formal}
use Rattle.ep_typed.specs.declared.interface.FormalMode.{FormalMode}
use Rattle.ep_typed.specs.declared.interface.FormalMode.TheVariants as mode
use Rattle.ep_typed.specs.declared.unit.UnitType.{UnitType}
use Rattle.ep_values.specs.TypeValues.{TypeValue}
use Rattle.ep_simulation.specs.Follows.{end_of, IsStructure, Operands, TypeOnTop, point, state_at, Fragment, Since}
use Rattle.ep_simulation.specs.Follows.{Lands, Inside, GivesUp}
use Rattle.ep_simulation.specs.Activations.{IsCallable}
use Rattle.ep_simulation.specs.Layouts.{Layout}
use Rattle.ep_simulation.specs.Matching.{MachineMemory, Injection, Matches, IsLike, IsSpot, kept_slots}
use Rattle.ep_object.specs.Operands.{Operand, Place, Set, Text, Word}
use Rattle.ep_object.specs.Sets.{IsSet}
use Rattle.ep_object.specs.Runs.{run, unit_in}
use Rattle.ep_simulation.specs.Simulates.{KeepPace, StaysIn, EndsAfter, StaysAfter}
use Rattle.ep_object.specs.State.{State, Running}
use Rattle.ep_object.specs.Table as table
use Rattle.ep_object.specs.Table.{instr, op_of}
use Rattle.ep_object.specs.WordRows.{at_most, less}
use Rattle.ep_object.specs.declared.code.Image.{Image}
use Rattle.ep_object.specs.declared.code.ImageRoutine.{ImageRoutine}
use Rattle.ep_object.specs.declared.code.Instr.{Instr}
use Rattle.ep_object.specs.declared.op.TheConstants as op
use Rattle.ep_object.specs.Routines.{routine_of}
use Rattle.ep_object.specs.declared.state.Place.{Place as PlaceOf}
use Rattle.ep_object.specs.Placing.{Placement, placed_call}
use Rattle.ep_meaning.specs.Calls.{Argument, Value, Variable, Handler}
use Rattle.ep_typed.specs.Hosts.{is_of_host}
use Rattle.ep_values.specs.Printing.{Result, Number, Bytes, Members}
use Rattle.ep_meaning.specs.Results.{weight_of}
use Rattle.ep_meaning.specs.Steps.{Outcome, Gives, Ends, Cut, Computation, state_of}
use Rattle.ep_meaning.specs.Steps as meaning
use Rattle.ep_meaning.specs.Valid as kind
use Rattle.ep_typed.specs.Trees.{Named}
use Rattle.ep_meaning.specs.Valid.{Declarations, IsOfKind, IsTyped, ValueKind, Level}
use Rattle.ep_typed.specs.declared.interface.RoutineEntry.{RoutineEntry}
use Rattle.ep_typed.specs.declared.interface.RoutineResult.{RoutineResult}

-- how a formal parameter takes its argument: a value of a kind, or a variable of a type, but for initial states
pub data Passing : Type 0 where
  ByValue : (kind : ValueKind) → Passing
  ByReference : (type : TypeValue) → Passing

-- this formal parameter of a unit with these types does so
abbrev pub IsPassed : List UnitType → FormalMode → Formal → Passing → Type 0
IsPassed types mode.Value f (ByValue k) = IsOfKind k types (denoter_of f.denoter)
IsPassed types mode.ProtectedValue f (ByValue k) = IsOfKind k types (denoter_of f.denoter)
IsPassed types mode.Variable f (ByReference t) = bare_type_of types (denoter_of f.denoter) ≡ Some t
IsPassed types mode.ProtectedVariable f (ByReference t) = bare_type_of types (denoter_of f.denoter) ≡ Some t
IsPassed types mode f p = ⊥

-- one for each, in order
abbrev pub ArePassed : List UnitType → List Formal → List Passing → Type 0
ArePassed types [] [] = ⊤
ArePassed types [] (p ∷ ps) = ⊥
ArePassed types (f ∷ fs) [] = ⊥
ArePassed types (f ∷ fs) (p ∷ ps) = IsPassed types f.mode f p × ArePassed types fs ps

-- an operand is the value of a result of the kind
abbrev pub IsValueOf : Injection → MachineMemory → ValueKind → Result → Operand → Type 0
IsValueOf injection memory (kind.Ordinal host) r o =
    (z : ℤ) × (r ≡ Number z) × IsTrue (is_of_host host z) × (o ≡ Word z)
IsValueOf injection memory kind.Bytes r o = (bytes : List ℕ) × (r ≡ Bytes bytes) × (o ≡ Text bytes)
IsValueOf injection memory (kind.Structured t) r o = IsStructure t r injection memory o
IsValueOf injection memory (kind.Set host) r o = (ms : List ℕ) × (r ≡ Members ms) × IsSet ms × (o ≡ Set ms)

-- an operand is that of an argument: the value, or a place of the variable
abbrev pub IsArgument : Injection → MachineMemory → Passing → Argument → Operand → Type 0
IsArgument injection memory (ByValue k) (Value r) o = IsValueOf injection memory k r o
IsArgument injection memory (ByValue k) (Variable n) o = ⊥
IsArgument injection memory (ByReference t) (Value r) o = ⊥
IsArgument injection memory (ByReference t) (Variable n) o =
    (p : PlaceOf) × (o ≡ Place p) × IsSpot injection memory.types n p × IsLike memory.types p.type_number t

-- the operands are those of the arguments, one for each formal and the first lowest, on the ones below
abbrev pub AreArguments : Injection → MachineMemory → List Passing → List Argument → List Operand → List Operand
    → Type 0
AreArguments injection memory [] [] below operands = operands ≡ below
AreArguments injection memory [] (x ∷ xs) below operands = ⊥
AreArguments injection memory (f ∷ fs) [] below operands = ⊥
AreArguments injection memory (f ∷ fs) (x ∷ xs) below operands =
    (o : Operand) × IsArgument injection memory f x o × AreArguments injection memory fs xs (o ∷ below) operands

-- Results of these kinds lie on the operands below, the first lowest. A procedure has none, and a function has one.
abbrev pub ResultsOnTop : List ValueKind → List Operand → List Result → Operands
ResultsOnTop [] below [] injection memory operands = operands ≡ below
ResultsOnTop [] below (r ∷ rs) injection memory operands = ⊥
ResultsOnTop (k ∷ ks) below [] injection memory operands = ⊥
ResultsOnTop (k ∷ ks) below (r ∷ rs) injection memory operands =
    (o : Operand) × IsValueOf injection memory k r o × ResultsOnTop ks (o ∷ below) rs injection memory operands

-- The credit behind a call: twice what its results weigh, since the form of the call spends their weight and they are
-- put somewhere.
abbrev pub credit_of : List Result → ℕ
credit_of [] = 0
credit_of (r ∷ rs) = 2 * weight_of r + credit_of rs

-- what a call of one routine does, by the unit and the line of what makes the call, by how many levels up it is
-- declared,
-- and by the arguments
abbrev pub Called : Type 0
Called = List ℕ → ℕ → ℕ → List Argument → Computation (List Result)

-- At this place of the code stands a `Call` of the routine of this number. Its parent is the frame of its unit for 0,
-- and
-- else the one so many levels less one up.
pub record CallsAt (G : Image) (place routine levels line : ℕ) : Type 0 where
  pub instruction : Instr
  pub stands : slice_get G.instructions place ≡ Some instruction
  pub is_call : op_of instruction.op ≡ Some table.Call
  pub names : instruction.a ≡ pos routine
  pub parent : instruction.b ≡ levels
  pub at_line : instruction.line ≡ line

-- The routine of this number, of a unit with these types and with these routines around it, keeps its promise for what
-- calls
-- of it do, with up to n steps. Wherever the machine matches and stands at a `Call` of it with such arguments on the
-- operands below, in an activation around which those are as the call says, it follows the call to the next
-- instruction,
-- where the results are on the operands below. The allocations that the routine made have ended then on both sides, if
-- they do at all, and what the caller knows of its own activation holds as before. No credit is there before.
pub record Promises (layout : Layout) (G : Image) (routine n : ℕ) (types : List UnitType) (around : List Level)
    (formals : List Passing) (results : List ValueKind) (called : Called) : Type 0 where
  pub by : (place levels line : ℕ) → CallsAt G place routine levels line
      → (injection : Injection) (begun : meaning.State) (memory : MachineMemory)
      → IsCallable types levels around injection begun.calls memory
      → (below operands : List Operand) (arguments : List Argument)
      → AreArguments injection memory formals arguments below operands
      → Fragment layout G (Since (kept_slots layout G) injection begun memory) n
      (point injection memory place operands) (called (unit_in G memory.frames) line levels arguments) (place + 1)
      (λ rs. Inside (kept_slots layout G) injection memory (ResultsOnTop results below rs)) 0 credit_of

-- The kinds of what a routine of a unit with these types gives: a procedure gives nothing, and a function one value of
-- the kind of its result (ISO 10206, 6.7.2).
abbrev pub AreResults : List UnitType → Option RoutineResult → List ValueKind → Type 0
AreResults types None [] = ⊤
AreResults types None (k ∷ ks) = ⊥
AreResults types (Some r) [] = ⊥
AreResults types (Some r) (k ∷ []) = IsOfKind k types (denoter_of r.denoter)
AreResults types (Some r) (k ∷ l ∷ ks) = ⊥

-- A routine of a unit has a number in the image, by which a call that names it is placed, and keeps its promise for
-- what these calls do. Its heading names in these types, and these routines are around it.
pub record RoutineKeeps (layout : Layout) (G : Image) (ps : List Placement) (call : Handler) (n : ℕ)
    (types : List UnitType) (around : List Level) (unit : List ℕ) (number : ℕ) (r : RoutineEntry) : Type 0 where
  pub routine : ℕ
  pub formals : List Passing
  pub passed : ArePassed types r.formals formals
  pub results : List ValueKind
  pub given : AreResults types r.result results
  pub placed : (i : Instr)
      → placed_call ps (Some (record { unit = unit; number = number })) i ≡ record i { a = pos routine }
  pub promise : Promises layout G routine n types around formals results
      (λ from line levels arguments. call.routine from line (record { unit = unit; number = number; levels = levels })
      arguments)

-- the numbers, among the routines of an object, of those that no text writes, the first of which has this number: of
-- the start and the stop
abbrev pub start_routine : ℕ → ℕ
start_routine first = first

abbrev pub stop_routine : ℕ → ℕ
stop_routine first = first + 1

-- of the one that leaves two operands in the other order, which stands behind the stop
abbrev pub swap_routine : ℕ → ℕ
swap_routine first = first + 2

-- of the one that gives the value of a component of an array to others, which stands behind it
abbrev pub fill_routine : ℕ → ℕ
fill_routine first = first + 3

-- of the one that leaves the indexes of a range, and what tests them
abbrev pub range_routine : ℕ → ℕ
range_routine first = first + 4

-- of the one that leaves what the components with the indexes of a range are given by
abbrev pub spread_routine : ℕ → ℕ
spread_routine first = first + 5

-- and of the one that elaborates the type of this number, which stand behind that
abbrev pub type_routine : ℕ → ℕ → ℕ
type_routine first index = first + 6 + index

-- the credit behind the elaboration of a type
abbrev pub type_credit : ℕ
type_credit = 8

-- The routine that elaborates a type of a unit whose routines that no text writes are numbered from this on has a
-- number in the image, by which a call that names it is placed. From each `Call` of it in a routine of the unit the
-- machine follows the elaboration to the next instruction, where the number of a type that describes the type value is
-- on the operands below, and what the caller knows of its own activation holds as before. No credit is there before.
pub record TypeKeeps (layout : Layout) (G : Image) (ps : List Placement) (call : Handler) (n first : ℕ)
    (unit : List ℕ) (index : ℕ) (t : TypeValue) : Type 0 where
  pub routine : ℕ
  pub placed : (i : Instr)
      → placed_call ps (Some (record { unit = unit; number = type_routine first index })) i
      ≡ record i { a = pos routine }
  pub promise : (place line : ℕ) → CallsAt G place routine 0 line
      → (injection : Injection) (begun : meaning.State) (memory : MachineMemory) (below : List Operand)
      → unit_in G memory.frames ≡ unit
      → Fragment layout G (Since (kept_slots layout G) injection begun memory) n
      (point injection memory place below) (call.named_type unit line index) (place + 1)
      (λ a. Inside (kept_slots layout G) injection memory (TypeOnTop t below a)) 0 (λ a. type_credit)

-- these instructions stand in the image from this place on
abbrev pub StandFrom : Image → ℕ → List Instr → Type 0
StandFrom G place [] = ⊤
StandFrom G place (i ∷ is) = (slice_get G.instructions place ≡ Some i) × StandFrom G (place + 1) is

-- The routine of this number in the image takes so many operands, has so many slots, and has this code, which its
-- entry and a line give: the line of each of its instructions.
pub record IsShuffle (G : Image) (routine operands slots : ℕ) (code : (entry line : ℕ) → List Instr) : Type 0 where
  pub its : ImageRoutine
  pub there : routine_of G routine ≡ Some its
  pub numbered : routine < length G.routines
  pub takes : its.arguments ≡ operands
  pub has_slots : its.slots ≡ slots
  pub line : ℕ
  pub stands : StandFrom G its.entry (code its.entry line)

-- A unit has such a routine in the image, by which a call that names the unit's routine of this number is placed.
pub record ShuffleStands (ps : List Placement) (unit : List ℕ) (number : ℕ) (Is : ℕ → Type 0) : Type 0 where
  pub routine : ℕ
  pub is : Is routine
  pub placed : (i : Instr)
      → placed_call ps (Some (record { unit = unit; number = number })) i ≡ record i { a = pos routine }

-- The code of the routine that takes two operands: the upper one is taken out first, then the lower one, and then it
-- returns. It leaves the two in the other order.
abbrev pub swapping_code : (line : ℕ) → List Instr
swapping_code line =
    instr op.ARG (pos 1) 0 line ∷ instr op.ARG (pos 0) 0 line ∷ instr op.RETURN (pos 0) 0 line ∷ []

-- The routine of this number in the image has that code, and uses none of the slots that it has.
pub record IsSwap (G : Image) (routine : ℕ) : Type 0 where
  pub slots : ℕ
  pub shuffles : IsShuffle G routine 2 slots (λ entry. swapping_code)

-- A unit whose routines that no text writes are numbered from this on has it.
abbrev pub SwapStands : Image → List Placement → List ℕ → ℕ → Type 0
SwapStands G ps unit first = ShuffleStands ps unit (swap_routine first) (IsSwap G)

-- In the routine that gives the value of a component of an array to others, with the index on top of one that gets it,
-- which stays
-- there: the index is doubled, and the place of the array gets below it by a call of the routine with this number,
-- which leaves two
-- operands in the other order; then the value is loaded and stored.
abbrev pub copying_code : (swap line : ℕ) → List Instr
copying_code swap line =
    instr op.DUP (pos 0) 0 line ∷ instr op.SLOT (pos 0) 0 line ∷ instr op.CALL (pos swap) 0 line
    ∷ instr op.INDEX (pos 0) 0 line
    ∷ instr op.SLOT (pos 0) 0 line ∷ instr op.PEEK (pos 1) 0 line ∷ instr op.INDEX (pos 0) 0 line
    ∷ instr op.LOAD (pos 0) 0 line ∷ instr op.STORE (pos 0) 0 line ∷ []

-- in the code of that routine, which has this entry: where a turn begins, and its end
abbrev pub turn_place : ℕ → ℕ
turn_place entry = entry + 3

abbrev pub fill_end : ℕ → ℕ
fill_end entry = entry + 19

-- behind that: the next index, where this one is below the last one, and else the end of the routine, which has this
-- entry
abbrev pub next_code : (entry line : ℕ) → List Instr
next_code entry line =
    instr op.DUP (pos 0) 0 line ∷ instr op.PEEK (pos 3) 0 line ∷ instr op.CMP less 0 line
    ∷ instr op.JUMP_FALSE (pos (fill_end entry)) 0 line
    ∷ instr op.PUSH (pos 1) 0 line ∷ instr op.ADD (pos 0) 0 line ∷ instr op.JUMP (pos (turn_place entry)) 0 line
    ∷ instr op.DROP (pos 0) 0 line ∷ instr op.RETURN (pos 0) 0 line ∷ []

-- a turn, and what is behind it
abbrev pub turning_code : (entry swap line : ℕ) → List Instr
turning_code entry swap line = copying_code swap line ++ next_code entry line

-- The code of that routine. It takes the place of the array, which goes into its slot, the index of the component that
-- has the value,
-- and the indexes of the first and of the last one that get it.
abbrev pub filling_code : (entry swap line : ℕ) → List Instr
filling_code entry swap line =
    instr op.ARG (pos 0) 0 line ∷ instr op.BIND (pos 0) 0 line ∷ instr op.PEEK (pos 2) 0 line
    ∷ turning_code entry swap line

-- The routine of this number in the image has that code, with one that leaves two operands in the other order.
pub record IsFill (G : Image) (routine : ℕ) : Type 0 where
  pub swap : ℕ
  pub swaps : IsSwap G swap
  pub shuffles : IsShuffle G routine 4 1 (λ entry. filling_code entry swap)

-- A unit whose routines that no text writes are numbered from this on has it.
abbrev pub FillStands : Image → List Placement → List ℕ → ℕ → Type 0
FillStands G ps unit first = ShuffleStands ps unit (fill_routine first) (IsFill G)

-- The code of the routine that takes the place of an array and the first and the last index of a range. It leaves the
-- indexes, and the
-- place above them; and above that the last index with the place, and the first one with it, for `Index` to test.
abbrev pub ranging_code : (line : ℕ) → List Instr
ranging_code line =
    instr op.ARG (pos 0) 0 line ∷ instr op.BIND (pos 0) 0 line ∷ instr op.PEEK (pos 1) 0 line
    ∷ instr op.PEEK (pos 2) 0 line
    ∷ instr op.SLOT (pos 0) 0 line ∷ instr op.SLOT (pos 0) 0 line ∷ instr op.PEEK (pos 2) 0 line
    ∷ instr op.SLOT (pos 0) 0 line ∷ instr op.PEEK (pos 1) 0 line ∷ instr op.RETURN (pos 0) 0 line ∷ []

-- The routine of this number in the image has that code.
abbrev pub IsRange : Image → ℕ → Type 0
IsRange G routine = IsShuffle G routine 3 1 (λ entry. ranging_code)

-- A unit whose routines that no text writes are numbered from this on has it.
abbrev pub RangeStands : Image → List Placement → List ℕ → ℕ → Type 0
RangeStands G ps unit first = ShuffleStands ps unit (range_routine first) (IsRange G)

-- In the routine that takes the first and the last index of a range, the place of an array, and a value twice: it
-- leaves the place and
-- the value, and above them what the routine that gives the value of a component to others takes, which are here the
-- component with
-- the first index and those of the range.
abbrev pub row_code : (line : ℕ) → List Instr
row_code line =
    instr op.ARG (pos 2) 0 line ∷ instr op.BIND (pos 0) 0 line ∷ instr op.SLOT (pos 0) 0 line
    ∷ instr op.ARG (pos 3) 0 line
    ∷ instr op.SLOT (pos 0) 0 line ∷ instr op.PEEK (pos 0) 0 line ∷ instr op.PEEK (pos 0) 0 line
    ∷ instr op.PEEK (pos 1) 0 line ∷ []

-- behind that: the value again, the first component by the place and its index, and whether the first index is at most
-- the last one
abbrev pub first_code : (line : ℕ) → List Instr
first_code line =
    instr op.ARG (pos 4) 0 line ∷ instr op.SLOT (pos 0) 0 line ∷ instr op.PEEK (pos 0) 0 line
    ∷ instr op.PEEK (pos 0) 0 line ∷ instr op.PEEK (pos 1) 0 line ∷ instr op.CMP at_most 0 line
    ∷ instr op.RETURN (pos 0) 0 line ∷ []

-- The code of that routine.
abbrev pub spreading_code : (line : ℕ) → List Instr
spreading_code line = row_code line ++ first_code line

-- The routine of this number in the image has that code.
abbrev pub IsSpread : Image → ℕ → Type 0
IsSpread G routine = IsShuffle G routine 5 1 (λ entry. spreading_code)

-- A unit whose routines that no text writes are numbered from this on has it.
abbrev pub SpreadStands : Image → List Placement → List ℕ → ℕ → Type 0
SpreadStands G ps unit first = ShuffleStands ps unit (spread_routine first) (IsSpread G)

-- Such a unit has all of those that give values to components of arrays.
pub record ArrayRoutinesStand (G : Image) (ps : List Placement) (unit : List ℕ) (first : ℕ) : Type 0 where
  pub fill : FillStands G ps unit first
  pub range : RangeStands G ps unit first
  pub spread : SpreadStands G ps unit first

-- Where names are declared so, every routine of another unit that may be named keeps its promise.
abbrev pub OthersAreKept : Declarations → Layout → Image → List Placement → Handler → ℕ → Type 0
OthersAreKept declared layout G ps call n =
    (unit : List ℕ) → (unit ≡ declared.home → ⊥) → (number : ℕ) (r : RoutineEntry)
    → slice_get (declared.routines unit) number ≡ Some r
    → RoutineKeeps layout G ps call n declared.types (declared.around unit number) unit number r

-- Where names are declared so, every routine of the unit does so, and every one of another unit that may be named. So
-- does that of every type of the unit that has a type value. Where it has types, the unit has the routine that leaves
-- two operands in the other order, and those that give values to components of arrays.
pub record CallsAreKept (declared : Declarations) (layout : Layout) (G : Image) (ps : List Placement)
    (call : Handler) (n : ℕ) : Type 0 where
  pub routines : (number : ℕ) (r : RoutineEntry)
      → slice_get (declared.routines declared.home) number ≡ Some r
      → RoutineKeeps layout G ps call n declared.types
      (declared.around declared.home number) declared.home number r
  pub others : OthersAreKept declared layout G ps call n
  pub types : (index : ℕ) (t : TypeValue) → IsTyped declared.types (Named index []) t
      → TypeKeeps layout G ps call n declared.first_private declared.home index t
  pub swaps : 0 < length declared.types
      → SwapStands G ps declared.home declared.first_private
  pub of_arrays : 0 < length declared.types
      → ArrayRoutinesStand G ps declared.home declared.first_private

-- ---- what this says of runs from a call

-- A call has given its results after so many steps: the machine comes to the instruction after it and matches, its
-- ticks
-- keep pace with the steps, and until then the calling routine is not left.
pub record ComesBackAfter (layout : Layout) (G : Image) (injection : Injection) (begun : meaning.State)
    (memory : MachineMemory) (Then : Operands) (to : ℕ) (k : State) (s : meaning.State) (steps : ℕ) : Type 0 where
  pub ticks : ℕ
  pub last : State
  pub runs : run G ticks 0 k ≡ Running 0 last
  pub lands : Lands layout G (Since (kept_slots layout G) injection begun memory) to
      (Inside (kept_slots layout G) injection memory Then) s last
  pub pace : KeepPace steps ticks
  pub until : (t : ℕ) → t ≤ ticks → StaysIn G k t s.trace

-- what a run from a call does where what the call does comes to this with so many steps
abbrev pub CallComesTo : Layout → Image → Injection → meaning.State → MachineMemory → (List Result → Operands)
    → ℕ → State → ℕ → Outcome (List Result) → Type 0
CallComesTo layout G injection begun memory Then to k steps (Gives left a s) = (spent : ℕ)
    → left + spent ≡ steps → ComesBackAfter layout G injection begun memory (Then a) to k s spent
CallComesTo layout G injection begun memory Then to k steps (Ends left end s) = (spent : ℕ)
    → left + spent ≡ steps → EndsAfter G k (end_of end) s.trace spent
CallComesTo layout G injection begun memory Then to k steps (Cut s) = StaysAfter G k s.trace steps

-- Where a routine keeps its promise, every run from a call of it answers what the call does with each number of steps
-- up
-- to n, or ends for want of room within 64 ticks for each of them.
abbrev pub CallsAnswer : Type 0
CallsAnswer =
    (layout : Layout) (G : Image) (routine n : ℕ) (types : List UnitType) (around : List Level)
    → (formals : List Passing) (results : List ValueKind) (called : Called)
    → Promises layout G routine n types around formals results called
    → (place levels line : ℕ) → CallsAt G place routine levels line
    → (injection : Injection) (memory : MachineMemory) (below operands : List Operand)
    → (arguments : List Argument) → AreArguments injection memory formals arguments below operands
    → (s : meaning.State) → Matches layout G injection s memory
    → IsCallable types levels around injection s.calls memory
    → (steps : ℕ) → steps ≤ n
    → CallComesTo layout G injection s memory (ResultsOnTop results below) (place + 1)
    (state_at (point injection memory place operands) s.trace) steps
    (called (unit_in G memory.frames) line levels arguments steps s)
    ⊎ GivesUp G (state_at (point injection memory place operands) s.trace) steps 0
    (state_of (called (unit_in G memory.frames) line levels arguments steps s))
