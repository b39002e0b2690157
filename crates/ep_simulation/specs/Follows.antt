-- The machine follows a computation: with costs both ways, in runs that are cut, and for want of room.
use Rattle.std.specs.Prelude.{◌≡◌, ℕ, ℤ, pos, suc, ◌+◌, ◌*◌, ◌≤◌, ◌<◌, ◌⊎◌, IsTrue, List, [], ◌∷◌, ◌++◌, length}
use Rattle.std.specs.Prelude.{slice_get, ⊤}
use Rattle.ep_outside.specs.Known.{IsPrefix}
use Rattle.ep_values.specs.Events.{Trace}
use Rattle.ep_values.specs.Printing.{Result, Number, Bytes, Structure, Members}
use Rattle.ep_meaning.specs.Steps.{Component, Outcome, Gives, Ends, Cut, Computation, state_of}
use Rattle.ep_values.specs.Values.{Value as ValueOf}
use Rattle.ep_meaning.specs.Steps as meaning
use Rattle.ep_meaning.specs.Valid as kind
use Rattle.ep_meaning.specs.Valid.{ValueKind}
use Rattle.ep_typed.specs.Hosts.{Host, is_of_host}
use Rattle.ep_values.specs.TypeValues.{TypeValue, bare_of, size_of}
use Rattle.ep_simulation.specs.Layouts.{Layout}
use Rattle.ep_simulation.specs.Matching.{MachineMemory, at, Describes, Injection, Matches, Slots, own_slot, Grown}
use Rattle.ep_simulation.specs.Matching.{IsBare, IsLike, IsSpot, HasAt}
use Rattle.ep_object.specs.Operands.{Operand, Word, Place, Text, Value, Set}
use Rattle.ep_object.specs.Sets.{IsSet}
use Rattle.ep_simulation.specs.Starts.{AreStarts}
use Rattle.ep_object.specs.Runs.{run, tick}
use Rattle.ep_object.specs.State.{State, Frame, Frames, End, Running, Stopped, Normal, Halt, Error}
use Rattle.ep_object.specs.declared.code.Image.{Image}
use Rattle.ep_object.specs.declared.state.Place.{Place as PlaceOf}
use Rattle.ep_values.specs.declared.run_error.TheConstants as run_error

-- the machine's end for the meaning's
abbrev pub end_of : meaning.End → End
end_of meaning.Normal = Normal
end_of meaning.Halted = Halt
end_of (meaning.Error number unit line) = Error number unit line

-- Of m steps all but those left were spent, in t ticks. A credit of d ticks or steps is there before, and e after:
-- what an instruction without a step costs is paid by what others leave over.
pub record Pays (m left t d e : ℕ) : Type 0 where
  pub spent : ℕ
  pub all : left + spent ≡ m
  pub slow : spent + e ≤ 64 * t + d
  pub fast : t + e ≤ 64 * spent + d

-- at each tick before that many from a state the run is in such states
pub record StaysWithin (Within : State → Type 0) (G : Image) (k : State) (ticks : ℕ) : Type 0 where
  pub each : (t wait : ℕ) (s : State) → t < ticks → run G t 0 k ≡ Running wait s → Within s

-- the machine comes to a state of which this holds, and is in such states before
pub record Reaches (Within : State → Type 0) (G : Image) (k : State) (m left d e : ℕ)
    (Post : State → Type 0) : Type 0 where
  pub ticks : ℕ
  pub to : State
  pub runs : run G ticks 0 k ≡ Running 0 to
  pub within : StaysWithin Within G k ticks
  pub pays : Pays m left ticks d e
  pub post : Post to

-- The machine ends so, and is in such states until then. Of m steps all but those left were spent; the last tick pays
-- for none of them.
pub record EndsToo (Within : State → Type 0) (G : Image) (k : State) (m left d : ℕ) (e : meaning.End)
    (trace : Trace) : Type 0 where
  pub ticks : ℕ
  pub wait : ℕ
  pub last : State
  pub runs : run G ticks 0 k ≡ Running wait last
  pub within : StaysWithin Within G k (suc ticks)
  pub ends : tick G wait last ≡ Stopped (end_of e) trace
  pub spent : ℕ
  pub all : left + spent ≡ m
  pub slow : spent ≤ 64 * ticks + d
  pub fast : suc ticks ≤ 64 * spent + d

-- the machine is still running, in such states up to a point at which its events are those
pub record RunsOn (Within : State → Type 0) (G : Image) (k : State) (m d : ℕ) (trace : Trace) : Type 0 where
  pub ticks : ℕ
  pub wait : ℕ
  pub to : State
  pub runs : run G ticks 0 k ≡ Running wait to
  pub within : StaysWithin Within G k (suc ticks)
  pub same : to.trace ≡ trace
  pub slow : m ≤ 64 * ticks + d
  pub fast : ticks ≤ 64 * m + d

-- What the machine does where the computation comes to this with m steps. The credit after it may depend on what
-- the computation gives, since a text has a weight.
abbrev pub Meets : {A : Type 0} → (State → Type 0) → Image → State → ℕ → (A → meaning.State → State → Type 0)
    → ℕ → (A → ℕ) → Outcome A → Type 0
Meets Within G k m Post d e (Gives left a s) = Reaches Within G k m left d (e a) (Post a s)
Meets Within G k m Post d e (Ends left end s) = EndsToo Within G k m left d end s.trace
Meets Within G k m Post d e (Cut s) = RunsOn Within G k m d s.trace

-- Room was lost by then, with up to m steps, and the machine ends for want of storage or of depth, with no more ticks
-- than so many steps may take.
pub record GivesUp (G : Image) (k : State) (m d : ℕ) (s : meaning.State) : Type 0 where
  pub lost : IsTrue s.resources.lost
  pub ticks : ℕ
  pub fast : ticks ≤ 64 * m + d
  pub number : ℕ
  pub is_limit : (number ≡ run_error.STORAGE_LIMIT) ⊎ (number ≡ run_error.CALL_DEPTH)
  pub unit : List ℕ
  pub line : ℕ
  pub trace : Trace
  pub runs : run G ticks 0 k ≡ Stopped (Error number unit line) trace
  pub begins : IsPrefix trace s.trace

-- The machine follows the computation with up to n steps, and is in such states at each tick until it has given a
-- value, is cut or has ended. That room is lost lets it end within ticks that the steps bound, and nothing else: where
-- it goes on, it follows.
pub record Follows {A : Type 0} (Within : State → Type 0) (G : Image) (n : ℕ) (k : State) (s : meaning.State)
    (c : Computation A) (Post : A → meaning.State → State → Type 0) (d : ℕ) (e : A → ℕ) : Type 0 where
  pub by : (m : ℕ) → m ≤ n → Meets Within G k m Post d e (c m s) ⊎ GivesUp G k m d (state_of (c m s))

-- Where the machine stands between two instructions, but for its events: the injection by which it matches, the
-- memory,
-- the place in the code, and the operands.
pub record Point : Type 0 where
  pub injection : Injection
  pub memory : MachineMemory
  pub place : ℕ
  pub operands : List Operand

abbrev pub point : Injection → MachineMemory → ℕ → List Operand → Point
point injection memory place operands =
    record { injection = injection; memory = memory; place = place; operands = operands }

-- the state of the machine at a point
abbrev pub state_at : Point → Trace → State
state_at from trace = at from.place from.operands from.memory trace

-- What code knows of its own activation: of its frame, its arguments and its allocations, and of the frames that it
-- sees. Nothing of it stands in `Matches`, so that code of any origin may call any other.
abbrev pub Facts : Type 1
Facts = Injection → meaning.State → MachineMemory → Type 0

-- what holds of the injection, the memory and the operands after a fragment of code
abbrev pub After : Type 1
After = Injection → MachineMemory → List Operand → Type 0

-- the machine stands at a place of the code and matches, the facts of the activation hold, and this holds
pub record Lands (layout : Layout) (G : Image) (Here : Facts) (place : ℕ) (Post : After)
    (s : meaning.State) (k : State) : Type 0 where
  pub injection : Injection
  pub memory : MachineMemory
  pub operands : List Operand
  pub is : k ≡ at place operands memory s.trace
  pub matches : Matches layout G injection s memory
  pub here : Here injection s memory
  pub post : Post injection memory operands

-- The innermost call is still the same one, of whose frame arguments, slots and what was made in it may differ; the
-- calls below it are what they were.
abbrev pub IsStillCall : List Frame → List Frame → Type 0
IsStillCall [] [] = ⊤
IsStillCall [] (d ∷ later) = ⊥
IsStillCall (c ∷ calls) [] = ⊥
IsStillCall (c ∷ calls) (d ∷ later) =
    (d.routine ≡ c.routine) × (d.parent ≡ c.parent) × (d.back ≡ c.back) × (later ≡ calls)

-- The same, and nothing was made in it and no argument was taken out since.
abbrev pub IsSameCall : List Frame → List Frame → Type 0
IsSameCall [] [] = ⊤
IsSameCall [] (d ∷ later) = ⊥
IsSameCall (c ∷ calls) [] = ⊥
IsSameCall (c ∷ calls) (d ∷ later) =
    (d.routine ≡ c.routine) × (d.parent ≡ c.parent) × (d.back ≡ c.back) × (later ≡ calls)
    × (d.arguments ≡ c.arguments) × (d.made ≡ c.made)

-- the routine still runs, in the same call or else in the same unit's frame
pub record StillRuns (before after : Frames) : Type 0 where
  pub turn : after.turn ≡ before.turn
  pub routine : after.routine ≡ before.routine
  pub unit : after.unit ≡ before.unit
  pub calls : IsStillCall before.calls after.calls

-- The same, and its call has the arguments that it had, has made what it had made, and has these slots of its own as
-- they
-- were. Once a routine has taken its arguments and made its variables, this holds of all its code.
pub record SameRoutine (untouched : Slots) (before after : Frames) : Type 0 where
  pub turn : after.turn ≡ before.turn
  pub routine : after.routine ≡ before.routine
  pub unit : after.unit ≡ before.unit
  pub calls : IsSameCall before.calls after.calls
  pub slots : (k : ℕ) → IsTrue (untouched.own k) → own_slot after k ≡ own_slot before k

-- The routine that ran is not left: it runs, or calls run that it made, which stand over its own.
pub record IsNotLeft (before now : Frames) : Type 0 where
  pub over : List Frame
  pub own : List Frame
  pub is : now.calls ≡ over ++ own
  pub runs : StillRuns before (record now { calls = own })

-- The calls under way are the same on both sides, with the slots of the innermost one, memory has grown and these
-- slots are
-- untouched, and the same routine runs.
pub record HasGrown (untouched : Slots) (injection : Injection) (s : meaning.State) (memory : MachineMemory)
    (longer : Injection) (t : meaning.State) (after : MachineMemory) : Type 0 where
  pub grown : Grown untouched injection memory longer after
  pub routine : SameRoutine untouched memory.frames after.frames
  pub own : (k : ℕ) → own_slot after.frames k ≡ own_slot memory.frames k
  pub calls : t.calls ≡ s.calls

-- facts that go on holding where memory has grown so
pub record Lasts (untouched : Slots) (Here : Facts) : Type 0 where
  pub by : (injection longer : Injection) (s t : meaning.State) (memory after : MachineMemory)
      → HasGrown untouched injection s memory longer t after → Here injection s memory → Here longer t after

-- That memory has grown so since then, which lasts. Whatever facts last and held then hold where this does.
abbrev pub Since : Slots → Injection → meaning.State → MachineMemory → Facts
Since untouched injection s memory longer t after = HasGrown untouched injection s memory longer t after

-- From a point at which the facts of the activation hold, the machine follows the computation, without leaving the
-- routine, to
-- a place of the code at which they hold again, and this does.
pub record Fragment {A : Type 0} (layout : Layout) (G : Image) (Here : Facts) (n : ℕ) (from : Point)
    (c : Computation A) (to : ℕ) (Post : A → After) (d : ℕ) (e : A → ℕ) : Type 0 where
  pub by : (s : meaning.State) → Matches layout G from.injection s from.memory
      → Here from.injection s from.memory
      → Follows (λ k. IsNotLeft from.memory.frames k.frames) G n (state_at from s.trace) s c
      (λ a. Lands layout G Here to (Post a)) d e

-- ---- what holds after the code of a form

-- what the operands are
abbrev pub Operands : Type 1
Operands = Injection → MachineMemory → List Operand → Type 0

-- nothing more than the operands below
abbrev pub Bare : List Operand → Unit {0} → Operands
Bare below a injection memory operands = operands ≡ below

-- a number of the host on top
pub record NumberOnTop (host : Host) (below : List Operand) (r : Result) (injection : Injection)
    (memory : MachineMemory) (operands : List Operand) : Type 0 where
  pub number : ℤ
  pub is_number : r ≡ Number number
  pub of_host : IsTrue (is_of_host host number)
  pub is : operands ≡ Word number ∷ below

-- a text on top
pub record TextOnTop (below : List Operand) (r : Result) (injection : Injection) (memory : MachineMemory)
    (operands : List Operand) : Type 0 where
  pub bytes : List ℕ
  pub is_text : r ≡ Bytes bytes
  pub is : operands ≡ Text bytes ∷ below

-- An operand is the value of a result of an array or record type, which has no initial states: its type is the bare
-- form of that
-- one, and its words hold the value.
pub record IsStructure (type : TypeValue) (r : Result) (injection : Injection) (memory : MachineMemory)
    (operand : Operand) : Type 0 where
  pub value : ValueOf
  pub is_structure : r ≡ Structure type value
  pub type_number : ℕ
  pub words : List ℤ
  pub is : operand ≡ Value type_number words
  pub bare : bare_of type ≡ type
  pub described : IsBare memory.types type_number type
  pub sized : length words ≡ size_of type
  pub holds : HasAt injection type value (slice_get words) 0

-- such an operand on top
pub record StructureOnTop (type : TypeValue) (below : List Operand) (r : Result) (injection : Injection)
    (memory : MachineMemory) (operands : List Operand) : Type 0 where
  pub operand : Operand
  pub holds : IsStructure type r injection memory operand
  pub is : operands ≡ operand ∷ below

-- a set on top
pub record SetOnTop (below : List Operand) (r : Result) (injection : Injection) (memory : MachineMemory)
    (operands : List Operand) : Type 0 where
  pub members : List ℕ
  pub is_members : r ≡ Members members
  pub is_set : IsSet members
  pub is : operands ≡ Set members ∷ below

-- a result of the kind on top
abbrev pub OnTop : ValueKind → List Operand → Result → Operands
OnTop (kind.Ordinal host) below r = NumberOnTop host below r
OnTop kind.Bytes below r = TextOnTop below r
OnTop (kind.Structured type) below r = StructureOnTop type below r
OnTop (kind.Set host) below r = SetOnTop below r

-- a place of the variable on top, whose type describes the type value, but for initial states
pub record PlaceOnTop (type : TypeValue) (below : List Operand) (variable : Component) (injection : Injection)
    (memory : MachineMemory) (operands : List Operand) : Type 0 where
  pub place : PlaceOf
  pub is : operands ≡ Place place ∷ below
  pub spot : IsSpot injection memory.types variable place
  pub described : IsLike memory.types place.type_number type

-- inside of a routine: memory has grown and these slots are untouched, the routine is the same, and the operands are
-- such
pub record Inside (untouched : Slots) (injection : Injection) (memory : MachineMemory) (Then : Operands)
    (longer : Injection) (after : MachineMemory) (operands : List Operand) : Type 0 where
  pub grown : Grown untouched injection memory longer after
  pub routine : SameRoutine untouched memory.frames after.frames
  pub operands_are : Then longer after operands

-- A type value is given that is this one but for initial states, all of which are values of their types, and the
-- number of a type
-- that describes it is on top.
pub record TypeOnTop (t : TypeValue) (below : List Operand) (given : TypeValue) (injection : Injection)
    (memory : MachineMemory) (operands : List Operand) : Type 0 where
  pub type_is : bare_of given ≡ t
  pub number : ℕ
  pub is : operands ≡ Word (pos number) ∷ below
  pub described : Describes memory.types number given
  pub starts : AreStarts given
