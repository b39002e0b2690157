-- What it means that a routine of an image simulates a computation, and what runs from the entry of the routine then
-- do, in ticks and steps.
use Rattle.std.specs.Prelude.{◌≡◌, ℕ, suc, ◌+◌, ◌*◌, ◌≤◌, ◌<◌, ◌⊎◌, List, [], Some, slice_get}
use Rattle.ep_outside.specs.Known.{IsPrefix}
use Rattle.ep_values.specs.Events.{Trace}
use Rattle.ep_values.specs.Printing.{Result}
use Rattle.ep_meaning.specs.Steps.{Outcome, Gives, Ends, Cut, Computation, spend, state_of}
use Rattle.ep_meaning.specs.Steps as meaning
use Rattle.ep_meaning.specs.Valid.{ValueKind}
use Rattle.ep_object.specs.Effects.{Returns, light}
use Rattle.ep_simulation.specs.Follows.{end_of, Follows, GivesUp, Since, Lands, Operands, Bare, OnTop, IsNotLeft}
use Rattle.ep_simulation.specs.Follows.{Inside}
use Rattle.ep_object.specs.Laws.{EndsAt}
use Rattle.ep_simulation.specs.Layouts.{Layout}
use Rattle.ep_simulation.specs.Matching.{MachineMemory, at, Injection, Matches, kept_slots}
use Rattle.ep_object.specs.Operands.{Operand}
use Rattle.ep_object.specs.Routines.{routine_of}
use Rattle.ep_object.specs.Runs.{run, trace_of}
use Rattle.ep_object.specs.State.{State, End, Running}
use Rattle.ep_object.specs.Table.{obey}
use Rattle.ep_object.specs.declared.code.Image.{Image}
use Rattle.ep_object.specs.declared.code.ImageRoutine.{ImageRoutine}
use Rattle.ep_object.specs.declared.code.Instr.{Instr}

-- The credit with which the code of a routine begins, and which is there again where the routine is left: so the step
-- of its call and the tick of the instruction that leaves it pay for each other.
abbrev pub routine_credit : ℕ
routine_credit = 41

-- The machine stands at the entry of the routine of this number, in the frame of the unit at this place of the image,
-- with these operands below, and matches the state of the meaning.
pub record Enters (layout : Layout) (G : Image) (unit routine : ℕ) (injection : Injection)
    (memory : MachineMemory) (below : List Operand) (s : meaning.State) (k : State) : Type 0 where
  pub image_routine : ImageRoutine
  pub there : routine_of G routine ≡ Some image_routine
  pub is : k ≡ at image_routine.entry below memory s.trace
  pub runs : memory.frames.routine ≡ routine
  pub in_unit : memory.frames.unit ≡ unit
  pub without_calls : memory.frames.calls ≡ []
  pub matches : Matches layout G injection s memory

-- The machine stands at an instruction that leaves the routine, in the same unit's frame and with these operands, and
-- matches again by a longer injection; hidden segments and hidden slots are what they were, and the calls under way
-- are those from which it began.
pub record Leaves (layout : Layout) (G : Image) (injection : Injection) (begun : meaning.State)
    (memory : MachineMemory) (Then : Operands) (s : meaning.State) (k : State) : Type 0 where
  pub place : ℕ
  pub instruction : Instr
  pub stands : slice_get G.instructions place ≡ Some instruction
  pub returns : obey G instruction k ≡ light Returns
  pub lands : Lands layout G (Since (kept_slots layout G) injection begun memory) place
      (Inside (kept_slots layout G) injection memory Then) s k

-- The routine of this number, of the unit at this place of the image, simulates the computation with up to n steps:
-- the computation spends the step of a call and then goes on as a body, and wherever the machine enters the routine it
-- follows the body within the routine, and where that gives a value it leaves the routine with these results on the
-- operands below.
pub record Simulates {A : Type 0} (layout : Layout) (G : Image) (unit routine n : ℕ) (c : Computation A)
    (Results : List Operand → A → Operands) : Type 0 where
  pub image_routine : ImageRoutine
  pub there : routine_of G routine ≡ Some image_routine
  pub of_unit : image_routine.unit ≡ unit
  pub body : Computation A
  pub called : c ≡ spend 1 body
  pub follows : (m : ℕ) → m < n
      → (injection : Injection) (memory : MachineMemory) (below : List Operand) (s : meaning.State) (k : State)
      → Enters layout G unit routine injection memory below s k
      → Follows (λ l. IsNotLeft memory.frames l.frames) G m k s body
      (λ a. Leaves layout G injection s memory (Results below a)) routine_credit (λ a. routine_credit)

-- ---- what this says of runs from the entry

-- steps and ticks keep pace: each number is at most 64 for each of the other
pub record KeepPace (steps ticks : ℕ) : Type 0 where
  pub slow : steps ≤ 64 * ticks
  pub fast : ticks ≤ 64 * steps

-- after so many ticks from a state the run goes on, the routine is not left, and the events are a front of these
pub record StaysIn (G : Image) (k : State) (ticks : ℕ) (trace : Trace) : Type 0 where
  pub wait : ℕ
  pub to : State
  pub runs : run G ticks 0 k ≡ Running wait to
  pub stays : IsNotLeft k.frames to.frames
  pub begins : IsPrefix to.trace trace

-- A value is given after so many steps: the machine comes to the instruction that leaves the routine, its ticks with
-- the one of that instruction keep pace with the steps, and until then it stays in the routine.
pub record LeavesAfter (layout : Layout) (G : Image) (injection : Injection) (begun : meaning.State)
    (memory : MachineMemory) (Then : Operands) (k : State) (s : meaning.State) (steps : ℕ) : Type 0 where
  pub ticks : ℕ
  pub last : State
  pub runs : run G ticks 0 k ≡ Running 0 last
  pub leaves : Leaves layout G injection begun memory Then s last
  pub pace : KeepPace steps (suc ticks)
  pub until : (t : ℕ) → t ≤ ticks → StaysIn G k t s.trace

-- The run is ended after so many steps: the machine ends so after the same events, at a tick that keeps pace with the
-- steps, and until then it stays in the routine.
pub record EndsAfter (G : Image) (k : State) (end : End) (trace : Trace) (steps : ℕ) : Type 0 where
  pub ticks : ℕ
  pub ends : EndsAt G (Running 0 k) 0 ticks end trace
  pub pace : KeepPace steps ticks
  pub until : (t : ℕ) → t < ticks → StaysIn G k t trace

-- It is not done after so many steps: for a tick in each 64 of them the machine stays in the routine and its events
-- are a front of these, and from 64 ticks for each step on they begin with all of these.
pub record StaysAfter (G : Image) (k : State) (trace : Trace) (steps : ℕ) : Type 0 where
  pub until : (ticks : ℕ) → 64 * ticks ≤ steps → StaysIn G k ticks trace
  pub all : (ticks : ℕ) → 64 * steps ≤ ticks → IsPrefix trace (trace_of (run G ticks 0 k))

-- what a run from the entry does where the computation comes to this with so many steps
abbrev pub Answers : {A : Type 0} → Layout → Image → Injection → meaning.State → MachineMemory → (A → Operands)
    → State → ℕ → Outcome A → Type 0
Answers layout G injection begun memory Then k steps (Gives left a s) = (spent : ℕ) → left + spent ≡ steps
    → LeavesAfter layout G injection begun memory (Then a) k s spent
Answers layout G injection begun memory Then k steps (Ends left end s) = (spent : ℕ) → left + spent ≡ steps
    → EndsAfter G k (end_of end) s.trace spent
Answers layout G injection begun memory Then k steps (Cut s) = StaysAfter G k s.trace steps

-- The same, but where the computation has more words, types or calls in each other than every run has room for within
-- so
-- many steps, the machine may end for want of storage or of depth within 64 ticks for each of them, after a front of
-- the events.
abbrev pub AnswersInRoom : {A : Type 0} → Layout → Image → Injection → meaning.State → MachineMemory
    → (A → Operands) → State → ℕ → Outcome A → Type 0
AnswersInRoom layout G injection begun memory Then k steps o =
    Answers layout G injection begun memory Then k steps o ⊎ GivesUp G k steps 0 (state_of o)

-- Where a routine simulates a computation without a value with up to n steps, every run from its entry answers it with
-- each number of steps up to n.
abbrev pub ProceduresAnswer : Type 0
ProceduresAnswer =
    (layout : Layout) (G : Image) (unit routine n : ℕ) (c : Computation (Unit {0}))
    → Simulates layout G unit routine n c Bare
    → (injection : Injection) (memory : MachineMemory) (below : List Operand) (s : meaning.State) (k : State)
    → Enters layout G unit routine injection memory below s k
    → (steps : ℕ) → steps ≤ n → AnswersInRoom layout G injection s memory (Bare below) k steps (c steps s)

-- the same of a computation that gives a result of a kind
abbrev pub FunctionsAnswer : Type 0
FunctionsAnswer =
    (layout : Layout) (G : Image) (unit routine n : ℕ) (kind : ValueKind) (c : Computation Result)
    → Simulates layout G unit routine n c (OnTop kind)
    → (injection : Injection) (memory : MachineMemory) (below : List Operand) (s : meaning.State) (k : State)
    → Enters layout G unit routine injection memory below s k
    → (steps : ℕ) → steps ≤ n
    → AnswersInRoom layout G injection s memory (OnTop kind below) k steps (c steps s)
