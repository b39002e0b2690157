-- What a run of the machine tells of the computation that it follows. The computation is given by what it comes to
-- with so many steps.
use Rattle.std.specs.Prelude.{◌≡◌, ℕ, ◌+◌, ◌*◌, ◌≤◌, ◌<◌, ◌⊎◌, IsTrue, List}
use Rattle.ep_outside.specs.Known.{IsPrefix}
use Rattle.ep_values.specs.Events.{Trace}
use Rattle.ep_meaning.specs.Steps.{Outcome, Gives, Ends, Cut, state_of}
use Rattle.ep_meaning.specs.Steps as meaning
use Rattle.ep_simulation.specs.Follows.{end_of}
use Rattle.ep_object.specs.State.{End, Going, Running, Stopped, Error}
use Rattle.ep_values.specs.declared.run_error.TheConstants as run_error

-- the ticks that a run may spend besides 64 for each step
abbrev pub spare_ticks : ℕ
spare_ticks = 42

-- the computation ends so too, after the same events, with steps that are not many more than 64 for each tick
pub record EndsSo {A : Type 0} (come : ℕ → Outcome A) (ticks : ℕ) (end : End) (trace : Trace) : Type 0 where
  pub steps : ℕ
  pub few : steps ≤ 64 * (ticks + 1)
  pub left : ℕ
  pub its_end : meaning.End
  pub state : meaning.State
  pub is : come steps ≡ Ends left its_end state
  pub same_end : end ≡ end_of its_end
  pub same_trace : trace ≡ state.trace

-- with so few steps the computation has not ended, and the events begin with all of its own
pub record StillGoes {A : Type 0} (o : Outcome A) (trace : Trace) : Type 0 where
  pub state : meaning.State
  pub is : o ≡ Cut state
  pub begins : IsPrefix state.trace trace

-- The computation has more words, types or calls in each other than every run has room for within steps that are not
-- many more than 64 for
-- each tick, and the machine has ended for want of storage or of depth. Its events are a front of those of that many
-- steps, and begin with all that the computation does within fewer.
pub record RanOut {A : Type 0} (come : ℕ → Outcome A) (ticks : ℕ) (end : End) (trace : Trace) : Type 0 where
  pub steps : ℕ
  pub few : steps ≤ 64 * (ticks + 1)
  pub lost : IsTrue (state_of (come steps)).resources.lost
  pub number : ℕ
  pub unit : List ℕ
  pub line : ℕ
  pub is : end ≡ Error number unit line
  pub is_limit : (number ≡ run_error.STORAGE_LIMIT) ⊎ (number ≡ run_error.CALL_DEPTH)
  pub begins : IsPrefix trace (state_of (come steps)).trace
  pub before : (m : ℕ) → m < steps → StillGoes (come m) trace

-- The events of a run that has spent so many ticks are a front of those that the computation does with not many more
-- than 64 steps for each tick. They begin with all that the computation does in one step for 64 ticks, and it has not
-- ended by then, whether room was lost or not. So no run goes on for ever without doing what the computation does.
pub record GoesOn {A : Type 0} (come : ℕ → Outcome A) (ticks : ℕ) (trace : Trace) : Type 0 where
  pub steps : ℕ
  pub few : steps ≤ 64 * (ticks + 1)
  pub begins : IsPrefix trace (state_of (come steps)).trace
  pub all : (m : ℕ) → 64 * m + spare_ticks ≤ ticks → StillGoes (come m) trace

-- what a run tells that has ended, or has spent so many ticks
abbrev pub Tells : {A : Type 0} → (ℕ → Outcome A) → ℕ → Going → Type 0
Tells come ticks (Running wait s) = GoesOn come ticks s.trace
Tells come ticks (Stopped end trace) = EndsSo come ticks end trace ⊎ RanOut come ticks end trace

-- steps and ticks bound one another
pub record AreClose (steps ticks : ℕ) : Type 0 where
  pub slow : steps ≤ 64 * (ticks + 1)
  pub fast : ticks ≤ 64 * (steps + 1)

-- ---- a run that has ended after exactly so many ticks

-- the ticks and the steps that the computation has spent by its end bound one another, whether room was lost or not
pub record EndsSoAt {A : Type 0} (come : ℕ → Outcome A) (ticks : ℕ) (end : End) (trace : Trace) : Type 0 where
  pub so : EndsSo come ticks end trace
  pub spent : ℕ
  pub all : so.left + spent ≡ so.steps
  pub close : AreClose spent ticks

-- where it ended for want of room, they and the steps within which room was lost bound one another
pub record RanOutAt {A : Type 0} (come : ℕ → Outcome A) (ticks : ℕ) (end : End) (trace : Trace) : Type 0 where
  pub out : RanOut come ticks end trace
  pub close : AreClose out.steps ticks

-- what such a run tells
abbrev pub TellsAtEnd : {A : Type 0} → (ℕ → Outcome A) → ℕ → End → Trace → Type 0
TellsAtEnd come ticks end trace = EndsSoAt come ticks end trace ⊎ RanOutAt come ticks end trace
