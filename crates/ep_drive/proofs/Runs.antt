-- What a run of an image within a budget tells of the units that the image implements.
use Rattle.std.proofs.Common.{◌≡◌, ℕ, zero, suc, ◌+◌, ◌-◌, ◌*◌, ◌≤◌, List, [], inl, inr, Option, Some, None, refl, sym, ap, ◌∙◌, subst, arith, append-nil}
use Rattle.std.specs.Fn.{iterate}
use Rattle.ep_outside.specs.Known.{IsPrefix}
use Rattle.ep_object.proofs.public.Views.{runs_agree}
use Rattle.ep_simulation.specs.Follows.{end_of}
use Rattle.ep_simulation.specs.Implements.{Implements}
use Rattle.ep_object.specs.Laws.{settled, settled_going}
use Rattle.ep_object.specs.Routines.{routine_of}
use Rattle.ep_object.specs.Runs.{timed, begin, run_to, run_from, advance, trace_of, entering_next, entering, activation, Activation}
use Rattle.ep_object.specs.State.{State, Going, Running, Stopped, End, Error, Broken, first_state}
use Rattle.ep_simulation.specs.Tells.{Tells}
use Rattle.ep_object.specs.declared.code.Image.{Image}
use Rattle.ep_object.specs.declared.code.ImageRoutine.{ImageRoutine}
use Rattle.ep_values.specs.Events.{Trace}
use Rattle.ep_meaning.specs.Meaning.{meaning}
use Rattle.ep_meaning.specs.Steps.{Outcome, Gives, Ends, Cut, state_of}
use Rattle.ep_meaning.specs.Steps as meant
use Rattle.ep_typed.specs.declared.unit.Unit.{Unit as TypedUnit}
use Rattle.ep_drive.specs.GoRuns.{run_within}

-- ---- the two views of a run from its beginning

-- an ended run stays as it is, instruction by instruction
ended_to : (G : Image) (limit n : ℕ) (e : End) (trace : Trace) → iterate (advance G limit) n (timed 0 (Stopped e trace)) ≡ timed 0 (Stopped e trace)
ended_to G limit zero e trace = refl
ended_to G limit (suc n) e trace = ended_to G limit n e trace

-- a run that has not begun to wait
abbrev IsFresh : Going → Type 0
IsFresh (Running zero s) = Unit {0}
IsFresh (Running (suc wait) s) = ⊥
IsFresh (Stopped e trace) = Unit {0}

fresh_entering : (x : Activation) (r : Option ImageRoutine) (s : State) → IsFresh (entering 0 x r s)
fresh_entering x None s = tt
fresh_entering x (Some r) s = tt

fresh_next : (G : Image) (x : Option Activation) (s : State) → IsFresh (entering_next G 0 x s)
fresh_next G None s = tt
fresh_next G (Some x) s = fresh_entering x (routine_of G x.routine) s

-- instruction by instruction and tick by tick a run comes to the same
views_agree : (G : Image) (limit : ℕ) (g : Going) → IsFresh g → settled limit (run_to G limit (timed 0 g)) ≡ run_from G limit g
unfolding run_to
views_agree G limit (Running zero s) h =
    let same : limit - 0 ≡ limit = omega arith in
    runs_agree G limit 0 s (omega arith) ∙ ap (λ n. run_from G n (Running zero s)) same
views_agree G limit (Running (suc wait) s) h = absurd h
views_agree G limit (Stopped e trace) h = ap (settled limit) (ended_to G limit (limit - 0) e trace)

-- whether it waits makes no difference to what a run tells
unsettled : {A : Type 0} (come : ℕ → Outcome A) (limit ticks n : ℕ) (g : Going) → Tells come n (settled_going limit ticks g) → Tells come n g
unsettled come limit ticks n (Running wait s) t = t
unsettled come limit ticks n (Stopped e trace) t = t

-- a run of an image that implements units tells their meaning
pub tells_within : (G : Image) (units : List TypedUnit) → Implements G units → (budget : ℕ) → Tells (meaning units) budget (run_within budget G)
tells_within G units h budget =
    let x = run_to G budget (timed 0 (begin G)) in
    let agree : settled budget x ≡ run_from G budget (begin G) = views_agree G budget (begin G) (fresh_next G (activation G 0) (first_state G)) in
    unsettled (meaning units) budget x.ticks budget x.going (subst (λ g. Tells (meaning units) budget g) (sym agree) (h budget))

-- ---- what it tells

-- no image that implements units is broken
pub not_broken : {A : Type 0} (come : ℕ → Outcome A) (n place : ℕ) (trace : Trace) → Tells come n (Stopped (Broken place) trace) → ⊥
not_broken come n place trace (inl t) = no (t.its_end) t.same_end
  where
    no : (e : meant.End) → Broken place ≡ end_of e → ⊥
    no meant.Normal h = cc
    no meant.Halted h = cc
    no (meant.Error number unit line) h = cc
not_broken come n place trace (inr t) = let h : Broken place ≡ Error t.number t.unit t.line = t.is in cc

-- the events of the run are a front of those of the meaning, within not many more than 64 steps for each tick
pub record IsFront {A : Type 0} (come : ℕ → Outcome A) (ticks : ℕ) (trace : Trace) : Type 0 where
  pub steps : ℕ
  pub few : steps ≤ 64 * (ticks + 1)
  pub begins : IsPrefix trace (state_of (come steps)).trace

pub front_within : {A : Type 0} (come : ℕ → Outcome A) (n : ℕ) (g : Going) → Tells come n g → IsFront come n (trace_of g)
front_within come n (Running wait s) t = record { steps = t.steps; few = t.few; begins = t.begins }
front_within come n (Stopped e trace) (inl t) =
    let same : (state_of (come t.steps)).trace ≡ trace = ap (λ o. (state_of o).trace) t.is ∙ sym t.same_trace in
    record { steps = t.steps; few = t.few; begins = record { rest = []; is = same ∙ sym (append-nil trace) } }
front_within come n (Stopped e trace) (inr t) = record { steps = t.steps; few = t.few; begins = t.begins }
