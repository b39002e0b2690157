-- The laws of runs.
use Rattle.std.specs.Prelude.{◌≡◌, ℕ, suc, ◌+◌, ◌-◌, ◌≤◌}
use Rattle.ep_object.specs.Runs.{Timed, timed, run_to, run, run_from, trace_of}
use Rattle.ep_object.specs.State.{State, Going, Running, Stopped, End}
use Rattle.ep_object.specs.declared.code.Image.{Image}
use Rattle.ep_outside.specs.Known.{IsPrefix}
use Rattle.ep_values.specs.Events.{Trace}

-- a run that has come to rest within a limit waits for the rest of the ticks
abbrev pub settled_going : ℕ → ℕ → Going → Going
settled_going limit ticks (Running wait s) = Running (limit - ticks) s
settled_going limit ticks (Stopped e trace) = Stopped e trace

abbrev pub settled : ℕ → Timed → Going
settled limit x = settled_going limit x.ticks x.going

-- instruction by instruction and tick by tick a run comes to the same
abbrev pub RunsAgree : Type 0
RunsAgree =
    (G : Image) (limit ticks : ℕ) (s : State) → ticks ≤ limit
    → settled limit (run_to G limit (timed ticks (Running 0 s))) ≡ run G (limit - ticks) 0 s

-- a longer run goes on from a shorter one
abbrev pub RunsExtend : Type 0
RunsExtend = (G : Image) (t k : ℕ) (g : Going) → run_from G (t + k) g ≡ run_from G k (run_from G t g)

-- a run that has ended stays as it is
abbrev pub EndsStay : Type 0
EndsStay =
    (G : Image) (t k : ℕ) (g : Going) (e : End) (trace : Trace) → run_from G t g ≡ Stopped e trace
    → run_from G (t + k) g ≡ Stopped e trace

-- the events of a longer run begin with those of a shorter one
abbrev pub EventsGrow : Type 0
EventsGrow = (G : Image) (t : ℕ) (g : Going) → IsPrefix (trace_of g) (trace_of (run_from G t g))

abbrev pub IsRunning : Going → Type 0
IsRunning (Running wait s) = Unit {0}
IsRunning (Stopped e trace) = ⊥

-- from ticks `from` on, the run goes on until just before tick `t`, and has ended at it
pub record EndsAt (G : Image) (g : Going) (from t : ℕ) (e : End) (trace : Trace) : Type 0 where
  pub before : ℕ
  pub at : t ≡ from + suc before
  pub runs : IsRunning (run_from G before g)
  pub ends : run_from G (suc before) g ≡ Stopped e trace

-- a run that has ended within a limit ended at exactly the ticks that it tells
abbrev pub EndsExactly : Type 0
EndsExactly =
    (G : Image) (limit ticks : ℕ) (s : State) (t : ℕ) (e : End) (trace : Trace)
    → run_to G limit (timed ticks (Running 0 s)) ≡ timed t (Stopped e trace) → EndsAt G (Running 0 s) ticks t e trace
