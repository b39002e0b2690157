-- The two views of a run come to the same.
use Rattle.std.proofs.Common.{◌≡◌, ℕ, zero, suc, ◌<◌, ◌≤◌, ◌+◌, ◌-◌, leb, true, false, refl, sym, ap, arith, rules, ◌∙◌, Option, Some, None, slice_get, Bool, cond, zero-add}
use Rattle.std.specs.Fn.{iterate}
use Rattle.ep_object.specs.Effects.{Effect, Continues, Jumps, Returns, Fails, Halts, Breaks}
use Rattle.ep_object.specs.Laws.{settled, RunsAgree, EndsStay, EventsGrow, RunsExtend}
use Rattle.ep_object.specs.Routines.{routine_of}
use Rattle.ep_object.specs.Runs.{Activation, activation, entering, entering_next, enter, after, TurnOutcome, outcome, outcome_of, Timed, timed, advance, run_to, tick, and_then, run, run_from}
use Rattle.ep_object.specs.State.{State, Going, Running, Stopped, End}
use Rattle.ep_object.specs.Table.{obey}
use Rattle.ep_object.specs.declared.code.Image.{Image}
use Rattle.ep_object.specs.declared.code.ImageRoutine.{ImageRoutine}
use Rattle.ep_object.specs.declared.code.Instr.{Instr}
use Rattle.ep_object.proofs.public.Grows.{run_grows}
use Rattle.ep_object.proofs.public.Limits.{still}
use Rattle.ep_values.specs.Events.{Trace}

-- a longer run goes on from a shorter one
pub run_more : (G : Image) (t k : ℕ) (g : Going) → run_from G (t + k) g ≡ run_from G k (run_from G t g)
run_more G t k (Stopped e trace) = refl
run_more G zero k (Running wait s) = rw (zero-add k) refl
run_more G (suc t) k (Running wait s) =
    let e : suc t + k ≡ suc (t + k) = omega arith in rw e (run_more G t k (tick G wait s))

-- an instruction waits
pub run_waits : (G : Image) (j wait : ℕ) (s : State) → wait + j ≤ (outcome G s).weight → run G j wait s ≡ Running (wait + j) s
run_waits G zero wait s h =
    let e : wait ≡ wait + 0 = omega arith in ap (λ n. Running n s) e
run_waits G (suc j) wait s h =
    let o : TurnOutcome = outcome G s in
    let le : wait + suc j ≤ o.weight = h in
    let left : o.weight - wait ≡ suc (o.weight - suc wait) = omega arith in
    let e : suc wait + j ≡ wait + suc j = omega arith in
    rw left (run_waits G j (suc wait) s (omega arith) ∙ ap (λ n. Running n s) e)

-- and acts at its last tick
pub run_acts : (G : Image) (s : State) → run G (suc (outcome G s).weight) 0 s ≡ (outcome G s).to
run_acts G s =
    let o : TurnOutcome = outcome G s in
    let e : suc o.weight ≡ o.weight + 1 = omega arith in
    let w : run G o.weight 0 s ≡ Running (0 + o.weight) s = run_waits G o.weight 0 s (omega arith) in
    let z : 0 + o.weight ≡ o.weight = omega arith in
    let last : o.weight - o.weight ≡ 0 = omega arith in
    let acts : run_from G 1 (Running o.weight s) ≡ o.to = rw last (run_zero G o.to) in
    ap (λ n. run G n 0 s) e ∙ (run_more G o.weight 1 (Running 0 s) ∙ (ap (run_from G 1) w ∙ (ap (λ n. run_from G 1 (Running n s)) z ∙ acts)))
  where
    run_zero : (G : Image) (g : Going) → and_then g (run G 0) ≡ g
    run_zero G (Running wait s) = refl
    run_zero G (Stopped e trace) = refl

-- a run stands before an instruction, or has ended
abbrev pub IsWhole : Going → Type 0
IsWhole (Running wait s) = wait ≡ 0
IsWhole (Stopped e trace) = Unit {0}

entering_whole : (turn : ℕ) (x : Activation) (r : Option ImageRoutine) (s : State) → IsWhole (entering turn x r s)
entering_whole turn x None s = tt
entering_whole turn x (Some r) s = refl

entering_next_whole : (G : Image) (turn : ℕ) (x : Option Activation) (s : State) → IsWhole (entering_next G turn x s)
entering_next_whole G turn None s = tt
entering_next_whole G turn (Some x) s = entering_whole turn x (routine_of G x.routine) s

-- a start or stop begins before an instruction
pub enter_whole : (G : Image) (turn : ℕ) (s : State) → IsWhole (enter G turn s)
enter_whole G turn s = entering_next_whole G turn (activation G turn) s

after_whole : (G : Image) (i : Instr) (s : State) (e : Effect State) → IsWhole (after G i s e)
after_whole G i s (Continues t) = refl
after_whole G i s (Jumps target t) = refl
after_whole G i s Returns = enter_whole G (s.frames.turn + 1) s
after_whole G i s (Fails n) = tt
after_whole G i s Halts = tt
after_whole G i s Breaks = tt

outcome_of_whole : (G : Image) (o : Option Instr) (s : State) → IsWhole (outcome_of G o s).to
outcome_of_whole G None s = tt
outcome_of_whole G (Some i) s = after_whole G i s (obey G i s).effect

-- and so does an instruction lead there
pub outcome_whole : (G : Image) (s : State) → IsWhole (outcome G s).to
outcome_whole G s = outcome_of_whole G (slice_get G.instructions s.place) s

stopped_still : (G : Image) (limit k ticks : ℕ) (e : End) (trace : Trace) → iterate (advance G limit) k (timed ticks (Stopped e trace)) ≡ timed ticks (Stopped e trace)
stopped_still G limit k ticks e trace = still G limit k (timed ticks (Stopped e trace)) refl

-- what agrees from where an instruction leads agrees from before it
agree_if : (G : Image) (limit n ticks : ℕ) (s : State) (b : Bool) → leb (ticks + suc (outcome G s).weight) limit ≡ b → ((t : ℕ) (g : Going) → IsWhole g → t ≤ limit → limit - t ≤ n → settled limit (iterate (advance G limit) n (timed t g)) ≡ run_from G (limit - t) g) → ticks ≤ limit → limit - ticks ≤ suc n → settled limit (iterate (advance G limit) n (cond b (timed (ticks + suc (outcome G s).weight) (outcome G s).to) (timed ticks (Running 0 s)))) ≡ run G (limit - ticks) 0 s
agree_if G limit n ticks s true h ih le fuel =
    let o : TurnOutcome = outcome G s in
    let fits : ticks + suc o.weight ≤ limit = search rules in
    let rest : ℕ = limit - (ticks + suc o.weight) in
    let e : limit - ticks ≡ suc o.weight + rest = omega arith in
    let after : settled limit (iterate (advance G limit) n (timed (ticks + suc o.weight) o.to)) ≡ run_from G rest o.to = ih (ticks + suc o.weight) o.to (outcome_whole G s) fits (omega arith) in
    after ∙ sym (ap (λ k. run G k 0 s) e ∙ (run_more G (suc o.weight) rest (Running 0 s) ∙ ap (run_from G rest) (run_acts G s)))
agree_if G limit n ticks s false h ih le fuel =
    let o : TurnOutcome = outcome G s in
    let over : limit < ticks + suc o.weight = search rules in
    let x : Timed = timed ticks (Running 0 s) in
    let stays : advance G limit x ≡ x = rw h refl in
    let at : iterate (advance G limit) n x ≡ x = still G limit n x stays in
    let e : 0 + (limit - ticks) ≡ limit - ticks = omega arith in
    ap (settled limit) at ∙ sym (run_waits G (limit - ticks) 0 s (omega arith) ∙ ap (λ k. Running k s) e)

-- from a point before an instruction, or after the end, so many instructions are enough
agree : (G : Image) (limit n ticks : ℕ) (g : Going) → IsWhole g → ticks ≤ limit → limit - ticks ≤ n → settled limit (iterate (advance G limit) n (timed ticks g)) ≡ run_from G (limit - ticks) g
agree G limit n ticks (Stopped e trace) whole le fuel = rw (stopped_still G limit n ticks e trace) refl
agree G limit zero ticks (Running wait s) whole le fuel =
    let e : limit - ticks ≡ 0 = omega arith in rw (e, whole) refl
agree G limit (suc n) ticks (Running wait s) whole le fuel =
    rw whole (agree_if G limit n ticks s (leb (ticks + suc (outcome G s).weight) limit) refl (agree G limit n) le fuel)

pub runs_agree_from : (G : Image) (limit ticks : ℕ) (g : Going) → IsWhole g → ticks ≤ limit → settled limit (run_to G limit (timed ticks g)) ≡ run_from G (limit - ticks) g
unfolding run_to
runs_agree_from G limit ticks g whole le = agree G limit (limit - ticks) ticks g whole le (omega arith)

pub runs_agree : RunsAgree
runs_agree G limit ticks s le = runs_agree_from G limit ticks (Running 0 s) refl le

pub runs_extend : RunsExtend
runs_extend = run_more

pub ends_stay : EndsStay
ends_stay G t k g e trace h = run_more G t k g ∙ ap (run_from G k) h

pub events_grow : EventsGrow
events_grow = run_grows
