-- The machine follows one start or stop after another.
use Rattle.std.proofs.Common.{◌≡◌, ℕ, ◌+◌, inl, inr, List, [], ◌∷◌, Some, None, sym, ap, ◌∙◌, arith}
use Rattle.ep_meaning.proofs.public.Steady.{steady_bind, steady_stop}
use Rattle.ep_meaning.specs.Steady.{Steady}
use Rattle.ep_meaning.specs.Steps.{Computation, Gives, Ends, Cut, bind, stop}
use Rattle.ep_meaning.specs.Steps as meaning
use Rattle.ep_object.specs.Routines.{routine_of}
use Rattle.ep_object.specs.Runs.{Activation, TurnOutcome, activation, enter, entering, entering_next, outcome}
use Rattle.ep_object.specs.State.{State, Running, Stopped, Normal}
use Rattle.ep_object.specs.declared.code.Image.{Image}
use Rattle.ep_object.specs.declared.code.ImageRoutine.{ImageRoutine}
use Rattle.ep_simulation.proofs.public.Tells.{Never}
use Rattle.ep_simulation.proofs.public.following.Bind.{Met, follows_bind, follows_stop, follows_weaken, one_state, stays_wider}
use Rattle.ep_simulation.proofs.public.following.Simulating.{enters_next, leaves_enters, next_frames, simulation_follows, simulation_passes}
use Rattle.ep_simulation.specs.Follows.{Bare, Follows, SameRoutine}
use Rattle.ep_simulation.specs.Layouts.{Layout}
use Rattle.ep_simulation.specs.Matching.{Injection, MachineMemory, kept_slots}
use Rattle.ep_simulation.specs.Simulates.{Enters, Leaves, Simulates, routine_credit}

-- in whatever state it is
abbrev pub Anywhere : State → Type 0
Anywhere k = Unit {0}

met_anywhere : {A : Type 0} (Within : State → Type 0) {G : Image} {k : State} {m : ℕ} (P : A → meaning.State → State → Type 0) {d : ℕ} (e : A → ℕ) (o : meaning.Outcome A) → Met Within G k m P d e o → Met Anywhere G k m P d e o
met_anywhere Within P e (Gives left a t) (inl x) = inl (record { ticks = x.ticks; to = x.to; runs = x.runs; within = stays_wider (λ s h. tt) x.within; pays = x.pays; post = x.post })
met_anywhere Within P e (Ends left end t) (inl x) = inl (record { ticks = x.ticks; wait = x.wait; last = x.last; runs = x.runs; within = stays_wider (λ s h. tt) x.within; ends = x.ends; spent = x.spent; all = x.all; slow = x.slow; fast = x.fast })
met_anywhere Within P e (Cut t) (inl x) = inl (record { ticks = x.ticks; wait = x.wait; to = x.to; runs = x.runs; within = stays_wider (λ s h. tt) x.within; same = x.same; slow = x.slow; fast = x.fast })
met_anywhere Within P e o (inr x) = inr x

follows_anywhere : {A : Type 0} {Within : State → Type 0} {G : Image} {n : ℕ} {k : State} {s : meaning.State} {c : Computation A} {P : A → meaning.State → State → Type 0} {d : ℕ} {e : A → ℕ} → Follows Within G n k s c P d e → Follows Anywhere G n k s c P d e
follows_anywhere {Within = Within} {s = s} {c = c} {P = P} {e = e} h = record { by = λ m l. met_anywhere Within P e (c m s) (h.by m l) }

-- computations in order, and then the run ends
abbrev pub done : List (Computation (Unit {0})) → Computation (Unit {0})
done [] = stop meaning.Normal
done (c ∷ cs) = bind c (λ _. done cs)

module _ (layout : Layout) (G : Image) (n : ℕ) where
  -- at this turn the machine starts a routine that simulates the computation
  pub record Turn (turn : ℕ) (c : Computation (Unit {0})) : Type 0 where
    pub next : Activation
    pub is : activation G turn ≡ Some next
    pub simulates : Simulates layout G next.unit next.routine n c Bare
    pub steady : Steady c

  -- from this turn on it does so for each of them in order, and behind the last one the run ends
  abbrev pub Turns : ℕ → List (Computation (Unit {0})) → Type 0
  Turns turn [] = activation G turn ≡ None
  Turns turn (c ∷ cs) = Turn turn c × Turns (turn + 1) cs

  steady_done : (cs : List (Computation (Unit {0}))) (turn : ℕ) → Turns turn cs → Steady (done cs)
  steady_done [] turn h = steady_stop meaning.Normal
  steady_done (c ∷ cs) turn h = let first = h.0 in steady_bind first.steady (λ _. steady_done cs (turn + 1) h.1)

  -- the machine has come to the entry of a start or a stop at this turn
  record Begins (turn : ℕ) (x : Activation) (s : meaning.State) (k : State) : Type 0 where
    injection : Injection
    memory : MachineMemory
    enters : Enters layout G x.unit x.routine injection memory [] s k
    at : k.frames.turn ≡ turn

  -- ---- where it is left

  module _ (turn : ℕ) (x : Activation) (injection : Injection) (memory : MachineMemory) (s : meaning.State) (k : State) (enters : Enters layout G x.unit x.routine injection memory [] s k) (at : k.frames.turn ≡ turn) (t : meaning.State) (l : State) (leaves : Leaves layout G injection s memory (Bare [] tt) t l) where
    -- it is the same turn
    turn_left : l.frames.turn ≡ turn
    turn_left =
        let lands = leaves.lands in
        let inside = lands.post in
        let routine : SameRoutine (kept_slots layout G) memory.frames lands.memory.frames = inside.routine in
        ap (λ (q : State). q.frames.turn) lands.is ∙ (routine.turn ∙ (sym (ap (λ (q : State). q.frames.turn) enters.is) ∙ at))

    -- where no start or stop is left the run ends
    ends : activation G (turn + 1) ≡ None → outcome G l ≡ record { weight = 0; to = Stopped Normal t.trace }
    ends none =
        let lands = leaves.lands in
        leaves_enters leaves
        ∙ (ap (λ m. record { weight = 0; to = enter G (m + 1) l }) turn_left
        ∙ (ap (λ o. record { weight = 0; to = entering_next G (turn + 1) o l }) none ∙ ap (λ (q : State). record { weight = 0; to = Stopped Normal q.trace }) lands.is))

    -- and else the next one begins
    begins : (y : Activation) → activation G (turn + 1) ≡ Some y → (r : ImageRoutine) → routine_of G y.routine ≡ Some r
        → (next : State) × (outcome G l ≡ record { weight = 0; to = Running 0 next }) × Begins (turn + 1) y t next
    begins y is r there =
        let is_next : activation G (l.frames.turn + 1) ≡ Some y = ap (λ m. activation G (m + 1)) turn_left ∙ is in
        let e = enters_next enters.without_calls leaves y r is_next there in
        let entered : enter G (l.frames.turn + 1) l ≡ Running 0 (record l { place = r.entry; frames = next_frames (l.frames.turn + 1) y l.frames }) = ap (λ o. entering_next G (l.frames.turn + 1) o l) is_next ∙ ap (λ o. entering (l.frames.turn + 1) y o l) there in
        let same : record l { place = r.entry; frames = next_frames (l.frames.turn + 1) y l.frames } ≡ e.1.1.0 = one_state (sym entered ∙ (sym (ap (λ (o : TurnOutcome). o.to) (leaves_enters leaves)) ∙ ap (λ (o : TurnOutcome). o.to) e.1.1.1)) in
        (e.1.1.0, e.1.1.1, record { injection = e.0; memory = e.1.0; enters = e.1.1.2; at = sym (ap (λ (q : State). q.frames.turn) same) ∙ ap (λ m. m + 1) turn_left })

  -- ---- all of them

  -- The machine follows the one that it has entered, and then those behind it.
  pub follows_turns : (cs : List (Computation (Unit {0}))) (c : Computation (Unit {0})) (turn : ℕ) (x : Activation) → Simulates layout G x.unit x.routine n c Bare → Turns (turn + 1) cs
      → (injection : Injection) (memory : MachineMemory) (s : meaning.State) (k : State) → Enters layout G x.unit x.routine injection memory [] s k → k.frames.turn ≡ turn
      → Follows Anywhere G n k s (bind c (λ _. done cs)) Never (1 + routine_credit) (λ a. 41)
  follows_turns [] c turn x simulates none injection memory s k enters at =
      follows_bind {e = λ a. routine_credit} (λ a. steady_stop meaning.Normal)
      (follows_anywhere (simulation_follows simulates injection memory [] s k enters))
      (λ a t l leaves. follows_stop {v = 0} tt (ends turn x injection memory s k enters at t l leaves none) (omega arith))
  follows_turns (d ∷ cs) c turn x simulates more injection memory s k enters at =
      let first = more.0 in
      let then = first.simulates in
      follows_bind {P = λ a. Begins (turn + 1) first.next} {e = λ a. 64 + routine_credit} (λ a. steady_done (d ∷ cs) (turn + 1) more)
      (simulation_passes simulates injection memory [] s k enters {Wider = Anywhere} {Post = λ a. Begins (turn + 1) first.next} (λ l h. tt) (λ a t l leaves. begins turn x injection memory s k enters at t l leaves first.next first.is then.image_routine then.there))
      (λ a t l b. follows_weaken {e = λ z. 41} (omega arith) (λ z. omega arith) (λ z t2 l2 h. h) (follows_turns cs d (turn + 1) first.next first.simulates more.1 b.injection b.memory t l b.enters b.at))
