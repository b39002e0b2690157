-- What runs from the entry of a routine do that simulates a computation.
use Rattle.std.proofs.Common.{◌≡◌, ℕ, zero, suc, ◌+◌, ◌≤◌, ◌<◌, ◌⊎◌, inl, inr, List, [], Some, slice_get, refl, sym, ap, ◌∙◌, subst, arith}
use Rattle.ep_outside.specs.Known.{IsPrefix}
use Rattle.ep_values.specs.Events.{Trace}
use Rattle.ep_meaning.specs.Steps.{Outcome, Gives, Ends, Cut, Computation, spend, state_of}
use Rattle.ep_meaning.specs.Steps as meaning
use Rattle.ep_object.specs.Effects.{Work}
use Rattle.ep_simulation.specs.Follows.{end_of, Reaches, EndsToo, RunsOn, Follows, Operands, IsNotLeft, Bare}
use Rattle.ep_object.specs.Laws.{IsRunning}
use Rattle.ep_simulation.specs.Layouts.{Layout}
use Rattle.ep_simulation.specs.Matching.{at, MachineMemory, Injection}
use Rattle.ep_object.specs.Operands.{Operand}
use Rattle.ep_object.specs.Routines.{routine_of}
use Rattle.ep_object.specs.Runs.{Activation, activation, entering, entering_next, run, run_from, trace_of, outcome, outcome_of, after, enter}
use Rattle.ep_simulation.specs.Simulates.{routine_credit, Enters, Leaves, Simulates, StaysIn, LeavesAfter, EndsAfter, StaysAfter, AnswersInRoom}
use Rattle.ep_object.specs.State.{State, Frames, Going, Running, Stopped}
use Rattle.ep_object.specs.declared.code.Image.{Image}
use Rattle.ep_object.specs.declared.code.ImageRoutine.{ImageRoutine}
use Rattle.ep_simulation.proofs.public.following.Bind.{one_state, stays_wider, stays_here, stays_join, Met, gives_up_weaken, follows_moves, run_instruction}
use Rattle.ep_simulation.proofs.public.matching.MoreMemory.{before_or_not, no_calls, not_left-here, not_left-same}
use Rattle.ep_object.proofs.public.Grows.{is_prefix, prefix_then, run_grows}
use Rattle.ep_simulation.proofs.public.Tells.{running_before, events_between, ends_after}
use Rattle.ep_object.proofs.public.Views.{runs_extend}

module _ (G : Image) (k : State) where
  -- a run that still goes on stays in the routine at a tick at which all its states are in it
  pub stays_in : (t u wait : ℕ) (last : State) (trace : Trace) → t ≤ u → run G u 0 k ≡ Running wait last
      → ((v : ℕ) (s : State) → run G t 0 k ≡ Running v s → IsNotLeft k.frames s.frames)
      → IsPrefix last.trace trace → StaysIn G k t trace
  stays_in t u wait last trace le runs same begins = go (run G t 0 k) refl
    where
      go : (g : Going) → run G t 0 k ≡ g → StaysIn G k t trace
      go (Stopped x a) h = absurd (running_before G k u t wait last x a runs h le)
      go (Running v s) h =
          record {
            wait = v;
            to = s;
            runs = h;
            stays = same v s h;
            begins = prefix_then (events_between G k t u (Running v s) (Running wait last) le h runs) begins;
          }

module _ {A : Type 0} {layout : Layout} {G : Image} {unit routine n : ℕ} {c : Computation A} {Results : List Operand → A → Operands} (sim : Simulates layout G unit routine n c Results) (injection : Injection) (memory : MachineMemory) (below : List Operand) (s : meaning.State) (k : State) (enters : Enters layout G unit routine injection memory below s k) where
  -- in the routine that is entered
  abbrev In : State → Type 0
  In l = IsNotLeft memory.frames l.frames

  in_frames : k.frames ≡ memory.frames
  in_frames = ap (λ (l : State). l.frames) enters.is

  in_trace : k.trace ≡ s.trace
  in_trace = ap (λ (l : State). l.trace) enters.is

  from_entry : (l : State) → In l → IsNotLeft k.frames l.frames
  from_entry l same = subst (λ f. IsNotLeft f l.frames) (sym in_frames) same

  -- where it is left it is still the routine
  is_left : (a : A) (t : meaning.State) (l : State) → Leaves layout G injection s memory (Results below a) t l
      → In l
  is_left a t l post = let lands = post.lands in subst (λ (l : State). IsNotLeft memory.frames l.frames) (sym lands.is) (not_left-same lands.post.routine)

  at_home : In k
  at_home = subst (λ (f : Frames). IsNotLeft memory.frames f) (sym in_frames) (not_left-here memory.frames)

  -- where the body gives a value the routine is left
  leaves : (m left : ℕ) (a : A) (t : meaning.State)
      → Reaches In G k m left routine_credit routine_credit (Leaves layout G injection s memory (Results below a) t)
      → (spent : ℕ) → left + spent ≡ suc m
      → LeavesAfter layout G injection s memory (Results below a) k t spent
  leaves m left a t x spent is =
      let post = x.post in
      let lands = post.lands in
      let pays = x.pays in
      record {
        ticks = x.ticks;
        last = x.to;
        runs = x.runs;
        leaves = post;
        pace = record { slow = omega (arith, pays.slow, pays.all, is); fast = omega (arith, pays.fast, pays.all, is) };
        until = λ u le. stays_in G k u x.ticks 0 x.to t.trace le x.runs (λ v l runs. from_entry l (still_in u v l le runs (before_or_not x.ticks u))) (subst (λ (l : State). IsPrefix l.trace t.trace) (sym lands.is) (is_prefix t.trace));
      }
    where
      -- at the tick at which it comes to the instruction that leaves the routine, and at those before
      still_in : (u v : ℕ) (l : State) → u ≤ x.ticks → run G u 0 k ≡ Running v l → (x.ticks ≤ u) ⊎ (u < x.ticks)
          → In l
      still_in u v l le runs (inr early) = let stays = x.within in stays.each u v l early runs
      still_in u v l le runs (inl late) =
          let here : run G x.ticks 0 k ≡ Running v l = ap (λ i. run G i 0 k) {x = x.ticks} {y = u} (omega (arith, le, late)) ∙ runs in
          subst In (one_state (sym x.runs ∙ here)) (is_left a t x.to x.post)

  -- where the body ends the run, it ends
  ends : (m left : ℕ) (end : meaning.End) (t : meaning.State) → EndsToo In G k m left routine_credit end t.trace
      → (spent : ℕ) → left + spent ≡ suc m → EndsAfter G k (end_of end) t.trace spent
  ends m left end t x spent is =
      let ended : run G (x.ticks + 1) 0 k ≡ Stopped (end_of end) t.trace = ends_after G k x.ticks x.wait x.last (end_of end) t.trace x.runs x.ends in
      let at_end : run G (suc x.ticks) 0 k ≡ Stopped (end_of end) t.trace = ap (λ u. run G u 0 k) {x = suc x.ticks} {y = x.ticks + 1} (omega arith) ∙ ended in
      record {
        ticks = suc x.ticks;
        ends = record { before = x.ticks; at = omega arith; runs = subst IsRunning {x = Running x.wait x.last} (sym x.runs) tt; ends = at_end };
        pace = record { slow = omega (arith, x.slow, x.all, is); fast = omega (arith, x.fast, x.all, is) };
        until = λ u le. stays_in G k u x.ticks x.wait x.last t.trace (omega arith) x.runs (λ v l runs. from_entry l (let stays = x.within in stays.each u v l le runs)) (events_between G k x.ticks (suc x.ticks) (Running x.wait x.last) (Stopped (end_of end) t.trace) (omega arith) x.runs at_end);
      }

  -- where the body is cut the machine stays in the routine
  stays : (m : ℕ) (t : meaning.State) → RunsOn In G k m routine_credit t.trace → StaysAfter G k t.trace (suc m)
  stays m t x =
      record {
        until = λ ticks few. stays_in G k ticks x.ticks x.wait x.to t.trace (omega (arith, x.slow)) x.runs (λ v l runs. from_entry l (let stays = x.within in stays.each ticks v l (omega (arith, x.slow)) runs)) (subst (λ y. IsPrefix y t.trace) (sym x.same) (is_prefix t.trace));
        all = λ ticks many. subst (λ y. IsPrefix y (trace_of (run G ticks 0 k))) x.same (events_between G k x.ticks ticks (Running x.wait x.to) (run G ticks 0 k) (omega (arith, x.fast)) x.runs refl);
      }

  -- with no step the machine is at the entry
  begins : StaysAfter G k s.trace 0
  begins =
      record {
        until = λ ticks few. stays_in G k ticks 0 0 k s.trace (omega arith) refl (λ v l runs. from_entry l (let stays = stays_here In G k at_home in stays.each ticks v l (omega arith) runs)) (subst (λ y. IsPrefix y s.trace) (sym in_trace) (is_prefix s.trace));
        all = λ ticks many. subst (λ y. IsPrefix y (trace_of (run G ticks 0 k))) in_trace (run_grows G ticks (Running 0 k));
      }

  -- a run from the entry answers the computation with each number of steps
  answers : (steps : ℕ) → steps ≤ n
      → AnswersInRoom layout G injection s memory (Results below) k steps (spend 1 sim.body steps s)
  answers zero le = inl begins
  answers (suc m) le =
      let follows = sim.follows m (omega arith) injection memory below s k enters in go (sim.body m s) (follows.by m (omega arith))
    where
      go : (o : Outcome A)
          → Met In G k m (λ a. Leaves layout G injection s memory (Results below a)) routine_credit (λ a. routine_credit) o
          → AnswersInRoom layout G injection s memory (Results below) k (suc m) o
      go (Gives left a t) (inl x) = inl (leaves m left a t x)
      go (Ends left end t) (inl x) = inl (ends m left end t x)
      go (Cut t) (inl x) = inl (stays m t x)
      go o (inr x) = inr (gives_up_weaken (omega arith) x)

  pub simulation_answers : (steps : ℕ) → steps ≤ n
      → AnswersInRoom layout G injection s memory (Results below) k steps (c steps s)
  simulation_answers steps le = subst (λ (d : Computation A). AnswersInRoom layout G injection s memory (Results below) k steps (d steps s)) (sym sim.called) (answers steps le)

  -- the machine follows the computation, with the step of its call
  body_follows : (m : ℕ) → m ≤ n
      → Met In G k m (λ a. Leaves layout G injection s memory (Results below a)) (1 + routine_credit) (λ a. routine_credit) (spend 1 sim.body m s)
  body_follows zero le = inl (record { ticks = 0; wait = 0; to = k; runs = refl; within = stays_here In G k at_home; same = in_trace; slow = omega arith; fast = omega arith })
  body_follows (suc m) le =
      let whole = follows_moves 1 at_home in_trace (sim.follows m (omega arith) injection memory below s k enters) in whole.by (suc m) (omega arith)

  pub simulation_follows : Follows In G n k s c (λ a. Leaves layout G injection s memory (Results below a)) (1 + routine_credit) (λ a. routine_credit)
  simulation_follows = record { by = λ m le. subst (λ (d : Computation A). Met In G k m (λ a. Leaves layout G injection s memory (Results below a)) (1 + routine_credit) (λ a. routine_credit) (d m s)) (sym sim.called) (body_follows m le) }

  -- the body, and the instruction that leaves the routine for a next one
  passes : {Wider : State → Type 0} {Post : A → meaning.State → State → Type 0} → ((l : State) → In l → Wider l)
      → ((a : A) (t : meaning.State) (l : State) → Leaves layout G injection s memory (Results below a) t l → (next : State) × (outcome G l ≡ record { weight = 0; to = Running 0 next }) × Post a t next)
      → (m : ℕ) → m ≤ n
      → Met Wider G k m Post (1 + routine_credit) (λ a. 64 + routine_credit) (spend 1 sim.body m s)
  passes {Wider = Wider} wider then zero le = inl (record { ticks = 0; wait = 0; to = k; runs = refl; within = stays_here Wider G k (wider k at_home); same = in_trace; slow = omega arith; fast = omega arith })
  passes {Wider = Wider} {Post = Post} wider then (suc m) le =
      let follows = sim.follows m (omega arith) injection memory below s k enters in go (sim.body m s) (follows.by m (omega arith))
    where
      go : (o : Outcome A)
          → Met In G k m (λ a. Leaves layout G injection s memory (Results below a)) routine_credit (λ a. routine_credit) o
          → Met Wider G k (suc m) Post (1 + routine_credit) (λ a. 64 + routine_credit) o
      go (Gives left a t) (inl x) =
          let next = then a t x.to x.post in
          let pays = x.pays in
          inl (record {
            ticks = x.ticks + 1;
            to = next.0;
            within = stays_join {t = x.ticks} {u = 1} x.runs (stays_wider wider x.within) (stays_here Wider G x.to (wider x.to (is_left a t x.to x.post)));
            runs = runs_extend G x.ticks 1 (Running 0 k) ∙ (ap (run_from G 1) x.runs ∙ run_instruction G x.to 0 (Running 0 next.0) next.1);
            pays = record { spent = suc pays.spent; all = omega (arith, pays.all); slow = omega (arith, pays.slow); fast = omega (arith, pays.fast) };
            post = next.2;
          })
      go (Ends left end t) (inl x) = inl (record { ticks = x.ticks; wait = x.wait; last = x.last; runs = x.runs; within = stays_wider wider x.within; ends = x.ends; spent = suc x.spent; all = omega (arith, x.all); slow = omega (arith, x.slow); fast = omega (arith, x.fast) })
      go (Cut t) (inl x) = inl (record { ticks = x.ticks; wait = x.wait; to = x.to; runs = x.runs; within = stays_wider wider x.within; same = x.same; slow = omega (arith, x.slow); fast = omega (arith, x.fast) })
      go o (inr x) = inr (gives_up_weaken (omega arith) x)

  -- the machine follows the computation up to where the routine is left for a next one, and gains credit
  pub simulation_passes : {Wider : State → Type 0} {Post : A → meaning.State → State → Type 0}
      → ((l : State) → In l → Wider l)
      → ((a : A) (t : meaning.State) (l : State) → Leaves layout G injection s memory (Results below a) t l → (next : State) × (outcome G l ≡ record { weight = 0; to = Running 0 next }) × Post a t next)
      → Follows Wider G n k s c Post (1 + routine_credit) (λ a. 64 + routine_credit)
  simulation_passes {Wider = Wider} {Post = Post} wider then = record { by = λ m le. subst (λ (d : Computation A). Met Wider G k m Post (1 + routine_credit) (λ a. 64 + routine_credit) (d m s)) (sym sim.called) (passes wider then m le) }

-- what the instruction that leaves a routine leads to
pub leaves_enters : {layout : Layout} {G : Image} {injection : Injection} {begun : meaning.State} {memory : MachineMemory} {Then : Operands} {s : meaning.State} {k : State}
    → Leaves layout G injection begun memory Then s k
    → outcome G k ≡ record { weight = 0; to = enter G (k.frames.turn + 1) k }
leaves_enters {G = G} {k = k} leaves =
    let lands = leaves.lands in
    let has : slice_get G.instructions k.place ≡ Some leaves.instruction = ap (λ (l : State). slice_get G.instructions l.place) lands.is ∙ leaves.stands in
    ap (λ o. outcome_of G o k) has ∙ ap (λ (w : Work State). record { weight = w.weight; to = after G leaves.instruction k w.effect }) leaves.returns

-- the frames when a start or a stop begins after so many
abbrev pub next_frames : ℕ → Activation → Frames → Frames
next_frames turn x frames = record frames { turn = turn; routine = x.routine; unit = x.unit }

-- The instruction that leaves a start or a stop, which began without calls, leads to the entry of the next one, and the
-- machine matches there: nothing of the match reads which of them runs.
pub enters_next : {layout : Layout} {G : Image} {injection : Injection} {begun : meaning.State} {memory : MachineMemory} {below : List Operand} {s : meaning.State} {k : State}
    → memory.frames.calls ≡ []
    → (leaves : Leaves layout G injection begun memory (Bare below tt) s k) (x : Activation) (r : ImageRoutine)
    → activation G (k.frames.turn + 1) ≡ Some x → routine_of G x.routine ≡ Some r
    → (longer : Injection) × ((after : MachineMemory) × ((next : State) × (outcome G k ≡ record { weight = 0; to = Running 0 next }) × Enters layout G x.unit x.routine longer after below s next))
enters_next {G = G} {memory = memory} {below = below} {s = s} {k = k} alone leaves x r is_next there =
    let lands = leaves.lands in
    let inside = lands.post in
    let frames : Frames = next_frames (k.frames.turn + 1) x k.frames in
    let next : State = record k { place = r.entry; frames = frames } in
    let after : MachineMemory = record lands.memory { frames = next_frames (k.frames.turn + 1) x lands.memory.frames } in
    let enters : enter G (k.frames.turn + 1) k ≡ Running 0 next = ap (λ o. entering_next G (k.frames.turn + 1) o k) is_next ∙ ap (λ o. entering (k.frames.turn + 1) x o k) there in (
      lands.injection,
      (
        after,
        (
          next,
          leaves_enters leaves ∙ ap (λ g. record { weight = 0; to = g }) enters,
          record {
            image_routine = r;
            there = there;
            is = ap (λ (l : State). record l { place = r.entry; frames = next_frames (k.frames.turn + 1) x l.frames }) lands.is ∙ ap (λ o. at r.entry o after s.trace) inside.operands_are;
            runs = refl;
            in_unit = refl;
            without_calls = no_calls memory.frames.calls lands.memory.frames.calls inside.routine.calls alone;
            matches = let m = lands.matches in record { injected = m.injected; store = m.store; types = m.types; units = m.units; outside = m.outside; counts = m.counts; depth = m.depth };
          },
        ),
      ),
    )
