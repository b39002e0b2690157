-- A run of a machine that follows a computation tells what the computation comes to.
use Rattle.std.proofs.Common.{◌≡◌, ℕ, zero, suc, ◌+◌, ◌-◌, ◌*◌, ◌≤◌, ◌<◌, ◌⊎◌, inl, inr, IsTrue, Bool, false, refl, sym, ap, ◌∙◌, subst, arith}
use Rattle.ep_outside.specs.Known.{IsPrefix}
use Rattle.ep_values.specs.Events.{Trace}
use Rattle.ep_meaning.specs.Steps.{Outcome, Gives, Ends, Cut, state_of}
use Rattle.ep_meaning.specs.Steps as meaning
use Rattle.ep_simulation.specs.Follows.{Meets, EndsToo, RunsOn, GivesUp, end_of}
use Rattle.ep_object.specs.Laws.{EndsAt, IsRunning}
use Rattle.ep_object.specs.Runs.{run, run_from, tick, and_then, trace_of}
use Rattle.ep_object.specs.State.{State, End, Going, Running, Stopped, Error}
use Rattle.ep_simulation.specs.Tells.{EndsSo, RanOut, StillGoes, GoesOn, Tells, AreClose, TellsAtEnd, spare_ticks}
use Rattle.ep_object.specs.declared.code.Image.{Image}
use Rattle.ep_object.proofs.public.Grows.{prefix_then}
use Rattle.ep_object.proofs.public.Views.{runs_extend, ends_stay, events_grow}

pub cases : (a b : ℕ) → (a ≤ b) ⊎ (b ≤ a)
cases zero b = inl (omega arith)
cases (suc a) zero = inr (omega arith)
cases (suc a) (suc b) = elim (cases a b) [ inl x ↦ inl (omega arith) | inr x ↦ inr (omega arith) ]

not_both_ways : (b : Bool) → IsTrue b → b ≡ false → ⊥
not_both_ways b h i = cc

-- what holds of no state
abbrev pub Never : {A : Type 0} → A → meaning.State → State → Type 0
Never a s k = ⊥

module _ (G : Image) (k : State) where
  -- so many ticks from the state
  abbrev pub after_ticks : ℕ → Going
  after_ticks t = run_from G t (Running 0 k)

  -- a run that has ended has ended at any later tick
  pub ended_later : (t u : ℕ) (end : End) (trace : Trace) → t ≤ u → after_ticks t ≡ Stopped end trace → after_ticks u ≡ Stopped end trace
  ended_later t u end trace le h = ap after_ticks (sum t u le) ∙ ends_stay G t (u - t) (Running 0 k) end trace h
    where
      sum : (t u : ℕ) → t ≤ u → u ≡ t + (u - t)
      sum t u le = omega arith

  -- a run has one end
  stopped_same : (x y : End) (a b : Trace) → ◌≡◌ {A = Going} (Stopped x a) (Stopped y b) → (x ≡ y) × (a ≡ b)
  stopped_same x y a b h = (cc, cc)

  one_end : (t u : ℕ) (x y : End) (a b : Trace) → after_ticks t ≡ Stopped x a → after_ticks u ≡ Stopped y b → (x ≡ y) × (a ≡ b)
  one_end t u x y a b h i = stopped_same x y a b (sym (ended_later t (t + u) x a (omega arith) h) ∙ ended_later u (t + u) y b (omega arith) i)

  -- it does not run where it has ended
  not_both : (wait : ℕ) (s : State) (x : End) (a : Trace) → ◌≡◌ {A = Going} (Running wait s) (Stopped x a) → ⊥
  not_both wait s x a h = cc

  pub running_before : (t u wait : ℕ) (s : State) (x : End) (a : Trace) → after_ticks t ≡ Running wait s → after_ticks u ≡ Stopped x a → u ≤ t → ⊥
  running_before t u wait s x a h i le = not_both wait s x a (sym h ∙ ended_later u t x a le i)

  pub is_running_before : (t u : ℕ) (x : End) (a : Trace) → IsRunning (after_ticks t) → after_ticks u ≡ Stopped x a → u ≤ t → ⊥
  is_running_before t u x a r i le = subst IsRunning {y = Stopped x a} (ended_later u t x a le i) r

  -- the events grow
  events_later : (t u : ℕ) → t ≤ u → IsPrefix (trace_of (after_ticks t)) (trace_of (after_ticks u))
  events_later t u le =
      subst (λ g. IsPrefix (trace_of (after_ticks t)) (trace_of g)) (sym (ap after_ticks (sum t u le) ∙ runs_extend G t (u - t) (Running 0 k))) (events_grow G (u - t) (after_ticks t))
    where
      sum : (t u : ℕ) → t ≤ u → u ≡ t + (u - t)
      sum t u le = omega arith

  pub events_between : (t u : ℕ) (g h : Going) → t ≤ u → after_ticks t ≡ g → after_ticks u ≡ h → IsPrefix (trace_of g) (trace_of h)
  events_between t u g h le i j = subst (λ x. IsPrefix (trace_of x) (trace_of h)) i (subst (λ x. IsPrefix (trace_of (after_ticks t)) (trace_of x)) j (events_later t u le))

  -- the tick at which a run ends
  pub ends_after : (t wait : ℕ) (last : State) (x : End) (a : Trace) → after_ticks t ≡ Running wait last → tick G wait last ≡ Stopped x a → after_ticks (t + 1) ≡ Stopped x a
  ends_after t wait last x a h i = runs_extend G t 1 (Running 0 k) ∙ (ap (run_from G 1) h ∙ ap (λ g. and_then g (run G 0)) i)

module _ {A : Type 0} (Within : State → Type 0) (G : Image) (k : State) (come : ℕ → Outcome A) (e : A → ℕ) (follows : (m : ℕ) → Meets Within G k m Never spare_ticks e (come m) ⊎ GivesUp G k m spare_ticks (state_of (come m))) where
  -- with so many steps the computation is cut, and the machine runs
  record IsCutAt (m : ℕ) : Type 0 where
    state : meaning.State
    is : come m ≡ Cut state
    runs : RunsOn Within G k m spare_ticks state.trace

  -- what is told of a run that has ended by tick t, with the tick at which it ended
  data Told (t : ℕ) (end : End) (trace : Trace) : Type 0 where
    Ended : (u : ℕ) (at : after_ticks G k u ≡ Stopped end trace) (so : EndsSo come t end trace) (spent : ℕ) (all : so.left + spent ≡ so.steps) (slow : spent ≤ 64 * (t + 1)) (fast : u ≤ 64 * (spent + 1)) → Told t end trace
    Gave : (u : ℕ) (at : after_ticks G k u ≡ Stopped end trace) (out : RanOut come t end trace) (fast : u ≤ 64 * (out.steps + 1)) → Told t end trace

  module _ (t : ℕ) (end : End) (trace : Trace) (h : run G t 0 k ≡ Stopped end trace) where
    -- it was running before
    sooner : (u wait : ℕ) (s : State) → run G u 0 k ≡ Running wait s → u < t
    sooner u wait s runs = let late : t ≤ u → ⊥ = λ le. running_before G k u t wait s end trace runs h le in omega (arith, late)

    -- an end that it comes to is this one
    ended_at : (u : ℕ) (x : End) (a : Trace) → after_ticks G k u ≡ Stopped x a → after_ticks G k u ≡ Stopped end trace
    ended_at u x a i =
        let same = one_end G k t u end x trace a h i in
        subst (λ y. after_ticks G k u ≡ Stopped y trace) (sym same.0) (subst (λ b. after_ticks G k u ≡ Stopped x b) (sym same.1) i)

    -- all was done that the computation does with fewer steps than that
    abbrev DoneBefore : ℕ → Type 0
    DoneBefore m = (j : ℕ) → j < m → StillGoes (come j) trace

    -- with so many steps the computation is cut, or the end is told
    told_at : (m : ℕ) → m ≤ 64 * t + spare_ticks → DoneBefore m → (o : Outcome A) → come m ≡ o → Meets Within G k m Never spare_ticks e o ⊎ GivesUp G k m spare_ticks (state_of o) → IsCutAt m ⊎ Told t end trace
    told_at m few before (Gives left a s) is (inl x) = absurd x.post
    told_at m few before (Ends left end2 s) is (inl x) =
        let ended = ends_after G k x.ticks x.wait x.last (end_of end2) s.trace x.runs x.ends in
        let same = one_end G k t (x.ticks + 1) end (end_of end2) trace s.trace h ended in
        let le : x.ticks < t = sooner x.ticks x.wait x.last x.runs in
        let at : after_ticks G k (x.ticks + 1) ≡ Stopped end trace = ended_at (x.ticks + 1) (end_of end2) s.trace ended in
        inr (Ended (x.ticks + 1) at (record { steps = m; few = omega (arith, few); left = left; its_end = end2; state = s; is = is; same_end = same.0; same_trace = same.1 }) x.spent x.all (omega (arith, x.slow, le)) (omega (arith, x.fast)))
    told_at m few before (Cut s) is (inl x) = inl (record { state = s; is = is; runs = x })
    told_at m few before o is (inr x) =
        let same = one_end G k t x.ticks end (Error x.number x.unit x.line) trace x.trace h x.runs in
        let out : RanOut come t end trace =
        record {
          steps = m;
          few = omega (arith, few);
          lost = subst (λ y. IsTrue (state_of y).resources.lost) (sym is) x.lost;
          number = x.number;
          unit = x.unit;
          line = x.line;
          is = same.0;
          is_limit = x.is_limit;
          begins = subst (λ y. IsPrefix trace (state_of y).trace) (sym is) (subst (λ y. IsPrefix y (state_of o).trace) (sym same.1) x.begins);
          before = before;
        } in
        inr (Gave x.ticks (ended_at x.ticks (Error x.number x.unit x.line) x.trace x.runs) out (omega (arith, x.fast)))

    -- where it is cut, all was done that it does
    done_at : (m : ℕ) → IsCutAt m → StillGoes (come m) trace
    done_at m c =
        let x = c.runs in
        record { state = c.state; is = c.is; begins = subst (λ y. IsPrefix y trace) x.same (events_between G k x.ticks t (Running x.wait x.to) (Stopped end trace) (omega (arith, sooner x.ticks x.wait x.to x.runs)) x.runs h) }

    less_or_not : (j m : ℕ) → (j < m) ⊎ (m ≤ j)
    less_or_not j m = grind arith

    done_up_to : (m : ℕ) → DoneBefore m → StillGoes (come m) trace → DoneBefore (suc m)
    done_up_to m before here j le = elim (less_or_not j m) [ inl less ↦ before j less | inr same ↦ subst (λ i. StillGoes (come i) trace) {x = m} {y = j} (omega (arith, le, same)) here ]

    -- with fewer and fewer steps left over, all was done so far or the end is told
    told_before : (m : ℕ) → m ≤ 64 * t + spare_ticks → DoneBefore m ⊎ Told t end trace
    told_before zero few = inl (λ j le. absurd (omega arith))
    told_before (suc m) few =
        elim (told_before m (omega arith)) [
          | inr x ↦ inr x
          | inl before ↦ elim (told_at m (omega arith) before (come m) refl (follows m)) [ inr x ↦ inr x | inl c ↦ inl (done_up_to m before (done_at m c)) ]
        ]

    -- with so many steps the machine would run longer
    too_long : IsCutAt (64 * t + spare_ticks) → ⊥
    too_long c = let x = c.runs in omega (arith, x.slow, sooner x.ticks x.wait x.to x.runs)

    told : Told t end trace
    told =
        elim (told_before (64 * t + spare_ticks) (omega arith)) [
          | inr x ↦ x
          | inl before ↦ elim (told_at (64 * t + spare_ticks) (omega arith) before (come (64 * t + spare_ticks)) refl (follows (64 * t + spare_ticks))) [ inr x ↦ x | inl c ↦ absurd (too_long c) ]
        ]

    -- a run that has ended
    tells_end : EndsSo come t end trace ⊎ RanOut come t end trace
    tells_end = elim told [ Ended u at so spent all slow fast ↦ inl so | Gave u at out fast ↦ inr out ]

  -- a run that has ended after exactly so many ticks
  pub tells_at_end : (t : ℕ) (end : End) (trace : Trace) → EndsAt G (Running 0 k) 0 t end trace → TellsAtEnd come t end trace
  tells_at_end t end trace at = go (told t end trace ended)
    where
      ended : run G t 0 k ≡ Stopped end trace
      ended = subst (λ u. after_ticks G k u ≡ Stopped end trace) {x = suc at.before} {y = t} (omega (arith, at.at)) at.ends

      no_sooner : (u : ℕ) → after_ticks G k u ≡ Stopped end trace → t ≤ u
      no_sooner u stopped = let late : u ≤ at.before → ⊥ = λ le. is_running_before G k at.before u end trace at.runs stopped le in omega (arith, at.at, late)

      go : Told t end trace → TellsAtEnd come t end trace
      go (Ended u stopped so spent all slow fast) = inl (record { so = so; spent = spent; all = all; close = record { slow = slow; fast = omega (arith, fast, no_sooner u stopped) } })
      go (Gave u stopped out fast) = inr (record { out = out; close = record { slow = out.few; fast = omega (arith, fast, no_sooner u stopped) } })

  -- a run that goes on
  tells_more : (t wait : ℕ) (s : State) → run G t 0 k ≡ Running wait s → GoesOn come t s.trace
  tells_more t wait s h = record { steps = 64 * t + spare_ticks; few = omega arith; begins = front (come (64 * t + spare_ticks)) (follows (64 * t + spare_ticks)); all = λ m few. still m few (come m) refl (follows m) }
    where
      later : (u : ℕ) (end : End) (trace : Trace) → run G u 0 k ≡ Stopped end trace → IsPrefix s.trace trace
      later u end trace i = elim (cases t u) [ inl le ↦ events_between G k t u (Running wait s) (Stopped end trace) le h i | inr le ↦ absurd (running_before G k t u wait s end trace h i le) ]

      front : (o : Outcome A) → Meets Within G k (64 * t + spare_ticks) Never spare_ticks e o ⊎ GivesUp G k (64 * t + spare_ticks) spare_ticks (state_of o) → IsPrefix s.trace (state_of o).trace
      front (Gives left a s2) (inl x) = absurd x.post
      front (Ends left end s2) (inl x) = later (x.ticks + 1) (end_of end) s2.trace (ends_after G k x.ticks x.wait x.last (end_of end) s2.trace x.runs x.ends)
      front (Cut s2) (inl x) = subst (λ y. IsPrefix s.trace y) x.same (events_between G k t x.ticks (Running wait s) (Running x.wait x.to) (omega (arith, x.slow)) h x.runs)
      front o (inr x) = prefix_then (later x.ticks (Error x.number x.unit x.line) x.trace x.runs) x.begins

      still : (m : ℕ) → 64 * m + spare_ticks ≤ t → (o : Outcome A) → come m ≡ o → Meets Within G k m Never spare_ticks e o ⊎ GivesUp G k m spare_ticks (state_of o) → StillGoes (come m) s.trace
      still m few (Gives left a s2) is (inl x) = absurd x.post
      still m few (Ends left end s2) is (inl x) =
          absurd (running_before G k t (x.ticks + 1) wait s (end_of end) s2.trace h (ends_after G k x.ticks x.wait x.last (end_of end) s2.trace x.runs x.ends) (omega (arith, x.fast, x.all)))
      still m few (Cut s2) is (inl x) = record { state = s2; is = is; begins = subst (λ y. IsPrefix y s.trace) x.same (events_between G k x.ticks t (Running x.wait x.to) (Running wait s) (omega (arith, x.fast)) x.runs h) }
      still m few o is (inr x) = absurd (running_before G k t x.ticks wait s (Error x.number x.unit x.line) x.trace h x.runs (omega (arith, x.fast)))

  pub tells : (t : ℕ) → Tells come t (run G t 0 k)
  tells t = go (run G t 0 k) refl
    where
      go : (g : Going) → run G t 0 k ≡ g → Tells come t g
      go (Running wait s) h = tells_more t wait s h
      go (Stopped end trace) h = tells_end t end trace h

  -- the ticks after which a run has ended and the steps that the computation has spent by then bound one another
  pub tells_close : (t spent left : ℕ) (its_end : meaning.End) (s : meaning.State) (end : End) (trace : Trace) → EndsAt G (Running 0 k) 0 t end trace → come (left + spent) ≡ Ends left its_end s → s.resources.lost ≡ false → AreClose spent t
  tells_close t spent left its_end s end trace at is kept = go (subst (λ o. Meets Within G k (left + spent) Never spare_ticks e o ⊎ GivesUp G k (left + spent) spare_ticks (state_of o)) is (follows (left + spent)))
    where
      ticks : (x : EndsToo Within G k (left + spent) left spare_ticks its_end s.trace) → t ≡ suc x.ticks
      ticks x =
          let ended = ends_after G k x.ticks x.wait x.last (end_of its_end) s.trace x.runs x.ends in
          let not_later : suc at.before ≤ x.ticks → ⊥ = λ le. running_before G k x.ticks (suc at.before) x.wait x.last end trace x.runs at.ends le in
          let not_sooner : suc x.ticks ≤ at.before → ⊥ = λ le. is_running_before G k at.before (suc x.ticks) (end_of its_end) s.trace at.runs (subst (λ u. after_ticks G k u ≡ Stopped (end_of its_end) s.trace) {y = suc x.ticks} (omega arith) ended) le in
          omega (arith, at.at, not_later, not_sooner)

      go : EndsToo Within G k (left + spent) left spare_ticks its_end s.trace ⊎ GivesUp G k (left + spent) spare_ticks s → AreClose spent t
      go (inl x) = record { slow = omega (arith, ticks x, x.slow, x.all); fast = omega (arith, ticks x, x.fast, x.all) }
      go (inr x) = absurd (not_both_ways s.resources.lost x.lost kept)
