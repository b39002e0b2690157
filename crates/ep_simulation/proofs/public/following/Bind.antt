-- How the machine follows one computation after another.
use Rattle.std.proofs.Common.{◌≡◌, ℕ, zero, suc, ◌+◌, ◌*◌, ◌-◌, ◌≤◌, ◌<◌, ◌⊎◌, inl, inr, IsTrue, List, refl, sym, ap, ◌∙◌, subst, arith, zero-add, suc-add}
use Rattle.ep_simulation.specs.Follows.{end_of, Pays, StaysWithin, Meets, GivesUp, Follows}
use Rattle.ep_object.specs.Runs.{outcome, tick_of, tick, run, run_from}
use Rattle.ep_object.specs.State.{State, Going, Running, Stopped, Error}
use Rattle.ep_object.specs.declared.code.Image.{Image}
use Rattle.ep_simulation.proofs.public.matching.MoreMemory.{before_or_not}
use Rattle.ep_object.proofs.public.Grows.{prefix_then}
use Rattle.ep_object.proofs.public.Views.{run_more, run_waits, run_acts}
use Rattle.ep_simulation.proofs.following.Weights.{pays_join, pays_weaken, pays_waits}
use Rattle.ep_outside.specs.Known.{IsPrefix}
use Rattle.ep_values.specs.Events.{Trace}
use Rattle.ep_meaning.specs.Steady.{Grows, Steady}
use Rattle.ep_meaning.specs.Steps.{Gives, Ends, Cut, Computation, state_of, give, cut, stop, go_on, bind, spend}
use Rattle.ep_meaning.specs.Steps as meaning
use Rattle.ep_values.specs.declared.run_error.TheConstants as run_error

-- what is met, or room was lost
abbrev pub Met : {A : Type 0} → (State → Type 0) → Image → State → ℕ → (A → meaning.State → State → Type 0) → ℕ
    → (A → ℕ) → meaning.Outcome A → Type 0
Met Within G k m P d e o = Meets Within G k m P d e o ⊎ GivesUp G k m d (state_of o)

-- ---- a run that goes on from where a run has come

-- from a point before an instruction
pub run_then : (G : Image) (t u : ℕ) (k k1 : State) → run G t 0 k ≡ Running 0 k1
    → run G (t + u) 0 k ≡ run G u 0 k1
run_then G t u k k1 h = run_more G t u (Running 0 k) ∙ ap (run_from G u) h

-- an instruction acts at its last tick
pub run_instruction : (G : Image) (k : State) (v : ℕ) (to : Going)
    → outcome G k ≡ record { weight = v; to = to } → run G (suc v) 0 k ≡ to
run_instruction G k v to o =
    let w : (outcome G k).weight ≡ v = ap (λ x. x.weight) o in
    let t : (outcome G k).to ≡ to = ap (λ x. x.to) o in
    ap (λ x. run G (suc x) 0 k) (sym w) ∙ (run_acts G k ∙ t)

-- and it waits at those before
pub run_waiting : (G : Image) (k : State) (v j : ℕ) (to : Going) → outcome G k ≡ record { weight = v; to = to }
    → j ≤ v → run G j 0 k ≡ Running j k
run_waiting G k v j to o le =
    let w : (outcome G k).weight ≡ v = ap (λ x. x.weight) o in
    run_waits G j 0 k (omega arith) ∙ ap (λ x. Running x k) (zero-add j)

-- ---- in which states a run is

-- before fewer ticks
pub stays_less : {Within : State → Type 0} {G : Image} {k : State} {few many : ℕ} → few ≤ many
    → StaysWithin Within G k many → StaysWithin Within G k few
stays_less le h = record { each = λ t wait s less runs. h.each t wait s (omega (arith, le, less)) runs }

-- within more states
pub stays_wider : {Within Wider : State → Type 0} {G : Image} {k : State} {ticks : ℕ}
    → ((s : State) → Within s → Wider s) → StaysWithin Within G k ticks → StaysWithin Wider G k ticks
stays_wider wider h = record { each = λ t wait s less runs. wider s (h.each t wait s less runs) }

-- before no tick
pub stays_none : {Within : State → Type 0} {G : Image} {k : State} → StaysWithin Within G k 0
stays_none = record { each = λ t wait s less runs. absurd (omega arith) }

-- a run that goes on is in one state
pub one_state : {k s : State} {j wait : ℕ} → ◌≡◌ {A = Going} (Running j k) (Running wait s) → k ≡ s
one_state h = cc

-- while an instruction waits for all of its ticks, the run is in the state before it
pub stays_waiting : (Within : State → Type 0) (G : Image) (k : State) (v : ℕ) (to : Going)
    → outcome G k ≡ record { weight = v; to = to } → Within k → StaysWithin Within G k (suc v)
stays_waiting Within G k v to o within =
    record { each = λ t wait s less runs. subst Within (one_state (sym (run_waiting G k v t to o (omega (arith, less))) ∙ runs)) within }

-- before one tick it is in the state from which it begins
pub stays_here : (Within : State → Type 0) (G : Image) (k : State) → Within k → StaysWithin Within G k 1
stays_here Within G k within = record { each = λ t wait s less runs. go t wait s less runs }
  where
    go : (t wait : ℕ) (s : State) → t < 1 → run G t 0 k ≡ Running wait s → Within s
    go zero wait s less runs = subst Within (one_state runs) within
    go (suc t) wait s less runs = absurd (omega arith)

-- up to a point, and from there on
pub stays_join : {Within : State → Type 0} {G : Image} {t u : ℕ} {k k1 : State} → run G t 0 k ≡ Running 0 k1
    → StaysWithin Within G k t → StaysWithin Within G k1 u → StaysWithin Within G k (t + u)
stays_join {Within = Within} {G = G} {t = t} {u = u} {k = k} {k1 = k1} h p q = record { each = λ i wait s less runs. go i wait s less runs (before_or_not t i) }
  where
    go : (i wait : ℕ) (s : State) → i < t + u → run G i 0 k ≡ Running wait s → (t ≤ i) ⊎ (i < t) → Within s
    go i wait s less runs (inl late) =
        let rest : run G (i - t) 0 k1 ≡ Running wait s = sym (run_then G t (i - t) k k1 h) ∙ (ap (λ n. run G n 0 k) {x = t + (i - t)} {y = i} (omega arith) ∙ runs) in
        q.each (i - t) wait s (omega arith) rest
    go i wait s less runs (inr early) = p.each i wait s early runs

-- ---- what is met from a later point

-- what is met from a later point is met from here
meets_from : {A : Type 0} (Within : State → Type 0) (G : Image) (k k1 : State) {m left t d e : ℕ} (f : A → ℕ) (P : A → meaning.State → State → Type 0) (o : meaning.Outcome A)
    → run G t 0 k ≡ Running 0 k1 → StaysWithin Within G k t → Pays m left t d e
    → Meets Within G k1 left P e f o → Meets Within G k m P d f o
meets_from Within G k k1 {t = t} f P (Gives l a s) r w p h = record { ticks = t + h.ticks; to = h.to; runs = run_then G t h.ticks k k1 r ∙ h.runs; within = stays_join r w h.within; pays = pays_join p h.pays; post = h.post }
meets_from Within G k k1 {t = t} f P (Ends l x s) r w p h = record { ticks = t + h.ticks; wait = h.wait; last = h.last; runs = run_then G t h.ticks k k1 r ∙ h.runs; within = stays_less (omega arith) (stays_join {t = t} {u = suc h.ticks} r w h.within); ends = h.ends; spent = p.spent + h.spent; all = omega (arith, p.all, h.all); slow = omega (arith, p.slow, h.slow); fast = omega (arith, p.fast, h.fast) }
meets_from Within G k k1 {t = t} f P (Cut s) r w p h = record { ticks = t + h.ticks; wait = h.wait; to = h.to; runs = run_then G t h.ticks k k1 r ∙ h.runs; within = stays_less (omega arith) (stays_join {t = t} {u = suc h.ticks} r w h.within); same = h.same; slow = omega (arith, p.slow, p.all, h.slow); fast = omega (arith, p.fast, p.all, h.fast) }

-- what gives up later gives up
gives_up_from : (G : Image) (k k1 : State) {m left t d e : ℕ} (s : meaning.State) → run G t 0 k ≡ Running 0 k1
    → Pays m left t d e → GivesUp G k1 left e s → GivesUp G k m d s
gives_up_from G k k1 {t = t} s r p h = record { lost = h.lost; ticks = t + h.ticks; fast = omega (arith, p.fast, p.all, h.fast); number = h.number; is_limit = h.is_limit; unit = h.unit; line = h.line; trace = h.trace; runs = run_then G t h.ticks k k1 r ∙ h.runs; begins = h.begins }

-- and it does so where the state has grown
pub gives_up_grown : {G : Image} {k : State} {m d : ℕ} (s t : meaning.State) → Grows s t → GivesUp G k m d s
    → GivesUp G k m d t
gives_up_grown s t g h = record { lost = g.lost h.lost; ticks = h.ticks; fast = h.fast; number = h.number; is_limit = h.is_limit; unit = h.unit; line = h.line; trace = h.trace; runs = h.runs; begins = prefix_then h.begins g.events }

-- with more credit
pub gives_up_weaken : {G : Image} {k : State} {m d m2 d2 : ℕ} {s : meaning.State} → 64 * m + d ≤ 64 * m2 + d2
    → GivesUp G k m d s → GivesUp G k m2 d2 s
gives_up_weaken more h = record { lost = h.lost; ticks = h.ticks; fast = omega (arith, h.fast, more); number = h.number; is_limit = h.is_limit; unit = h.unit; line = h.line; trace = h.trace; runs = h.runs; begins = h.begins }

-- both together
met_from : {A : Type 0} (Within : State → Type 0) (G : Image) (k k1 : State) {m left t d e : ℕ} (f : A → ℕ) (P : A → meaning.State → State → Type 0) (o : meaning.Outcome A)
    → run G t 0 k ≡ Running 0 k1 → StaysWithin Within G k t → Pays m left t d e → Met Within G k1 left P e f o
    → Met Within G k m P d f o
met_from Within G k k1 f P o r w p (inl h) = inl (meets_from Within G k k1 f P o r w p h)
met_from Within G k k1 f P o r w p (inr h) = inr (gives_up_from G k k1 (state_of o) r p h)

-- ---- one computation after another

-- the machine follows the first and then, from wherever that leads, the second
pub follows_bind : {A B : Type 0} {Within : State → Type 0} {G : Image} {n : ℕ} {k : State} {s : meaning.State} {c : Computation A} {f : A → Computation B} {P : A → meaning.State → State → Type 0} {Q : B → meaning.State → State → Type 0} {d : ℕ} {e : A → ℕ} {g : B → ℕ}
    → ((a : A) → Steady (f a)) → Follows Within G n k s c P d e
    → ((a : A) (s1 : meaning.State) (k1 : State) → P a s1 k1 → Follows Within G n k1 s1 (f a) Q (e a) g)
    → Follows Within G n k s (bind c f) Q d g
follows_bind {A = A} {Within = Within} {G = G} {n = n} {k = k} {s = s} {c = c} {f = f} {P = P} {Q = Q} {d = d} {e = e} {g = g} steady first then = record { by = λ m le. go m le (c m s) (first.by m le) }
  where
    go : (m : ℕ) → m ≤ n → (o : meaning.Outcome A) → Met Within G k m P d e o
        → Met Within G k m Q d g (go_on o f)
    go m le (Gives left a s1) (inl h) =
        let p : Pays m left h.ticks d (e a) = h.pays in
        let z = then a s1 h.to h.post in
        met_from Within G k h.to g Q (f a left s1) h.runs h.within p (z.by left (omega (arith, p.all)))
    go m le (Gives left a s1) (inr h) =
        let z = steady a in inr (gives_up_grown s1 (state_of (f a left s1)) (z.by left s1) h)
    go m le (Ends left x s1) (inl h) = inl h
    go m le (Ends left x s1) (inr h) = inr h
    go m le (Cut s1) (inl h) = inl h
    go m le (Cut s1) (inr h) = inr h

-- with fewer steps
pub follows_less : {A : Type 0} {Within : State → Type 0} {G : Image} {n n2 : ℕ} {k : State} {s : meaning.State} {c : Computation A} {P : A → meaning.State → State → Type 0} {d : ℕ} {e : A → ℕ}
    → n2 ≤ n → Follows Within G n k s c P d e → Follows Within G n2 k s c P d e
follows_less le h = record { by = λ m l. h.by m (omega arith) }

-- with more credit before, less after, and of what follows from where it leads
pub follows_weaken : {A : Type 0} {Within : State → Type 0} {G : Image} {n : ℕ} {k : State} {s : meaning.State} {c : Computation A} {P Q : A → meaning.State → State → Type 0} {d d2 : ℕ} {e e2 : A → ℕ}
    → d ≤ d2 → ((a : A) → d + e2 a ≤ d2 + e a)
    → ((a : A) (s1 : meaning.State) (k1 : State) → P a s1 k1 → Q a s1 k1) → Follows Within G n k s c P d e
    → Follows Within G n k s c Q d2 e2
follows_weaken {A = A} {Within = Within} {G = G} {k = k} {s = s} {c = c} {P = P} {Q = Q} {d = d} {d2 = d2} {e = e} {e2 = e2} more less post h = record { by = λ m l. go m (c m s) (h.by m l) }
  where
    go : (m : ℕ) (o : meaning.Outcome A) → Met Within G k m P d e o → Met Within G k m Q d2 e2 o
    go m o (inr h) = inr (gives_up_weaken (omega (arith, more)) h)
    go m (Gives left a s1) (inl h) = inl (record { ticks = h.ticks; to = h.to; runs = h.runs; within = h.within; pays = pays_weaken (less a) h.pays; post = post a s1 h.to h.post })
    go m (Ends left x s1) (inl h) = inl (record { ticks = h.ticks; wait = h.wait; last = h.last; runs = h.runs; within = h.within; ends = h.ends; spent = h.spent; all = h.all; slow = omega (arith, h.slow); fast = omega (arith, h.fast) })
    go m (Cut s1) (inl h) = inl (record { ticks = h.ticks; wait = h.wait; to = h.to; runs = h.runs; within = h.within; same = h.same; slow = omega (arith, h.slow); fast = omega (arith, h.fast) })

-- within more states
pub follows_wider : {A : Type 0} {Within Wider : State → Type 0} {G : Image} {n : ℕ} {k : State} {s : meaning.State} {c : Computation A} {P : A → meaning.State → State → Type 0} {d : ℕ} {e : A → ℕ}
    → ((k1 : State) → Within k1 → Wider k1) → Follows Within G n k s c P d e → Follows Wider G n k s c P d e
follows_wider {A = A} {Within = Within} {Wider = Wider} {G = G} {k = k} {s = s} {c = c} {P = P} {d = d} {e = e} wider h = record { by = λ m l. go m (c m s) (h.by m l) }
  where
    go : (m : ℕ) (o : meaning.Outcome A) → Met Within G k m P d e o → Met Wider G k m P d e o
    go m o (inr h) = inr h
    go m (Gives left a s1) (inl h) = inl (record { ticks = h.ticks; to = h.to; runs = h.runs; within = stays_wider wider h.within; pays = h.pays; post = h.post })
    go m (Ends left x s1) (inl h) = inl (record { ticks = h.ticks; wait = h.wait; last = h.last; runs = h.runs; within = stays_wider wider h.within; ends = h.ends; spent = h.spent; all = h.all; slow = h.slow; fast = h.fast })
    go m (Cut s1) (inl h) = inl (record { ticks = h.ticks; wait = h.wait; to = h.to; runs = h.runs; within = stays_wider wider h.within; same = h.same; slow = h.slow; fast = h.fast })

-- with more credit before, or less after
pub follows_credit : {A : Type 0} {Within : State → Type 0} {G : Image} {n : ℕ} {k : State} {s : meaning.State} {c : Computation A} {P : A → meaning.State → State → Type 0} {d d2 : ℕ} {e e2 : A → ℕ}
    → d ≤ d2 → ((a : A) → d + e2 a ≤ d2 + e a) → Follows Within G n k s c P d e
    → Follows Within G n k s c P d2 e2
follows_credit more less h = follows_weaken more less (λ a s1 k1 p. p) h

-- of what follows from where it leads
pub follows_post : {A : Type 0} {Within : State → Type 0} {G : Image} {n : ℕ} {k : State} {s : meaning.State} {c : Computation A} {P Q : A → meaning.State → State → Type 0} {d : ℕ} {e : A → ℕ}
    → ((a : A) (s1 : meaning.State) (k1 : State) → P a s1 k1 → Q a s1 k1) → Follows Within G n k s c P d e
    → Follows Within G n k s c Q d e
follows_post post h = follows_weaken (omega arith) (λ a. omega arith) post h

-- from a state that is the same
pub follows_from : {A : Type 0} {Within : State → Type 0} {G : Image} {n : ℕ} {k k1 : State} {s : meaning.State} {c : Computation A} {P : A → meaning.State → State → Type 0} {d : ℕ} {e : A → ℕ}
    → k ≡ k1 → Follows Within G n k1 s c P d e → Follows Within G n k s c P d e
follows_from {Within = Within} {G = G} {n = n} {s = s} {c = c} {P = P} {d = d} {e = e} q h = subst (λ x. Follows Within G n x s c P d e) (sym q) h

-- ---- one instruction

-- an instruction, without a step: its ticks cost their number
pub follows_waits : {A : Type 0} {Within : State → Type 0} {G : Image} {n v : ℕ} {k k1 : State} {s : meaning.State} {c : Computation A} {P : A → meaning.State → State → Type 0} {d : ℕ} {e : A → ℕ}
    → Within k → outcome G k ≡ record { weight = v; to = Running 0 k1 } → Follows Within G n k1 s c P d e
    → Follows Within G n k s c P (suc v + d) e
follows_waits {Within = Within} {G = G} {v = v} {k = k} {k1 = k1} {s = s} {c = c} {P = P} {d = d} {e = e} within o h =
    record { by = λ m l. met_from Within G k k1 e P (c m s) (run_instruction G k v (Running 0 k1) o) (stays_waiting Within G k v (Running 0 k1) o within) (pays_waits m (suc v) d) (h.by m l) }

-- one instruction of one tick
pub follows_step : {A : Type 0} {Within : State → Type 0} {G : Image} {n : ℕ} {k k1 : State} {s : meaning.State} {c : Computation A} {P : A → meaning.State → State → Type 0} {d : ℕ} {e : A → ℕ}
    → Within k → outcome G k ≡ record { weight = 0; to = Running 0 k1 } → Follows Within G n k1 s c P d e
    → Follows Within G n k s c P (1 + d) e
follows_step within o h = follows_waits within o h

-- ---- steps

-- with fewer steps than are spent the computation is cut
spend_few : {A : Type 0} (c : Computation A) (k m : ℕ) (s : meaning.State) → m < k → spend k c m s ≡ Cut s
spend_few c zero m s h = absurd (omega arith)
spend_few c (suc k) zero s h = refl
spend_few c (suc k) (suc m) s h = spend_few c k m s (omega arith)

-- with enough of them it goes on with the rest
spend_all : {A : Type 0} (c : Computation A) (k m : ℕ) (s : meaning.State) → spend k c (k + m) s ≡ c m s
spend_all c zero m s = ap (λ n. c n s) (zero-add m)
spend_all c (suc k) m s = rw suc-add (spend_all c k m s)

-- fewer steps than that, or enough of them
few_or_all : (k m : ℕ) → (m < k) ⊎ ((i : ℕ) × (k + i ≡ m))
few_or_all k m = elim (cases k m) [ inl x ↦ inl x | inr x ↦ inr (m - k, omega arith) ]
  where
    cases : (k m : ℕ) → (m < k) ⊎ (k ≤ m)
    cases k m = grind arith

-- the ticks that pass before a cut, of so many in which an instruction waits
ticks_before : (v m : ℕ) → (j : ℕ) × (j ≤ v) × (j ≤ m) × ((j ≡ m) ⊎ (j ≡ v))
ticks_before v m = elim (cases v m) [ inl x ↦ (m, x, omega arith, inl refl) | inr x ↦ (v, omega arith, x, inr refl) ]
  where
    cases : (v m : ℕ) → (m ≤ v) ⊎ (v ≤ m)
    cases v m = grind arith

-- An instruction with its steps: it waits until its last tick, and what the computation does then, as an event, it
-- does at that one. A run that is cut inside of the steps is one in which the instruction still waits.
pub follows_paid : {A : Type 0} {Within : State → Type 0} {G : Image} {n v w : ℕ} {k k1 : State} {s : meaning.State} {c : Computation A} {P : A → meaning.State → State → Type 0} {d d1 : ℕ} {e : A → ℕ}
    → Within k → k.trace ≡ s.trace → outcome G k ≡ record { weight = v; to = Running 0 k1 } → w ≤ 64 * v + d
    → suc w + d1 ≤ 64 * suc v + d → suc v + d1 ≤ 64 * suc w + d → Follows Within G n k1 s c P d1 e
    → Follows Within G (suc n) k s (spend (suc w) c) P d e
follows_paid {A = A} {Within = Within} {G = G} {n = n} {v = v} {w = w} {k = k} {k1 = k1} {s = s} {c = c} {P = P} {d = d} {d1 = d1} {e = e} within same o inside slow fast h = record { by = λ m l. go m l (few_or_all (suc w) m) }
  where
    go : (m : ℕ) → m ≤ suc n → (m < suc w) ⊎ ((i : ℕ) × (suc w + i ≡ m))
        → Met Within G k m P d e (spend (suc w) c m s)
    go m l (inl x) =
        let y = ticks_before v m in
        subst (Met Within G k m P d e) (sym (spend_few c (suc w) m s x)) (inl (record { ticks = y.0; wait = y.0; to = k; runs = run_waiting G k v y.0 (Running 0 k1) o y.1; within = stays_less (omega (arith, y.1)) (stays_waiting Within G k v (Running 0 k1) o within); same = same; slow = slow_at y.3; fast = omega (arith, y.2) }))
      where
        slow_at : {j : ℕ} → (j ≡ m) ⊎ (j ≡ v) → m ≤ 64 * j + d
        slow_at (inl q) = omega arith
        slow_at (inr q) = omega arith
    go m l (inr x) =
        let i : ℕ = x.0 in
        let q : spend (suc w) c m s ≡ c i s = ap (λ j. spend (suc w) c j s) (sym x.1) ∙ spend_all c (suc w) i s in
        let p : Pays m i (suc v) d d1 = record { spent = suc w; all = omega (arith, x.1); slow = slow; fast = fast } in
        subst (Met Within G k m P d e) (sym q) (met_from Within G k k1 e P (c i s) (run_instruction G k v (Running 0 k1) o) (stays_waiting Within G k v (Running 0 k1) o within) p (h.by i (omega (arith, x.1))))

-- room was lost, and an instruction of this weight ends the run for want of it
pub record EndsForWant (G : Image) (k : State) (weight : ℕ) (s : meaning.State) : Type 0 where
  pub lost : IsTrue s.resources.lost
  pub number : ℕ
  pub is_limit : (number ≡ run_error.STORAGE_LIMIT) ⊎ (number ≡ run_error.CALL_DEPTH)
  pub unit : List ℕ
  pub line : ℕ
  pub trace : Trace
  pub ends : outcome G k ≡ record { weight = weight; to = Stopped (Error number unit line) trace }
  pub begins : IsPrefix trace s.trace

-- where room was lost before steps that as many ticks are for, the machine may end instead of taking them
pub follows_wanting : {A : Type 0} {Within : State → Type 0} {G : Image} {n w : ℕ} {k : State} {s : meaning.State} {c : Computation A} {P : A → meaning.State → State → Type 0} {e : A → ℕ}
    → Within k → k.trace ≡ s.trace → Steady c → EndsForWant G k w s → Follows Within G n k s (spend (suc w) c) P 0 e
follows_wanting {A = A} {Within = Within} {G = G} {n = n} {w = w} {k = k} {s = s} {c = c} {P = P} {e = e} within same steady h = record { by = λ m l. go m (few_or_all (suc w) m) }
  where
    stops : Going
    stops = Stopped (Error h.number h.unit h.line) h.trace

    go : (m : ℕ) → (m < suc w) ⊎ ((i : ℕ) × (suc w + i ≡ m)) → Met Within G k m P 0 e (spend (suc w) c m s)
    go m (inl x) =
        subst (Met Within G k m P 0 e) (sym (spend_few c (suc w) m s x)) (inl (record { ticks = m; wait = m; to = k; runs = run_waiting G k w m stops h.ends (omega (arith, x)); within = stays_less (omega (arith, x)) (stays_waiting Within G k w stops h.ends within); same = same; slow = omega arith; fast = omega arith }))
    go m (inr x) =
        let i : ℕ = x.0 in
        let q : spend (suc w) c m s ≡ c i s = ap (λ j. spend (suc w) c j s) (sym x.1) ∙ spend_all c (suc w) i s in
        let gone : GivesUp G k m 0 s = record { lost = h.lost; ticks = suc w; fast = omega (arith, x.1); number = h.number; is_limit = h.is_limit; unit = h.unit; line = h.line; trace = h.trace; runs = run_instruction G k w stops h.ends; begins = h.begins } in
        subst (Met Within G k m P 0 e) (sym q) (inr (gives_up_grown s (state_of (c i s)) (steady.by i s) gone))

-- steps without an instruction cost their number
pub follows_moves : {A : Type 0} {Within : State → Type 0} {G : Image} {n : ℕ} (w : ℕ) {k : State} {s : meaning.State} {c : Computation A} {P : A → meaning.State → State → Type 0} {d : ℕ} {e : A → ℕ}
    → Within k → k.trace ≡ s.trace → Follows Within G n k s c P d e
    → Follows Within G (w + n) k s (spend w c) P (w + d) e
follows_moves {A = A} {Within = Within} {G = G} {n = n} w {k = k} {s = s} {c = c} {P = P} {d = d} {e = e} within same h = record { by = λ m l. go m l (few_or_all w m) }
  where
    go : (m : ℕ) → m ≤ w + n → (m < w) ⊎ ((i : ℕ) × (w + i ≡ m)) → Met Within G k m P (w + d) e (spend w c m s)
    go m l (inl x) =
        subst (Met Within G k m P (w + d) e) (sym (spend_few c w m s x)) (inl (record { ticks = 0; wait = 0; to = k; runs = refl; within = stays_here Within G k within; same = same; slow = omega arith; fast = omega arith }))
    go m l (inr x) =
        let i : ℕ = x.0 in
        let q : spend w c m s ≡ c i s = ap (λ j. spend w c j s) (sym x.1) ∙ spend_all c w i s in
        let p : Pays m i 0 (w + d) d = record { spent = w; all = omega (arith, x.1); slow = omega arith; fast = omega arith } in
        subst (Met Within G k m P (w + d) e) (sym q) (met_from Within G k k {t = 0} e P (c i s) refl stays_none p (h.by i (omega (arith, x.1))))

-- ---- ends, and nothing at all

-- nothing is left to do
pub follows_give : {A : Type 0} {Within : State → Type 0} {G : Image} {n : ℕ} {k : State} {s : meaning.State} (a : A) {P : A → meaning.State → State → Type 0} {d : ℕ} {e : A → ℕ}
    → e a ≤ d → P a s k → Follows Within G n k s (give a) P d e
follows_give {k = k} a {e = e} le h = record { by = λ m l. inl (record { ticks = 0; to = k; runs = refl; within = stays_none; pays = record { spent = 0; all = omega arith; slow = omega arith; fast = omega arith }; post = h }) }

-- a change of the state, where the machine matches what it leads to already
pub follows_changed : {Within : State → Type 0} {G : Image} {n : ℕ} {k : State} {s : meaning.State} (f : meaning.State → meaning.State) {P : Unit {0} → meaning.State → State → Type 0} {d : ℕ} {e : Unit {0} → ℕ}
    → e tt ≤ d → P tt (f s) k → Follows Within G n k s (meaning.change f) P d e
follows_changed {k = k} f {e = e} le h = record { by = λ m l. inl (record { ticks = 0; to = k; runs = refl; within = stays_none; pays = record { spent = 0; all = omega arith; slow = omega arith; fast = omega arith }; post = h }) }

-- a change of the state that counts, without an instruction, and what is followed then
pub follows_counted : {A : Type 0} {Within : State → Type 0} {G : Image} {n : ℕ} {k : State} {s : meaning.State} {c : Computation A} {P : A → meaning.State → State → Type 0} {d : ℕ} {e : A → ℕ} (count : meaning.State → meaning.State)
    → Follows Within G n k (count s) c P d e
    → Follows Within G n k s (bind (meaning.change count) (λ _. c)) P d e
follows_counted count h = record { by = λ m l. h.by m l }

-- no step is left
pub follows_cut : {A : Type 0} {Within : State → Type 0} {G : Image} {k : State} {s : meaning.State} {P : A → meaning.State → State → Type 0} {d : ℕ} {e : A → ℕ}
    → Within k → k.trace ≡ s.trace → Follows Within G 0 k s cut P d e
follows_cut {Within = Within} {G = G} {k = k} within same = record { by = λ m l. inl (record { ticks = 0; wait = 0; to = k; runs = refl; within = stays_here Within G k within; same = same; slow = omega arith; fast = omega arith }) }

-- the last tick of an instruction that waits
ends_at : (v : ℕ) (k : State) (to : Going) → tick_of v k (record { weight = v; to = to }) ≡ to
ends_at v k to =
    let e : v - v ≡ 0 = omega arith in rw e refl

-- an instruction that has waited acts
tick_at : (G : Image) (k : State) (v : ℕ) (to : Going) → outcome G k ≡ record { weight = v; to = to }
    → tick G v k ≡ to
tick_at G k v to o = ap (tick_of v k) o ∙ ends_at v k to

-- an instruction that ends the run as the computation does
pub follows_stop : {A : Type 0} {Within : State → Type 0} {G : Image} {n v : ℕ} {k : State} {s : meaning.State} {x : meaning.End} {P : A → meaning.State → State → Type 0} {d : ℕ} {e : A → ℕ}
    → Within k → outcome G k ≡ record { weight = v; to = Stopped (end_of x) s.trace } → suc v ≤ d
    → Follows Within G n k s (stop x) P d e
follows_stop {Within = Within} {G = G} {v = v} {k = k} {s = s} {x = x} within o le =
    record { by = λ m l. inl (record { ticks = v; wait = v; last = k; runs = run_waiting G k v v (Stopped (end_of x) s.trace) o (omega arith); within = stays_waiting Within G k v (Stopped (end_of x) s.trace) o within; ends = tick_at G k v (Stopped (end_of x) s.trace) o; spent = 0; all = omega arith; slow = omega arith; fast = omega arith }) }

-- an instruction for which there is no storage left, where room was lost
pub gives_up : {G : Image} {v number : ℕ} {unit : List ℕ} {line : ℕ} {k : State} {s : meaning.State} {trace : Trace}
    → outcome G k ≡ record { weight = v; to = Stopped (Error number unit line) trace }
    → (number ≡ run_error.STORAGE_LIMIT) ⊎ (number ≡ run_error.CALL_DEPTH) → IsPrefix trace s.trace
    → IsTrue s.resources.lost → GivesUp G k 0 (suc v) s
gives_up {G = G} {v = v} {number = number} {unit = unit} {line = line} {k = k} {trace = trace} o limit begins lost =
    record { lost = lost; ticks = suc v; fast = omega arith; number = number; is_limit = limit; unit = unit; line = line; trace = trace; runs = run_instruction G k v (Stopped (Error number unit line) trace) o; begins = begins }

-- where room was lost already, within what is to spare
pub follows_gives_up : {A : Type 0} {Within : State → Type 0} {G : Image} {n cost : ℕ} {k : State} {s : meaning.State} {c : Computation A} {P : A → meaning.State → State → Type 0} {d : ℕ} {e : A → ℕ}
    → Steady c → cost ≤ d → GivesUp G k 0 cost s → Follows Within G n k s c P d e
follows_gives_up {Within = Within} {G = G} {k = k} {s = s} {c = c} steady enough h = record { by = λ m l. inr (gives_up_grown s (state_of (c m s)) (steady.by m s) (gives_up_weaken (omega (arith, enough)) h)) }
