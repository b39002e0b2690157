-- How the machine follows a call, whatever its instruction and the one that leaves a routine do besides.
use Rattle.std.proofs.Common.{◌≡◌, ℕ, suc, ◌+◌, ◌⊎◌, inl, inr, ◌∙◌, arith}
use Rattle.ep_simulation.specs.Follows.{Follows}
use Rattle.ep_object.specs.Runs.{outcome}
use Rattle.ep_object.specs.State.{State, Running}
use Rattle.ep_object.specs.declared.code.Image.{Image}
use Rattle.ep_simulation.proofs.public.following.Bind.{Met, EndsForWant, stays_waiting, stays_join, follows_paid, follows_wanting, run_then, run_instruction}
use Rattle.ep_meaning.specs.Calls.{entered, left_from, given_back, in_call}
use Rattle.ep_meaning.specs.Steady.{Steady}
use Rattle.ep_meaning.specs.Steps.{Call, Outcome, Gives, Ends, Cut, Computation, spend}
use Rattle.ep_meaning.specs.Steps as meaning

-- ---- the instruction that leaves a routine

-- While a call is under way the machine follows what it does; then one instruction leaves the routine, with whatever
-- effect its tick has, and matching is said of what it leads to.
pub follows_in_call : {A : Type 0} {Within : State → Type 0} {G : Image} {n : ℕ} {k : State} {s : meaning.State} (words levels : ℕ) (x : Call) {c : Computation A} {P Q : A → meaning.State → State → Type 0} {d : ℕ} {e : A → ℕ}
    → Follows Within G n k (entered words levels x s) c P d (λ a. 1 + e a)
    → ((a : A) (s1 : meaning.State) (k1 : State) → P a s1 k1 → Within k1 × ((next : State) × (outcome G k1 ≡ record { weight = 0; to = Running 0 next }) × Q a (left_from s s1) next))
    → Follows Within G n k s (in_call words levels x c) Q d e
follows_in_call {A = A} {Within = Within} {G = G} {n = n} {k = k} {s = s} words levels x {c = c} {P = P} {Q = Q} {d = d} {e = e} inner leaves = record { by = λ m l. go m (c m (entered words levels x s)) (inner.by m l) }
  where
    go : (m : ℕ) (o : Outcome A) → Met Within G k m P d (λ a. 1 + e a) o
        → Met Within G k m Q d e (given_back s o)
    go m (Gives left a s1) (inl h) =
        let out = leaves a s1 h.to h.post in
        let next = out.1 in
        let pays = h.pays in
        inl (record {
          ticks = h.ticks + 1;
          to = next.0;
          runs = run_then G h.ticks 1 k h.to h.runs ∙ run_instruction G h.to 0 (Running 0 next.0) next.1;
          within = stays_join {t = h.ticks} {u = 1} h.runs h.within (stays_waiting Within G h.to 0 (Running 0 next.0) next.1 out.0);
          pays = record { spent = pays.spent; all = pays.all; slow = omega (arith, pays.slow); fast = omega (arith, pays.fast) };
          post = next.2;
        })
    go m (Ends left end s1) (inl h) = inl h
    go m (Cut s1) (inl h) = inl h
    go m (Gives left a s1) (inr h) = inr (record { lost = h.lost; ticks = h.ticks; fast = h.fast; number = h.number; is_limit = h.is_limit; unit = h.unit; line = h.line; trace = h.trace; runs = h.runs; begins = h.begins })
    go m (Ends left end s1) (inr h) = inr h
    go m (Cut s1) (inr h) = inr h

-- ---- the instruction that calls

-- What a call does is counted, then it spends its steps, as many as its ticks, and then the routine runs: the machine
-- enters the routine by one instruction, with a credit of 63, or ends for want of room; and the instruction that leaves
-- the routine takes one.
pub follows_called : {A : Type 0} {Within : State → Type 0} {G : Image} {n w : ℕ} {k : State} {s : meaning.State} (words levels : ℕ) (x : Call) {c : Computation A} {P Q : A → meaning.State → State → Type 0} {e : A → ℕ}
    → Within k → k.trace ≡ s.trace → Steady c
    → ((entry : State) × (outcome G k ≡ record { weight = w; to = Running 0 entry }) × Follows Within G n entry (entered words levels x s) c P 63 (λ a. 1 + e a)) ⊎ EndsForWant G k w (entered words levels x s)
    → ((a : A) (s1 : meaning.State) (k1 : State) → P a s1 k1 → Within k1 × ((next : State) × (outcome G k1 ≡ record { weight = 0; to = Running 0 next }) × Q a (left_from s s1) next))
    → Follows Within G (suc n) k s (in_call words levels x (spend (suc w) c)) Q 0 e
follows_called {A = A} {Within = Within} {G = G} {n = n} {w = w} {k = k} {s = s} words levels x {c = c} {P = P} {e = e} within same steady calls leaves = follows_in_call words levels x {e = e} (go calls) leaves
  where
    go : ((entry : State) × (outcome G k ≡ record { weight = w; to = Running 0 entry }) × Follows Within G n entry (entered words levels x s) c P 63 (λ a. 1 + e a)) ⊎ EndsForWant G k w (entered words levels x s)
        → Follows Within G (suc n) k (entered words levels x s) (spend (suc w) c) P 0 (λ a. 1 + e a)
    go (inl y) = follows_paid {v = w} {w = w} {d1 = 63} within same y.1 (omega arith) (omega arith) (omega arith) y.2
    go (inr y) = follows_wanting within same steady y
