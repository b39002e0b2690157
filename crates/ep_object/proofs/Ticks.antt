-- A run that has ended within a limit ended at exactly the ticks that it tells.
use Rattle.std.proofs.Common.{◌≡◌, ℕ, zero, suc, ◌+◌, ◌-◌, leb, true, false, refl, sym, ap, arith, ◌∙◌, Bool, cond, subst}
use Rattle.std.specs.Fn.{iterate}
use Rattle.ep_object.specs.Laws.{IsRunning, EndsAt, EndsExactly}
use Rattle.ep_object.specs.Runs.{outcome, Timed, timed, advance, run_to, run, run_from}
use Rattle.ep_object.specs.State.{State, Going, Running, Stopped, End}
use Rattle.ep_object.specs.declared.code.Image.{Image}
use Rattle.ep_object.proofs.public.Limits.{still}
use Rattle.ep_object.proofs.public.Views.{IsWhole, outcome_whole, run_more, run_waits, run_acts}
use Rattle.ep_values.specs.Events.{Trace}

-- at the last tick of an instruction
ends_now : (G : Image) (s : State) (ticks t : ℕ) (e : End) (trace : Trace) → (outcome G s).to ≡ Stopped e trace → ticks + suc (outcome G s).weight ≡ t → EndsAt G (Running 0 s) ticks t e trace
ends_now G s ticks t e trace to at =
    let w : ℕ = (outcome G s).weight in
    let before : run G w 0 s ≡ Running (0 + w) s = run_waits G w 0 s (omega arith) in
    record { before = w; at = sym at; runs = subst IsRunning (sym before) tt; ends = run_acts G s ∙ to }

-- later, from where an instruction leads
ends_later : (G : Image) (s s2 : State) (ticks t : ℕ) (e : End) (trace : Trace) → (outcome G s).to ≡ Running 0 s2 → EndsAt G (Running 0 s2) (ticks + suc (outcome G s).weight) t e trace → EndsAt G (Running 0 s) ticks t e trace
ends_later G s s2 ticks t e trace to h =
    let w : ℕ = (outcome G s).weight in
    let goes : run_from G (suc w) (Running 0 s) ≡ Running 0 s2 = run_acts G s ∙ to in
    let more : (k : ℕ) → run_from G (suc w + k) (Running 0 s) ≡ run_from G k (Running 0 s2) = λ k. run_more G (suc w) k (Running 0 s) ∙ ap (run_from G k) goes in
    let last : suc (suc w + h.before) ≡ suc w + suc h.before = omega arith in
    let at : t ≡ ticks + suc (suc w + h.before) = omega (arith, h.at) in
    record {
      before = suc w + h.before;
      at = at;
      runs = subst IsRunning (sym (more h.before)) h.runs;
      ends = ap (λ k. run_from G k (Running 0 s)) last ∙ (more (suc h.before) ∙ h.ends);
    }

ends_to : (G : Image) (limit n : ℕ) (s : State) (ticks t : ℕ) (e : End) (trace : Trace) (g : Going) → (outcome G s).to ≡ g → IsWhole g → ((ticks2 : ℕ) (s2 : State) → iterate (advance G limit) n (timed ticks2 (Running 0 s2)) ≡ timed t (Stopped e trace) → EndsAt G (Running 0 s2) ticks2 t e trace) → iterate (advance G limit) n (timed (ticks + suc (outcome G s).weight) g) ≡ timed t (Stopped e trace) → EndsAt G (Running 0 s) ticks t e trace
ends_to G limit n s ticks t e trace (Stopped e2 trace2) to whole ih h =
    let x : Timed = timed (ticks + suc (outcome G s).weight) (Stopped e2 trace2) in
    let same : x ≡ timed t (Stopped e trace) = sym (still G limit n x refl) ∙ h in
    ends_now G s ticks t e trace (to ∙ ap (λ y. y.going) same) (ap (λ y. y.ticks) same)
ends_to G limit n s ticks t e trace (Running wait s2) to whole ih h =
    let P : ℕ → Type 0 = λ k. iterate (advance G limit) n (timed (ticks + suc (outcome G s).weight) (Running k s2)) ≡ timed t (Stopped e trace) in
    ends_later G s s2 ticks t e trace (to ∙ ap (λ k. Running k s2) whole) (ih (ticks + suc (outcome G s).weight) s2 (subst P whole h))

ends_if : (G : Image) (limit n : ℕ) (s : State) (ticks t : ℕ) (e : End) (trace : Trace) (b : Bool) → leb (ticks + suc (outcome G s).weight) limit ≡ b → ((ticks2 : ℕ) (s2 : State) → iterate (advance G limit) n (timed ticks2 (Running 0 s2)) ≡ timed t (Stopped e trace) → EndsAt G (Running 0 s2) ticks2 t e trace) → iterate (advance G limit) n (cond b (timed (ticks + suc (outcome G s).weight) (outcome G s).to) (timed ticks (Running 0 s))) ≡ timed t (Stopped e trace) → EndsAt G (Running 0 s) ticks t e trace
ends_if G limit n s ticks t e trace true fits ih h = ends_to G limit n s ticks t e trace (outcome G s).to refl (outcome_whole G s) ih h
ends_if G limit n s ticks t e trace false fits ih h =
    let x : Timed = timed ticks (Running 0 s) in
    let stays : advance G limit x ≡ x = rw fits refl in
    let same : x ≡ timed t (Stopped e trace) = sym (still G limit n x stays) ∙ h in
    let going : Running 0 s ≡ Stopped e trace = ap (λ y. y.going) same in cc

ends : (G : Image) (limit n ticks : ℕ) (s : State) (t : ℕ) (e : End) (trace : Trace) → iterate (advance G limit) n (timed ticks (Running 0 s)) ≡ timed t (Stopped e trace) → EndsAt G (Running 0 s) ticks t e trace
ends G limit zero ticks s t e trace h =
    let going : Running 0 s ≡ Stopped e trace = ap (λ y. y.going) h in cc
ends G limit (suc n) ticks s t e trace h =
    ends_if G limit n s ticks t e trace (leb (ticks + suc (outcome G s).weight) limit) refl (λ ticks2 s2 k. ends G limit n ticks2 s2 t e trace k) h

pub ends_exactly : EndsExactly
unfolding run_to
ends_exactly G limit ticks s t e trace h = ends G limit (limit - ticks) ticks s t e trace h
