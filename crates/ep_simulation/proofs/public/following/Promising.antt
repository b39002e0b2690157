-- Calls of a routine that keeps its promise: what the caller follows, and what runs from a call do.
use Rattle.std.proofs.Common.{◌≡◌, ℕ, suc, ◌+◌, ◌≤◌, ◌<◌, ◌⊎◌, inl, inr, Bool, List, refl, sym, ap, ◌∙◌, subst, arith}
use Rattle.ep_simulation.specs.Activations.{IsCallable}
use Rattle.ep_simulation.specs.Follows.{end_of, Facts, HasGrown, Since, Lasts, Fragment, After, Lands, Reaches, EndsToo, RunsOn, GivesUp, IsNotLeft, SameRoutine, Inside, Operands, TypeOnTop, point, state_at}
use Rattle.ep_object.specs.Laws.{IsRunning}
use Rattle.ep_simulation.specs.Layouts.{Layout}
use Rattle.ep_simulation.specs.Matching.{MachineMemory, Injection, Slots, AreAmong, Grown, kept_slots}
use Rattle.ep_object.specs.Operands.{Operand}
use Rattle.ep_simulation.specs.Promises.{Passing, AreArguments, ResultsOnTop, Called, CallsAt, Promises, ComesBackAfter, CallComesTo, CallsAnswer, credit_of}
use Rattle.ep_object.specs.Runs.{run, trace_of, unit_in}
use Rattle.ep_simulation.specs.Simulates.{EndsAfter, StaysAfter}
use Rattle.ep_object.specs.State.{State, Frames, Running, Stopped}
use Rattle.ep_object.specs.declared.code.Image.{Image}
use Rattle.ep_simulation.proofs.public.following.Bind.{Met, follows_post, one_state}
use Rattle.ep_simulation.proofs.public.following.Fragments.{fragment_post}
use Rattle.ep_simulation.proofs.public.matching.MoreMemory.{before_or_not, not_left-same, since_here, since_holds}
use Rattle.ep_object.proofs.public.Grows.{is_prefix}
use Rattle.ep_simulation.proofs.public.following.Simulating.{stays_in}
use Rattle.ep_simulation.proofs.public.Tells.{events_between, ends_after}
use Rattle.ep_outside.specs.Known.{IsPrefix}
use Rattle.ep_meaning.specs.Calls.{Argument}
use Rattle.ep_values.specs.Printing.{Result}
use Rattle.ep_meaning.specs.Steps.{Outcome, Gives, Ends, Cut, Computation, state_of}
use Rattle.ep_meaning.specs.Steps as meaning
use Rattle.ep_values.specs.TypeValues.{TypeValue}
use Rattle.ep_meaning.specs.Valid.{ValueKind, Level}
use Rattle.ep_typed.specs.declared.unit.UnitType.{UnitType}

-- ---- what the caller follows

-- What is followed with the fact that memory has grown since is followed with any facts that last.
pub fragment_since : {A : Type 0} {layout : Layout} {G : Image} {untouched : Slots} {Here : Facts} {n : ℕ} {injection : Injection} {memory : MachineMemory} {place to d : ℕ} {operands : List Operand} {c : Computation A} {P : A → After} {e : A → ℕ}
    → Lasts untouched Here
    → ((s : meaning.State) → Here injection s memory → Fragment layout G (Since untouched injection s memory) n (point injection memory place operands) c to P d e)
    → Fragment layout G Here n (point injection memory place operands) c to P d e
fragment_since {layout = layout} {G = G} {Here = Here} {injection = injection} {memory = memory} {to = to} {P = P} lasts since =
    record {
      by = λ s matches held.
          let fragment = since s held in
          follows_post (λ a t k lands. record { injection = lands.injection; memory = lands.memory; operands = lands.operands; is = lands.is; matches = lands.matches; here = since_holds lasts held lands.here; post = lands.post }) (fragment.by s matches (since_here injection s memory));
    }

-- Where fewer slots are named, memory has grown with these untouched.
pub grown_fewer : {untouched fewer : Slots} {injection longer : Injection} {memory after : MachineMemory} → AreAmong fewer untouched
    → Grown untouched injection memory longer after → Grown fewer injection memory longer after
grown_fewer among g =
    record { larger = g.larger; types = g.types; segments = g.segments; hidden = g.hidden; others = g.others; allocated = g.allocated; slots = λ unit k h. g.slots unit k (among.of_units unit k h); typed = g.typed; ended = g.ended }

-- and the same routine runs with these untouched
pub same_routine-fewer : {untouched fewer : Slots} {before after : Frames} → AreAmong fewer untouched
    → SameRoutine untouched before after → SameRoutine fewer before after
same_routine-fewer among r = record { turn = r.turn; routine = r.routine; unit = r.unit; calls = r.calls; slots = λ k h. r.slots k (among.own k h) }

-- Facts that last with fewer slots untouched last with more.
pub lasts_more : {untouched fewer : Slots} {Here : Facts}
    → AreAmong fewer untouched → Lasts fewer Here
    → Lasts untouched Here
lasts_more among lasts = record { by = λ injection longer s t memory after g held. lasts.by injection longer s t memory after (record { grown = grown_fewer among g.grown; routine = same_routine-fewer among g.routine; own = g.own; calls = g.calls }) held }

-- Facts that last with all slots of the call untouched last whichever of them are named, since memory grows without changing any.
pub lasts_own : {untouched : Slots} {Here : Facts} (own : ℕ → Bool) → Lasts untouched Here → Lasts (record untouched { own = own }) Here
lasts_own {untouched = untouched} own lasts = record { by = λ injection longer s t memory after g held. lasts.by injection longer s t memory after (of g) held }
  where
    of : {injection longer : Injection} {s t : meaning.State} {memory after : MachineMemory} → HasGrown (record untouched { own = own }) injection s memory longer t after → HasGrown untouched injection s memory longer t after
    of h =
        let g = h.grown in
        let r = h.routine in
        record {
          grown = record { larger = g.larger; types = g.types; segments = g.segments; hidden = g.hidden; others = g.others; allocated = g.allocated; slots = g.slots; typed = g.typed; ended = g.ended };
          routine = record { turn = r.turn; routine = r.routine; unit = r.unit; calls = r.calls; slots = λ k kept. h.own k };
          own = h.own;
          calls = h.calls;
        }

-- A caller that knows what lasts and names hidden slots alone follows the call, and knows it again behind it.
pub call_follows : {layout : Layout} {G : Image} {untouched : Slots} {Here : Facts} {routine n : ℕ} {types : List UnitType} {around : List Level} {formals : List Passing} {results : List ValueKind} {called : Called}
    → Promises layout G routine n types around formals results called
    → Lasts untouched Here
    → AreAmong untouched (kept_slots layout G)
    → (place levels line : ℕ) → CallsAt G place routine levels line
    → (injection : Injection) (memory : MachineMemory)
    → ((s : meaning.State) → Here injection s memory → IsCallable types levels around injection s.calls memory)
    → (below operands : List Operand) (arguments : List Argument)
    → AreArguments injection memory formals arguments below operands
    → Fragment layout G Here n (point injection memory place operands) (called (unit_in G memory.frames) line levels arguments) (place + 1) (λ rs. Inside untouched injection memory (ResultsOnTop results below rs)) 0 credit_of
call_follows promise lasts among place levels line calls injection memory callable below operands arguments are =
    fragment_post (λ rs longer after pushed i. record { grown = grown_fewer among i.grown; routine = same_routine-fewer among i.routine; operands_are = i.operands_are })
    (fragment_since (lasts_more among lasts) (λ s held. promise.by place levels line calls injection s memory (callable s held) below operands arguments are))

-- The same of the elaboration of a type.
pub type_follows : {layout : Layout} {G : Image} {untouched : Slots} {Here : Facts} {n d : ℕ} {c : Computation TypeValue} {t : TypeValue} {e : TypeValue → ℕ}
    → Lasts untouched Here
    → AreAmong untouched (kept_slots layout G)
    → (place : ℕ) (injection : Injection) (memory : MachineMemory) (below : List Operand)
    → ((s : meaning.State) → Fragment layout G (Since (kept_slots layout G) injection s memory) n (point injection memory place below) c (place + 1) (λ a. Inside (kept_slots layout G) injection memory (TypeOnTop t below a)) d e)
    → Fragment layout G Here n (point injection memory place below) c (place + 1) (λ a. Inside untouched injection memory (TypeOnTop t below a)) d e
type_follows lasts among place injection memory below follows =
    fragment_post (λ a longer after pushed i. record { grown = grown_fewer among i.grown; routine = same_routine-fewer among i.routine; operands_are = i.operands_are })
    (fragment_since (lasts_more among lasts) (λ s held. follows s))

-- ---- what runs from a call do

module _ (layout : Layout) (G : Image) (injection : Injection) (s : meaning.State) (memory : MachineMemory) (place to : ℕ) (operands : List Operand) (Then : List Result → Operands) where
  abbrev from_call : State
  from_call = state_at (point injection memory place operands) s.trace

  abbrev InCaller : State → Type 0
  InCaller l = IsNotLeft memory.frames l.frames

  abbrev Back : List Result → meaning.State → State → Type 0
  Back a = Lands layout G (Since (kept_slots layout G) injection s memory) to (Inside (kept_slots layout G) injection memory (Then a))

  -- where the call gives its results the caller goes on
  comes_back : (m left : ℕ) (a : List Result) (t : meaning.State)
      → Reaches InCaller G from_call m left 0 (credit_of a) (Back a t) → (spent : ℕ) → left + spent ≡ m
      → ComesBackAfter layout G injection s memory (Then a) to from_call t spent
  comes_back m left a t x spent is =
      let lands = x.post in
      let pays = x.pays in
      record {
        ticks = x.ticks;
        last = x.to;
        runs = x.runs;
        lands = lands;
        pace = record { slow = omega (arith, pays.slow, pays.all, is); fast = omega (arith, pays.fast, pays.all, is) };
        until = λ u le. stays_in G from_call u x.ticks 0 x.to t.trace le x.runs (λ v l runs. still_in u v l le runs (before_or_not x.ticks u)) (subst (λ (l : State). IsPrefix l.trace t.trace) (sym lands.is) (is_prefix t.trace));
      }
    where
      still_in : (u v : ℕ) (l : State) → u ≤ x.ticks → run G u 0 from_call ≡ Running v l
          → (x.ticks ≤ u) ⊎ (u < x.ticks) → InCaller l
      still_in u v l le runs (inr early) = let stays = x.within in stays.each u v l early runs
      still_in u v l le runs (inl late) =
          let lands = x.post in
          let here : run G x.ticks 0 from_call ≡ Running v l = ap (λ i. run G i 0 from_call) {x = x.ticks} {y = u} (omega (arith, le, late)) ∙ runs in
          subst InCaller (one_state (sym x.runs ∙ here)) (subst (λ (l : State). IsNotLeft memory.frames l.frames) (sym lands.is) (not_left-same lands.post.routine))

  -- where it ends the run, it ends
  ends_in_call : (m left : ℕ) (end : meaning.End) (t : meaning.State)
      → EndsToo InCaller G from_call m left 0 end t.trace → (spent : ℕ) → left + spent ≡ m
      → EndsAfter G from_call (end_of end) t.trace spent
  ends_in_call m left end t x spent is =
      let ended : run G (x.ticks + 1) 0 from_call ≡ Stopped (end_of end) t.trace = ends_after G from_call x.ticks x.wait x.last (end_of end) t.trace x.runs x.ends in
      let at_end : run G (suc x.ticks) 0 from_call ≡ Stopped (end_of end) t.trace = ap (λ u. run G u 0 from_call) {x = suc x.ticks} {y = x.ticks + 1} (omega arith) ∙ ended in
      record {
        ticks = suc x.ticks;
        ends = record { before = x.ticks; at = omega arith; runs = subst IsRunning {x = Running x.wait x.last} (sym x.runs) tt; ends = at_end };
        pace = record { slow = omega (arith, x.slow, x.all, is); fast = omega (arith, x.fast, x.all, is) };
        until = λ u le. stays_in G from_call u x.ticks x.wait x.last t.trace (omega arith) x.runs (λ v l runs. let stays = x.within in stays.each u v l le runs) (events_between G from_call x.ticks (suc x.ticks) (Running x.wait x.last) (Stopped (end_of end) t.trace) (omega arith) x.runs at_end);
      }

  -- where it is cut the caller is not left
  cut_in_call : (m : ℕ) (t : meaning.State) → RunsOn InCaller G from_call m 0 t.trace
      → StaysAfter G from_call t.trace m
  cut_in_call m t x =
      record {
        until = λ ticks few. stays_in G from_call ticks x.ticks x.wait x.to t.trace (omega (arith, x.slow)) x.runs (λ v l runs. let stays = x.within in stays.each ticks v l (omega (arith, x.slow)) runs) (subst (λ y. IsPrefix y t.trace) (sym x.same) (is_prefix t.trace));
        all = λ ticks many. subst (λ y. IsPrefix y (trace_of (run G ticks 0 from_call))) x.same (events_between G from_call x.ticks ticks (Running x.wait x.to) (run G ticks 0 from_call) (omega (arith, x.fast)) x.runs refl);
      }

  comes_to : (m : ℕ) (o : Outcome (List Result)) → Met InCaller G from_call m Back 0 credit_of o
      → CallComesTo layout G injection s memory Then to from_call m o ⊎ GivesUp G from_call m 0 (state_of o)
  comes_to m (Gives left a t) (inl x) = inl (comes_back m left a t x)
  comes_to m (Ends left end t) (inl x) = inl (ends_in_call m left end t x)
  comes_to m (Cut t) (inl x) = inl (cut_in_call m t x)
  comes_to m o (inr x) = inr x

-- Runs from a call answer what the call does.
pub calls_answer : CallsAnswer
calls_answer layout G routine n types around formals results called promise place levels line calls injection memory below operands arguments are s matches callable steps le =
    let fragment = promise.by place levels line calls injection s memory callable below operands arguments are in
    let follows = fragment.by s matches (since_here injection s memory) in
    comes_to layout G injection s memory place (place + 1) operands (ResultsOnTop results below) steps (called (unit_in G memory.frames) line levels arguments steps s) (follows.by steps le)
