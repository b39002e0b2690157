-- Fragments of code that may end by an error, or go one of two ways.
use Rattle.std.proofs.Common.{◌≡◌, ℕ, ℤ, zero, suc, ◌+◌, ◌-◌, ◌*◌, ◌≤◌, Bool, true, false, List, ◌∷◌, Option, Some, None, refl, sym, subst, arith}
use Rattle.std.specs.Prelude.{if◌then◌else◌}
use Rattle.ep_simulation.specs.Follows.{Point, state_at, Follows, point, Facts, After, Lands, Fragment, Bare, OnTop, IsNotLeft, SameRoutine, Inside}
use Rattle.ep_simulation.specs.Layouts.{Layout}
use Rattle.ep_simulation.specs.Matching.{MachineMemory, at, Injection, Matches, Slots, Grown}
use Rattle.ep_object.specs.Operands.{Operand, Word}
use Rattle.ep_object.specs.Runs.{outcome}
use Rattle.ep_object.specs.State.{State, Going, Running, Stopped, Error}
use Rattle.ep_object.specs.declared.code.Image.{Image}
use Rattle.ep_simulation.proofs.public.following.Bind.{Met, follows_credit, follows_waits, follows_paid, follows_stop, follows_give, follows_changed}
use Rattle.ep_simulation.proofs.public.following.Fragments.{Does, FailsWith, landed, fragment_bind_number, fragment_bind_bare, fragment_credit, fragment_less, fragment_waits, fragment_one, fragment_move, fragment_give, fragment_cut, fragment_stop}
use Rattle.ep_simulation.proofs.public.matching.MoreMemory.{grown_trans, not_left-here, same_routine-trans, inside_here}
use Rattle.ep_meaning.proofs.public.Steady.{steady_if, steady_bind, steady_spend, steady_give, steady_turns, steady_turns_until}
use Rattle.ep_meaning.specs.Calls.{Handler}
use Rattle.ep_values.specs.Events.{Trace}
use Rattle.ep_meaning.specs.Meaning.{answered, turns, turns_until}
use Rattle.ep_values.specs.Operations.{Answer, Number, Fault, is_true}
use Rattle.ep_values.specs.Printing.{Result, number_of}
use Rattle.ep_meaning.specs.Results.{weight_of}
use Rattle.ep_meaning.specs.Steady.{Steady}
use Rattle.ep_meaning.specs.Steps.{Computation, give, stop, go_on, bind, spend, change, found, fetch, using, has_ended}
use Rattle.ep_meaning.specs.Steps as meaning
use Rattle.ep_meaning.specs.Valid as kind
use Rattle.ep_typed.specs.Hosts as host

-- ---- a read that may find nothing

-- the machine finds what the computation reads, or both end with the error
pub data Reads {A : Type 0} (layout : Layout) (G : Image) (Here : Facts) (k : State) (number : ℕ) (unit : List ℕ) (line : ℕ) (to : ℕ) (Post : A → After) (s : meaning.State) (o : Option A) : Type 0 where
  Misses : (is : o ≡ None) (fails : FailsWith G k 0 number unit line s)
      → Reads layout G Here k number unit line to Post s o
  Finds : (a : A) (is : o ≡ Some a) (does : Does layout G Here k 0 to (Post a) s)
      → Reads layout G Here k number unit line to Post s o

module _ {A B : Type 0} {layout : Layout} {G : Image} {Here : Facts} {n : ℕ} {to : ℕ} {P : B → After} {d : ℕ} {e : B → ℕ} {number line : ℕ} {unit : List ℕ} (from : Point) (h : meaning.State → Option A) (f : A → B) where
  -- one instruction, with the step of the form, from one state
  pub follows_fetch : (s : meaning.State)
      → Reads layout G Here (state_at from s.trace) number unit line to (λ a. P (f a)) s (h s)
      → 1 ≤ d → ((a : A) → e (f a) ≤ d + 63)
      → Follows (λ k. IsNotLeft from.memory.frames k.frames) G (suc n) (state_at from s.trace) s (bind (fetch (meaning.Error number unit line) h) (λ a. spend 1 (give (f a)))) (λ b. Lands layout G Here to (P b)) d e
  follows_fetch s reads le le2 = record { by = λ m l. by_option m (h s) refl (go m l (h s) reads) }
    where
      by_option : (m : ℕ) (o : Option A) → h s ≡ o
          → Met (λ k. IsNotLeft from.memory.frames k.frames) G (state_at from s.trace) m (λ a. Lands layout G Here to (P a)) d e (bind (found (meaning.Error number unit line) o) (λ a. spend 1 (give (f a))) m s)
          → Met (λ k. IsNotLeft from.memory.frames k.frames) G (state_at from s.trace) m (λ a. Lands layout G Here to (P a)) d e (bind (fetch (meaning.Error number unit line) h) (λ a. spend 1 (give (f a))) m s)
      by_option m o q x = subst (λ y. Met (λ k. IsNotLeft from.memory.frames k.frames) G (state_at from s.trace) m (λ a. Lands layout G Here to (P a)) d e (bind (found (meaning.Error number unit line) y) (λ a. spend 1 (give (f a))) m s)) (sym q) x

      missed : FailsWith G (state_at from s.trace) 0 number unit line s
          → Follows (λ k. IsNotLeft from.memory.frames k.frames) G (suc n) (state_at from s.trace) s (stop {A = B} (meaning.Error number unit line)) (λ a. Lands layout G Here to (P a)) d e
      missed fails = follows_stop (not_left-here from.memory.frames) fails.fails le

      met : (a : A) → Does layout G Here (state_at from s.trace) 0 to (P (f a)) s
          → Follows (λ k. IsNotLeft from.memory.frames k.frames) G (suc n) (state_at from s.trace) s (spend 1 (give (f a))) (λ b. Lands layout G Here to (P b)) d e
      met a does =
          let small : e (f a) ≤ d + 63 = le2 a in
          follows_paid {v = 0} {w = 0} {d1 = d + 63} (not_left-here from.memory.frames) refl does.does (omega arith) (omega arith) (omega arith) (follows_give (f a) small (landed does))

      go : (m : ℕ) → m ≤ suc n → (o : Option A)
          → Reads layout G Here (state_at from s.trace) number unit line to (λ a. P (f a)) s o
          → Met (λ k. IsNotLeft from.memory.frames k.frames) G (state_at from s.trace) m (λ a. Lands layout G Here to (P a)) d e (bind (found (meaning.Error number unit line) o) (λ a. spend 1 (give (f a))) m s)
      go m l o (Misses is fails) =
          let z = missed fails in
          subst (λ y. Met (λ k. IsNotLeft from.memory.frames k.frames) G (state_at from s.trace) m (λ a. Lands layout G Here to (P a)) d e (bind (found (meaning.Error number unit line) y) (λ a. spend 1 (give (f a))) m s)) (sym is) (z.by m l)
      go m l o (Finds a is does) =
          let z = met a does in
          subst (λ y. Met (λ k. IsNotLeft from.memory.frames k.frames) G (state_at from s.trace) m (λ a. Lands layout G Here to (P a)) d e (bind (found (meaning.Error number unit line) y) (λ a. spend 1 (give (f a))) m s)) (sym is) (z.by m l)

-- the same from every state
pub fragment_fetch : {A B : Type 0} {layout : Layout} {G : Image} {Here : Facts} {n : ℕ} {from : Point} {to : ℕ} {P : B → After} {d : ℕ} {e : B → ℕ} {number line : ℕ} {unit : List ℕ} (h : meaning.State → Option A) (f : A → B)
    → ((s : meaning.State) → Matches layout G from.injection s from.memory → Here from.injection s from.memory → Reads layout G Here (state_at from s.trace) number unit line to (λ a. P (f a)) s (h s))
    → 1 ≤ d → ((a : A) → e (f a) ≤ d + 63)
    → Fragment layout G Here (suc n) from (bind (fetch (meaning.Error number unit line) h) (λ a. spend 1 (give (f a)))) to P d e
fragment_fetch {from = from} h f reads le le2 = record { by = λ s matches here. follows_fetch from h f s (reads s matches here) le le2 }

-- one instruction that reads, without a step
pub fragment_fetched : {A : Type 0} {layout : Layout} {G : Image} {Here : Facts} {n : ℕ} {from : Point} {to : ℕ} {P : A → After} {d d1 : ℕ} {number line : ℕ} {unit : List ℕ} (h : meaning.State → Option A)
    → ((s : meaning.State) → Matches layout G from.injection s from.memory → Here from.injection s from.memory → Reads layout G Here (state_at from s.trace) number unit line to P s (h s))
    → 1 + d1 ≤ d
    → Fragment layout G Here n from (fetch (meaning.Error number unit line) h) to P d (λ a. d1)
fragment_fetched {A = A} {layout = layout} {G = G} {Here = Here} {n = n} {from = from} {to = to} {P = P} {d = d} {d1 = d1} {number = number} {line = line} {unit = unit} h reads le =
    record { by = λ s matches here. record { by = λ m l. let z = go s (h s) (reads s matches here) in z.by m l } }
  where
    go : (s : meaning.State) (o : Option A) → Reads layout G Here (state_at from s.trace) number unit line to P s o
        → Follows (λ k. IsNotLeft from.memory.frames k.frames) G n (state_at from s.trace) s (found (meaning.Error number unit line) o) (λ a. Lands layout G Here to (P a)) d (λ a. d1)
    go s o (Misses is x) =
        subst (λ y. Follows (λ k. IsNotLeft from.memory.frames k.frames) G n (state_at from s.trace) s (found (meaning.Error number unit line) y) (λ a. Lands layout G Here to (P a)) d (λ a. d1)) (sym is) (follows_stop (not_left-here from.memory.frames) x.fails (omega (arith, le)))
    go s o (Finds a is x) =
        subst (λ y. Follows (λ k. IsNotLeft from.memory.frames k.frames) G n (state_at from s.trace) s (found (meaning.Error number unit line) y) (λ a. Lands layout G Here to (P a)) d (λ a. d1)) (sym is)
        (follows_credit {d = 1 + d1} {e = λ b. d1} le (λ b. omega arith) (follows_waits (not_left-here from.memory.frames) x.does (follows_give a (omega arith) (landed x))))

-- the same from one state, with what is made of what was read
pub follows_fetched : {A B : Type 0} {layout : Layout} {G : Image} {Here : Facts} {n : ℕ} {to : ℕ} {P : B → After} {d d1 : ℕ} {number line : ℕ} {unit : List ℕ} (from : Point) (h : meaning.State → Option A) (f : A → B) (s : meaning.State)
    → Reads layout G Here (state_at from s.trace) number unit line to (λ a. P (f a)) s (h s)
    → 1 + d1 ≤ d
    → Follows (λ k. IsNotLeft from.memory.frames k.frames) G n (state_at from s.trace) s (bind (fetch (meaning.Error number unit line) h) (λ a. give (f a))) (λ b. Lands layout G Here to (P b)) d (λ b. d1)
follows_fetched {A = A} {B = B} {layout = layout} {G = G} {Here = Here} {n = n} {to = to} {P = P} {d = d} {d1 = d1} {number = number} {line = line} {unit = unit} from h f s reads le =
    record { by = λ m l. let z = go (h s) reads in z.by m l }
  where
    go : (o : Option A) → Reads layout G Here (state_at from s.trace) number unit line to (λ a. P (f a)) s o
        → Follows (λ k. IsNotLeft from.memory.frames k.frames) G n (state_at from s.trace) s (bind (found (meaning.Error number unit line) o) (λ a. give (f a))) (λ b. Lands layout G Here to (P b)) d (λ b. d1)
    go o (Misses is x) =
        subst (λ y. Follows (λ k. IsNotLeft from.memory.frames k.frames) G n (state_at from s.trace) s (bind (found (meaning.Error number unit line) y) (λ a. give (f a))) (λ b. Lands layout G Here to (P b)) d (λ b. d1)) (sym is) (follows_stop (not_left-here from.memory.frames) x.fails (omega (arith, le)))
    go o (Finds a is x) =
        subst (λ y. Follows (λ k. IsNotLeft from.memory.frames k.frames) G n (state_at from s.trace) s (bind (found (meaning.Error number unit line) y) (λ a. give (f a))) (λ b. Lands layout G Here to (P b)) d (λ b. d1)) (sym is)
        (follows_credit {d = 1 + d1} {e = λ b. d1} le (λ b. omega arith) (follows_waits (not_left-here from.memory.frames) x.does (follows_give (f a) (omega arith) (landed x))))

-- ---- a variable that is read

-- the machine has the result that the computation reads, and spends its weight and so many ticks besides, or both end with the error after those
pub data ReadsResult (layout : Layout) (G : Image) (Here : Facts) (k : State) (besides number : ℕ) (unit : List ℕ) (line : ℕ) (to : ℕ) (Post : Result → After) (s : meaning.State) (o : Option Result) : Type 0 where
  Nothing : (is : o ≡ None) (fails : FailsWith G k besides number unit line s)
      → ReadsResult layout G Here k besides number unit line to Post s o
  Result_of : (r : Result) (is : o ≡ Some r) (weight : ℕ) (weighs : weight ≡ weight_of r + besides) (does : Does layout G Here k weight to (Post r) s)
      → ReadsResult layout G Here k besides number unit line to Post s o

-- one instruction, with the step of the form and the weight of the result, from one state
pub follows_read : {layout : Layout} {G : Image} {Here : Facts} {n : ℕ} {to : ℕ} {P : Result → After} {d : ℕ} {e : Result → ℕ} {besides number line : ℕ} {unit : List ℕ} (from : Point) (h : meaning.State → Option Result) (s : meaning.State)
    → ReadsResult layout G Here (state_at from s.trace) besides number unit line to P s (h s)
    → suc besides ≤ d → ((r : Result) → e r + besides ≤ d + 63 * suc (weight_of r))
    → Follows (λ k. IsNotLeft from.memory.frames k.frames) G (suc n) (state_at from s.trace) s (bind (fetch (meaning.Error number unit line) h) (λ r. spend (suc (weight_of r)) (give r))) (λ b. Lands layout G Here to (P b)) d e
follows_read {layout = layout} {G = G} {Here = Here} {n = n} {to = to} {P = P} {d = d} {e = e} {besides = besides} {number = number} {line = line} {unit = unit} from h s reads le le2 =
    record { by = λ m l. let z = go (h s) reads in z.by m l }
  where
    go : (o : Option Result) → ReadsResult layout G Here (state_at from s.trace) besides number unit line to P s o
        → Follows (λ k. IsNotLeft from.memory.frames k.frames) G (suc n) (state_at from s.trace) s (bind (found (meaning.Error number unit line) o) (λ r. spend (suc (weight_of r)) (give r))) (λ b. Lands layout G Here to (P b)) d e
    go o (Nothing is x) =
        subst (λ y. Follows (λ k. IsNotLeft from.memory.frames k.frames) G (suc n) (state_at from s.trace) s (bind (found (meaning.Error number unit line) y) (λ r. spend (suc (weight_of r)) (give r))) (λ b. Lands layout G Here to (P b)) d e) (sym is)
        (follows_stop (not_left-here from.memory.frames) x.fails le)
    go o (Result_of r is weight weighs x) =
        let small : e r ≤ d + 63 * suc (weight_of r) - besides = (let enough = le2 r in omega (arith, enough)) in
        subst (λ y. Follows (λ k. IsNotLeft from.memory.frames k.frames) G (suc n) (state_at from s.trace) s (bind (found (meaning.Error number unit line) y) (λ r. spend (suc (weight_of r)) (give r))) (λ b. Lands layout G Here to (P b)) d e) (sym is)
        (follows_paid {v = weight} {w = weight_of r} {d1 = d + 63 * suc (weight_of r) - besides} (not_left-here from.memory.frames) refl x.does (omega (arith, weighs)) (omega (arith, weighs)) (omega (arith, weighs, le)) (follows_give r small (landed x)))

-- ---- what is known before any state

-- what is looked up without the state, or the instruction that ends with the error, and what comes after it
pub fragment_known : {A B : Type 0} {layout : Layout} {G : Image} {Here : Facts} {n : ℕ} {from : Point} {to : ℕ} {P : B → After} {d : ℕ} {e : B → ℕ} {weight number line : ℕ} {unit : List ℕ} (o : Option A) (f : A → Computation B)
    → (o ≡ None → (s : meaning.State) → Matches layout G from.injection s from.memory → FailsWith G (state_at from s.trace) weight number unit line s)
    → suc weight ≤ d
    → ((a : A) → o ≡ Some a → Fragment layout G Here n from (f a) to P d e)
    → Fragment layout G Here n from (bind (fetch (meaning.Error number unit line) (λ s. o)) f) to P d e
fragment_known {B = B} {layout = layout} {G = G} {Here = Here} {n = n} {from = from} {to = to} {P = P} {d = d} {e = e} {number = number} {line = line} {unit = unit} None f fails le next =
    record { by = λ s matches here. record { by = λ m l. let z = stops s (fails refl s matches) le in z.by m l } }
  where
    stops : {weight : ℕ} (s : meaning.State) → FailsWith G (state_at from s.trace) weight number unit line s → suc weight ≤ d
        → Follows (λ k. IsNotLeft from.memory.frames k.frames) G n (state_at from s.trace) s (stop {A = B} (meaning.Error number unit line)) (λ b. Lands layout G Here to (P b)) d e
    stops s x enough = follows_stop (not_left-here from.memory.frames) x.fails enough
fragment_known (Some a) f fails le next = record { by = λ s matches here. record { by = λ m l. let z = next a refl in let w = z.by s matches here in w.by m l } }

-- ---- a test of the state

-- one of two computations, by a test of the state
pub follows_tested : {A : Type 0} {Within : State → Type 0} {G : Image} {n : ℕ} {k : State} {s : meaning.State} {x y : Computation A} {P : A → meaning.State → State → Type 0} {d : ℕ} {e : A → ℕ} (b : meaning.State → Bool)
    → (b s ≡ true → Follows Within G n k s x P d e) → (b s ≡ false → Follows Within G n k s y P d e)
    → Follows Within G n k s (λ m t. (if b t then x else y) m t) P d e
follows_tested {Within = Within} {G = G} {n = n} {k = k} {s = s} {x = x} {y = y} {P = P} {d = d} {e = e} b holds fails = record { by = λ m l. go m l (b s) refl }
  where
    go : (m : ℕ) → m ≤ n → (t : Bool) → b s ≡ t → Met Within G k m P d e ((if b s then x else y) m s)
    go m l true q = let z = holds q in subst (λ t. Met Within G k m P d e ((if t then x else y) m s)) (sym q) (z.by m l)
    go m l false q = let z = fails q in subst (λ t. Met Within G k m P d e ((if t then x else y) m s)) (sym q) (z.by m l)

-- ---- what is used has to live

-- where an allocation has ended that is used, the instruction ends with the error, and else the computation is followed
pub fragment_using : {A : Type 0} {layout : Layout} {G : Image} {Here : Facts} {n : ℕ} {from : Point} {to : ℕ} {c : Computation A} {P : A → After} {d : ℕ} {e : A → ℕ} {weight number line : ℕ} {unit : List ℕ} (a : ℕ)
    → ((s : meaning.State) → Matches layout G from.injection s from.memory → has_ended a s ≡ true → FailsWith G (state_at from s.trace) weight number unit line s)
    → suc weight ≤ d
    → ((s : meaning.State) → Matches layout G from.injection s from.memory → Here from.injection s from.memory → has_ended a s ≡ false → Follows (λ k. IsNotLeft from.memory.frames k.frames) G n (state_at from s.trace) s c (λ x. Lands layout G Here to (P x)) d e)
    → Fragment layout G Here n from (using (meaning.Error number unit line) a c) to P d e
fragment_using {from = from} a ends le lives =
    record { by = λ s matches here. follows_tested (has_ended a) (λ q. let x = ends s matches q in follows_stop (not_left-here from.memory.frames) x.fails le) (lives s matches here) }

-- ---- an answer

-- what an instruction that gives an answer leads to: its number on top, or its error
abbrev pub going_of : ℕ → List Operand → MachineMemory → List ℕ → ℕ → Trace → Answer → Going
going_of to below memory unit line trace (Number z) = Running 0 (at to (Word z ∷ below) memory trace)
going_of to below memory unit line trace (Fault error) = Stopped (Error error unit line) trace

-- one instruction, with the step of the form
pub fragment_answer : {B : Type 0} {layout : Layout} {G : Image} {Here : Facts} {n : ℕ} {from : Point} {to : ℕ} {P : B → After} {d : ℕ} {e : B → ℕ} (call : Handler) (g : ℕ) (unit : List ℕ) (line : ℕ) (below : List Operand) (a : Answer) (f : ℤ → B)
    → ((s : meaning.State) → Matches layout G from.injection s from.memory → outcome G (state_at from s.trace) ≡ record { weight = 0; to = going_of to below from.memory unit line s.trace a })
    → ((z : ℤ) → a ≡ Number z → P (f z) from.injection from.memory (Word z ∷ below)) → 1 ≤ d
    → ((z : ℤ) → e (f z) ≤ d + 63)
    → Fragment layout G Here (suc n) from (bind (answered call g unit line a) (λ z. spend 1 (give (f z)))) to P d e
fragment_answer {d = d} {e = e} call g unit line below (Number z) f does post le le2 =
    let small : e (f z) ≤ d + 63 = le2 z in
    fragment_one {d1 = d + 63} does (omega arith) (fragment_give small (post z refl))
fragment_answer call g unit line below (Fault error) f does post le le2 = fragment_stop does le

-- ---- a change of the state that is checked first

-- the instruction checks what the computation checks, and changes the state with a step, or ends with the error
pub follows_checked : {layout : Layout} {G : Image} {Here : Facts} {n : ℕ} {to : ℕ} {P : Unit {0} → After} {d : ℕ} {e : Unit {0} → ℕ} {number line : ℕ} {unit : List ℕ} (from : Point) (b : meaning.State → Bool) (f : meaning.State → meaning.State) (s : meaning.State)
    → (b s ≡ true → Does layout G Here (state_at from s.trace) 0 to (P tt) (f s))
    → (b s ≡ false → FailsWith G (state_at from s.trace) 0 number unit line s)
    → 1 ≤ d → e tt ≤ d + 63
    → Follows (λ k. IsNotLeft from.memory.frames k.frames) G (suc n) (state_at from s.trace) s (λ m s. (if b s then spend 1 (change f) else stop (meaning.Error number unit line)) m s) (λ a. Lands layout G Here to (P a)) d e
follows_checked {layout = layout} {G = G} {Here = Here} {n = n} {to = to} {P = P} {d = d} {e = e} {number = number} {line = line} {unit = unit} from b f s passes refuses le le2 =
    record { by = λ m l. go m l (b s) refl }
  where
    holds : Does layout G Here (state_at from s.trace) 0 to (P tt) (f s)
        → Follows (λ k. IsNotLeft from.memory.frames k.frames) G (suc n) (state_at from s.trace) s (spend 1 (change f)) (λ a. Lands layout G Here to (P a)) d e
    holds does = follows_paid {v = 0} {w = 0} {d1 = d + 63} (not_left-here from.memory.frames) refl does.does (omega arith) (omega arith) (omega arith) (follows_changed {n = n} f {P = λ a. Lands layout G Here to (P a)} {d = d + 63} {e = e} le2 (landed does))

    fails : FailsWith G (state_at from s.trace) 0 number unit line s
        → Follows (λ k. IsNotLeft from.memory.frames k.frames) G (suc n) (state_at from s.trace) s (stop {A = Unit {0}} (meaning.Error number unit line)) (λ a. Lands layout G Here to (P a)) d e
    fails x = follows_stop (not_left-here from.memory.frames) x.fails le

    go : (m : ℕ) → m ≤ suc n → (x : Bool) → b s ≡ x
        → Met (λ k. IsNotLeft from.memory.frames k.frames) G (state_at from s.trace) m (λ a. Lands layout G Here to (P a)) d e ((if b s then spend 1 (change f) else stop (meaning.Error number unit line)) m s)
    go m l true q =
        let z = holds (passes q) in
        subst (λ y. Met (λ k. IsNotLeft from.memory.frames k.frames) G (state_at from s.trace) m (λ a. Lands layout G Here to (P a)) d e ((if y then spend 1 (change f) else stop (meaning.Error number unit line)) m s)) (sym q) (z.by m l)
    go m l false q =
        let z = fails (refuses q) in
        subst (λ y. Met (λ k. IsNotLeft from.memory.frames k.frames) G (state_at from s.trace) m (λ a. Lands layout G Here to (P a)) d e ((if y then spend 1 (change f) else stop (meaning.Error number unit line)) m s)) (sym q) (z.by m l)

-- The same where the instruction has a weight, and the form spends more steps, no more than that. What is left of it is paid by
-- the credit.
pub follows_checked-spent : {layout : Layout} {G : Image} {Here : Facts} {n : ℕ} {to : ℕ} {P : Unit {0} → After} {d weight : ℕ} {e : Unit {0} → ℕ} {number line : ℕ} {unit : List ℕ} (from : Point) (b : meaning.State → Bool) (f : meaning.State → meaning.State) (s : meaning.State) (more : ℕ) → more ≤ weight
    → (b s ≡ true → Does layout G Here (state_at from s.trace) weight to (P tt) (f s))
    → (b s ≡ false → FailsWith G (state_at from s.trace) weight number unit line s)
    → 1 + weight ≤ d → e tt + weight ≤ d + 63
    → Follows (λ k. IsNotLeft from.memory.frames k.frames) G (suc n) (state_at from s.trace) s (λ m s. (if b s then spend (suc more) (change f) else stop (meaning.Error number unit line)) m s) (λ a. Lands layout G Here to (P a)) d e
follows_checked-spent {layout = layout} {G = G} {Here = Here} {n = n} {to = to} {P = P} {d = d} {weight = weight} {e = e} {number = number} {line = line} {unit = unit} from b f s more few passes refuses le le2 =
    record { by = λ m l. go m l (b s) refl }
  where
    holds : Does layout G Here (state_at from s.trace) weight to (P tt) (f s)
        → Follows (λ k. IsNotLeft from.memory.frames k.frames) G (suc n) (state_at from s.trace) s (spend (suc more) (change f)) (λ a. Lands layout G Here to (P a)) d e
    holds does = follows_paid {v = weight} {w = more} {d1 = d + 63 - weight} (not_left-here from.memory.frames) refl does.does (omega (arith, few)) (omega (arith, few, le)) (omega (arith, le)) (follows_changed {n = n} f {P = λ a. Lands layout G Here to (P a)} {d = d + 63 - weight} {e = e} (omega (arith, le2)) (landed does))

    fails : FailsWith G (state_at from s.trace) weight number unit line s
        → Follows (λ k. IsNotLeft from.memory.frames k.frames) G (suc n) (state_at from s.trace) s (stop {A = Unit {0}} (meaning.Error number unit line)) (λ a. Lands layout G Here to (P a)) d e
    fails x = follows_stop (not_left-here from.memory.frames) x.fails (omega (arith, le))

    go : (m : ℕ) → m ≤ suc n → (x : Bool) → b s ≡ x
        → Met (λ k. IsNotLeft from.memory.frames k.frames) G (state_at from s.trace) m (λ a. Lands layout G Here to (P a)) d e ((if b s then spend (suc more) (change f) else stop (meaning.Error number unit line)) m s)
    go m l true q =
        let z = holds (passes q) in
        subst (λ y. Met (λ k. IsNotLeft from.memory.frames k.frames) G (state_at from s.trace) m (λ a. Lands layout G Here to (P a)) d e ((if y then spend (suc more) (change f) else stop (meaning.Error number unit line)) m s)) (sym q) (z.by m l)
    go m l false q =
        let z = fails (refuses q) in
        subst (λ y. Met (λ k. IsNotLeft from.memory.frames k.frames) G (state_at from s.trace) m (λ a. Lands layout G Here to (P a)) d e ((if y then spend (suc more) (change f) else stop (meaning.Error number unit line)) m s)) (sym q) (z.by m l)

-- the same with one step
pub follows_checked-weighed : {layout : Layout} {G : Image} {Here : Facts} {n : ℕ} {to : ℕ} {P : Unit {0} → After} {d weight : ℕ} {e : Unit {0} → ℕ} {number line : ℕ} {unit : List ℕ} (from : Point) (b : meaning.State → Bool) (f : meaning.State → meaning.State) (s : meaning.State)
    → (b s ≡ true → Does layout G Here (state_at from s.trace) weight to (P tt) (f s))
    → (b s ≡ false → FailsWith G (state_at from s.trace) weight number unit line s)
    → 1 + weight ≤ d → e tt + weight ≤ d + 63
    → Follows (λ k. IsNotLeft from.memory.frames k.frames) G (suc n) (state_at from s.trace) s (λ m s. (if b s then spend 1 (change f) else stop (meaning.Error number unit line)) m s) (λ a. Lands layout G Here to (P a)) d e
follows_checked-weighed from b f s passes refuses le le2 = follows_checked-spent from b f s 0 (omega arith) passes refuses le le2

-- ---- one of two ways

-- an instruction, without a step, that goes one of two ways
pub fragment_branch : {A : Type 0} {layout : Layout} {G : Image} {Here : Facts} {n : ℕ} {from : Point} {then_place else_place to : ℕ} {operands1 : List Operand} {x y : Computation A} {P : A → After} {d d1 : ℕ} {e : A → ℕ} (b : Bool)
    → ((s : meaning.State) → Matches layout G from.injection s from.memory → outcome G (state_at from s.trace) ≡ record { weight = 0; to = Running 0 (at (if b then then_place else else_place) operands1 from.memory s.trace) })
    → 1 + d1 ≤ d
    → (b ≡ true → Fragment layout G Here n (point from.injection from.memory then_place operands1) x to P d1 e)
    → (b ≡ false → Fragment layout G Here n (point from.injection from.memory else_place operands1) y to P d1 e)
    → Fragment layout G Here n from (if b then x else y) to P d e
fragment_branch true does le then_way else_way = fragment_waits does le (then_way refl)
fragment_branch false does le then_way else_way = fragment_waits does le (else_way refl)

-- an instruction, with a step, that goes one of two ways
pub fragment_branch_one : {A : Type 0} {layout : Layout} {G : Image} {Here : Facts} {n : ℕ} {from : Point} {then_place else_place to : ℕ} {operands1 : List Operand} {x y : Computation A} {P : A → After} {d d1 : ℕ} {e : A → ℕ} (b : Bool) → ((s : meaning.State) → Matches layout G from.injection s from.memory → outcome G (state_at from s.trace) ≡ record { weight = 0; to = Running 0 (at (if b then then_place else else_place) operands1 from.memory s.trace) }) → d1 ≤ d + 63 → (b ≡ true → Fragment layout G Here n (point from.injection from.memory then_place operands1) x to P d1 e) → (b ≡ false → Fragment layout G Here n (point from.injection from.memory else_place operands1) y to P d1 e) → Fragment layout G Here (suc n) from (spend 1 (if b then x else y)) to P d e
fragment_branch_one true does le then_way else_way = fragment_one does le (then_way refl)
fragment_branch_one false does le then_way else_way = fragment_one does le (else_way refl)

-- ---- a loop

-- At `place` stands the test and behind it, at `test_end`, the instruction that leads out of the loop; the body is from
-- `body_place` to `body_end`, where an instruction leads back.
pub fragment_turns : {untouched : Slots} {layout : Layout} {G : Image} {Here : Facts} {n : ℕ} {place test_end body_place body_end to : ℕ} {below : List Operand} {test : Computation Result} {body : Computation (Unit {0})} (call : Handler) (h : ℕ) (unit : List ℕ) (d : ℕ)
    → Steady test → Steady body → (first : Injection) (start : MachineMemory) →
    ((injection : Injection) (memory : MachineMemory) → Grown untouched first start injection memory → SameRoutine untouched start.frames memory.frames → Fragment layout G Here n (point injection memory place below) test test_end (λ r. Inside untouched injection memory (OnTop (kind.Ordinal host.Boolean) below r)) d (λ r. d + 2)) →
    ((z : ℤ) (memory : MachineMemory) (trace : Trace) → SameRoutine untouched start.frames memory.frames → outcome G (at test_end (Word z ∷ below) memory trace) ≡ record { weight = 0; to = Running 0 (at (if is_true z then body_place else to) below memory trace) }) →
    ((injection : Injection) (memory : MachineMemory) → Grown untouched first start injection memory → SameRoutine untouched start.frames memory.frames → Fragment layout G Here n (point injection memory body_place below) body body_end (λ a. Inside untouched injection memory (Bare below a)) (d + 1) (λ a. d + 1)) →
    ((memory : MachineMemory) (trace : Trace) → SameRoutine untouched start.frames memory.frames → outcome G (at body_end below memory trace) ≡ record { weight = 0; to = Running 0 (at place below memory trace) }) →
    (k : ℕ) → k ≤ n → (injection : Injection) (memory : MachineMemory) → Grown untouched first start injection memory
    → SameRoutine untouched start.frames memory.frames
    → Fragment layout G Here k (point injection memory place below) (turns call h unit k test body) to (λ a. Inside untouched injection memory (Bare below a)) d (λ a. d)
fragment_turns call h unit d steady_test steady_body first start tests leads_out bodies leads_back zero le injection memory grown routine = fragment_cut
fragment_turns call h unit d steady_test steady_body first start tests leads_out bodies leads_back (suc k) le injection memory grown routine =
    fragment_bind_number {e = λ r. d + 2} (λ r. steady_if (is_true (number_of r)) (steady_bind steady_body (λ a. steady_spend 1 (steady_turns call h k unit steady_test steady_body))) (steady_spend 1 (steady_give tt))) (fragment_less le (tests injection memory grown routine)) (λ z v1 m1 of_host grown1 routine1.
    fragment_branch {d1 = d + 1} (is_true z) (λ s matches. leads_out z m1 s.trace (same_routine-trans routine routine1)) (omega arith)
    (λ is. fragment_bind_bare {e = λ a. d + 1} (λ a. steady_spend 1 (steady_turns call h k unit steady_test steady_body)) (fragment_less le (bodies v1 m1 (grown_trans grown grown1) (same_routine-trans routine routine1))) (λ a v2 m2 grown2 routine2.
    fragment_one {d1 = d} (λ s matches. leads_back m2 s.trace (same_routine-trans routine (same_routine-trans routine1 routine2))) (omega arith)
    (fragment_turns call h unit d steady_test steady_body first start tests leads_out bodies leads_back k (omega arith) v2 m2 (grown_trans grown (grown_trans grown1 grown2)) (same_routine-trans routine (same_routine-trans routine1 routine2)))))
    (λ is. fragment_move {d1 = d} (omega arith) (fragment_give (omega arith) (inside_here refl))))

-- At `place` stands the body and behind it, at `body_end`, the test; the instruction at `test_end` leads back where the test is false.
pub fragment_turns_until : {untouched : Slots} {layout : Layout} {G : Image} {Here : Facts} {n : ℕ} {place body_end test_end to : ℕ} {below : List Operand} {body : Computation (Unit {0})} {test : Computation Result} (call : Handler) (h : ℕ) (unit : List ℕ) (d : ℕ) → Steady body → Steady test → (first : Injection) (start : MachineMemory) →
    ((injection : Injection) (memory : MachineMemory) → Grown untouched first start injection memory → SameRoutine untouched start.frames memory.frames → Fragment layout G Here n (point injection memory place below) body body_end (λ a. Inside untouched injection memory (Bare below a)) d (λ a. d)) →
    ((injection : Injection) (memory : MachineMemory) → Grown untouched first start injection memory → SameRoutine untouched start.frames memory.frames → Fragment layout G Here n (point injection memory body_end below) test test_end (λ r. Inside untouched injection memory (OnTop (kind.Ordinal host.Boolean) below r)) d (λ r. d)) →
    ((z : ℤ) (memory : MachineMemory) (trace : Trace) → SameRoutine untouched start.frames memory.frames → outcome G (at test_end (Word z ∷ below) memory trace) ≡ record { weight = 0; to = Running 0 (at (if is_true z then to else place) below memory trace) }) →
    (k : ℕ) → k ≤ n → (injection : Injection) (memory : MachineMemory) → Grown untouched first start injection memory → SameRoutine untouched start.frames memory.frames → Fragment layout G Here k (point injection memory place below) (turns_until call h unit k body test) to (λ a. Inside untouched injection memory (Bare below a)) d (λ a. d)
fragment_turns_until call h unit d steady_body steady_test first start bodies tests leads zero le injection memory grown routine = fragment_cut
fragment_turns_until call h unit d steady_body steady_test first start bodies tests leads (suc k) le injection memory grown routine =
    fragment_bind_bare {e = λ a. d} (λ a. steady_bind steady_test (λ r. steady_spend 1 (steady_if (is_true (number_of r)) (steady_spend 1 (steady_give tt)) (steady_turns_until call h k unit steady_body steady_test)))) (fragment_less le (bodies injection memory grown routine)) (λ a v1 m1 grown1 routine1.
    fragment_bind_number {e = λ r. d} (λ r. steady_spend 1 (steady_if (is_true (number_of r)) (steady_spend 1 (steady_give tt)) (steady_turns_until call h k unit steady_body steady_test))) (fragment_less le (tests v1 m1 (grown_trans grown grown1) (same_routine-trans routine routine1))) (λ z v2 m2 of_host grown2 routine2.
    fragment_branch_one {d1 = d + 1} (is_true z) (λ s matches. leads z m2 s.trace (same_routine-trans routine (same_routine-trans routine1 routine2))) (omega arith)
    (λ is. fragment_less {n = suc k} (omega arith) (fragment_move {d1 = d} (omega arith) (fragment_give (omega arith) (inside_here refl))))
    (λ is. fragment_credit {d = d} (omega arith) (λ a. omega arith) (fragment_turns_until call h unit d steady_body steady_test first start bodies tests leads k (omega arith) v2 m2 (grown_trans grown (grown_trans grown1 grown2)) (same_routine-trans routine (same_routine-trans routine1 routine2))))))
