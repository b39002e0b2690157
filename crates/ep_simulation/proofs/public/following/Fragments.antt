-- How the machine follows computations from place to place of the code.
use Rattle.std.proofs.Common.{◌≡◌, ℕ, ℤ, suc, ◌+◌, ◌*◌, ◌≤◌, IsTrue, List, ◌∷◌, refl, sym, subst, arith}
use Rattle.ep_simulation.specs.Follows.{end_of, Point, point, state_at, Facts, After, Lands, Fragment, Operands, Bare, OnTop, PlaceOnTop, StillRuns, SameRoutine, Inside}
use Rattle.ep_simulation.specs.Layouts.{Layout}
use Rattle.ep_simulation.specs.Matching.{MachineMemory, at, Injection, Matches, Slots, Grown, IsSpot, IsLike}
use Rattle.ep_object.specs.Operands.{Operand, Word, Place, Text}
use Rattle.ep_object.specs.Runs.{outcome}
use Rattle.ep_object.specs.State.{State, Running, Stopped, Error}
use Rattle.ep_object.specs.declared.code.Image.{Image}
use Rattle.ep_object.specs.declared.state.Place.{Place as PlaceOf}
use Rattle.ep_simulation.proofs.public.following.Bind.{follows_bind, follows_less, follows_weaken, follows_wider, follows_credit, follows_from, follows_waits, follows_paid, follows_moves, follows_give, follows_changed, follows_cut, follows_stop}
use Rattle.ep_simulation.proofs.public.matching.MoreMemory.{inside_later, not_left-here, not_left-later, still_routine}
use Rattle.ep_values.specs.Printing.{Result}
use Rattle.ep_values.specs.Printing as result
use Rattle.ep_meaning.specs.Steady.{Steady}
use Rattle.ep_meaning.specs.Steps.{Component, Computation, give, cut, stop, bind, spend, change}
use Rattle.ep_meaning.specs.Steps as meaning
use Rattle.ep_meaning.specs.Valid as kind
use Rattle.ep_typed.specs.Hosts.{Host, is_of_host}
use Rattle.ep_values.specs.TypeValues.{TypeValue}

-- ---- one fragment after another

-- the first part of the code follows the first computation, and the second part, from all that may hold between, the second
pub fragment_bind : {A B : Type 0} {layout : Layout} {G : Image} {Here : Facts} {n : ℕ} {from : Point} {middle to : ℕ} {c : Computation A} {f : A → Computation B} {P : A → After} {Q : B → After} {d : ℕ} {e : A → ℕ} {g : B → ℕ}
    → ((a : A) → Steady (f a)) → Fragment layout G Here n from c middle P d e
    → ((a : A) (longer : Injection) (after : MachineMemory) (pushed : List Operand) → P a longer after pushed → StillRuns from.memory.frames after.frames × Fragment layout G Here n (point longer after middle pushed) (f a) to Q (e a) g)
    → Fragment layout G Here n from (bind c f) to Q d g
fragment_bind steady first second =
    record {
      by = λ s matches here. follows_bind steady (first.by s matches here) (λ a s1 k1 lands.
          let next = second a lands.injection lands.memory lands.operands lands.post in
          let fragment = next.1 in
          follows_from lands.is (follows_wider (λ k same. not_left-later next.0 same) (fragment.by s1 lands.matches lands.here)));
    }

module _ {A : Type 0} {layout : Layout} {G : Image} {Here : Facts} {c : Computation A} where
  -- of what follows from where it leads, with more credit before and less after
  pub fragment_weaken : {n : ℕ} {from : Point} {to d d2 : ℕ} {P Q : A → After} {e e2 : A → ℕ} → d ≤ d2
      → ((a : A) → d + e2 a ≤ d2 + e a)
      → ((a : A) (longer : Injection) (after : MachineMemory) (pushed : List Operand) → P a longer after pushed → Q a longer after pushed)
      → Fragment layout G Here n from c to P d e → Fragment layout G Here n from c to Q d2 e2
  fragment_weaken more less post h =
      record {
        by = λ s matches here. follows_weaken more less (λ a s1 k1 l. record { injection = l.injection; memory = l.memory; operands = l.operands; is = l.is; matches = l.matches; here = l.here; post = post a l.injection l.memory l.operands l.post }) (h.by s matches here);
      }

  -- of what follows from where it leads
  pub fragment_post : {n : ℕ} {from : Point} {to d : ℕ} {P Q : A → After} {e : A → ℕ}
      → ((a : A) (longer : Injection) (after : MachineMemory) (pushed : List Operand) → P a longer after pushed → Q a longer after pushed)
      → Fragment layout G Here n from c to P d e → Fragment layout G Here n from c to Q d e
  fragment_post post h = fragment_weaken (omega arith) (λ a. omega arith) post h

  -- with more credit before, or less after
  pub fragment_credit : {n : ℕ} {from : Point} {to d d2 : ℕ} {P : A → After} {e e2 : A → ℕ} → d ≤ d2
      → ((a : A) → d + e2 a ≤ d2 + e a) → Fragment layout G Here n from c to P d e
      → Fragment layout G Here n from c to P d2 e2
  fragment_credit more less h = fragment_weaken more less (λ a longer after pushed p. p) h

  -- with fewer steps
  pub fragment_less : {n n2 : ℕ} {from : Point} {to d : ℕ} {P : A → After} {e : A → ℕ} → n2 ≤ n
      → Fragment layout G Here n from c to P d e → Fragment layout G Here n2 from c to P d e
  fragment_less le h = record { by = λ s matches here. follows_less le (h.by s matches here) }

  -- with what follows from the match at the beginning
  pub fragment_given : {Fact : Type 0} {n : ℕ} {from : Point} {to d : ℕ} {P : A → After} {e : A → ℕ}
      → ((s : meaning.State) → Matches layout G from.injection s from.memory → Here from.injection s from.memory → Fact)
      → (Fact → Fragment layout G Here n from c to P d e) → Fragment layout G Here n from c to P d e
  fragment_given fact h = record { by = λ s matches here. let z = h (fact s matches here) in z.by s matches here }

  -- between places that are the same
  pub fragment_to : {n : ℕ} {from : Point} {to to2 d : ℕ} {P : A → After} {e : A → ℕ} → to ≡ to2
      → Fragment layout G Here n from c to P d e → Fragment layout G Here n from c to2 P d e
  fragment_to {n = n} {from = from} {d = d} {P = P} {e = e} q h = subst (λ x. Fragment layout G Here n from c x P d e) q h

  -- from a place that is the same
  pub fragment_from : {n : ℕ} {injection : Injection} {memory : MachineMemory} {place place2 to d : ℕ} {operands : List Operand} {P : A → After} {e : A → ℕ}
      → place2 ≡ place → Fragment layout G Here n (point injection memory place operands) c to P d e
      → Fragment layout G Here n (point injection memory place2 operands) c to P d e
  fragment_from {n = n} {injection = injection} {memory = memory} {to = to} {d = d} {operands = operands} {P = P} {e = e} q h = subst (λ x. Fragment layout G Here n (point injection memory x operands) c to P d e) (sym q) h

-- ---- inside of a routine

-- after the code of a form, memory has grown, the same routine runs, and the operand of the form is there
module _ {untouched : Slots} {B : Type 0} {layout : Layout} {G : Image} {Here : Facts} {n : ℕ} {from : Point} {middle to d : ℕ} {g : B → ℕ} {Then : B → Operands} where
  -- after a form of any kind
  pub inside_bind : {A : Type 0} {c : Computation A} {f : A → Computation B} {First : A → Operands} {e : A → ℕ}
      → ((a : A) → Steady (f a))
      → Fragment layout G Here n from c middle (λ a. Inside untouched from.injection from.memory (First a)) d e
      → ((a : A) (longer : Injection) (after : MachineMemory) (pushed : List Operand) → Grown untouched from.injection from.memory longer after → SameRoutine untouched from.memory.frames after.frames → First a longer after pushed → Fragment layout G Here n (point longer after middle pushed) (f a) to (λ b. Inside untouched longer after (Then b)) (e a) g)
      → Fragment layout G Here n from (bind c f) to (λ b. Inside untouched from.injection from.memory (Then b)) d g
  inside_bind steady first second =
      fragment_bind steady first (λ a longer after pushed i. (still_routine i.routine, fragment_post (λ b last final at_end j. inside_later i.grown i.routine j) (second a longer after pushed i.grown i.routine i.operands_are)))

  -- after an expression of an ordinal type
  pub fragment_bind_number : {host : Host} {below : List Operand} {c : Computation Result} {f : Result → Computation B} {e : Result → ℕ}
      → ((a : Result) → Steady (f a))
      → Fragment layout G Here n from c middle (λ a. Inside untouched from.injection from.memory (OnTop (kind.Ordinal host) below a)) d e
      → ((z : ℤ) (longer : Injection) (after : MachineMemory) → IsTrue (is_of_host host z) → Grown untouched from.injection from.memory longer after → SameRoutine untouched from.memory.frames after.frames → Fragment layout G Here n (point longer after middle (Word z ∷ below)) (f (result.Number z)) to (λ b. Inside untouched longer after (Then b)) (e (result.Number z)) g)
      → Fragment layout G Here n from (bind c f) to (λ b. Inside untouched from.injection from.memory (Then b)) d g
  fragment_bind_number {f = f} {e = e} steady first second =
      inside_bind steady first (λ a longer after pushed grown routine top.
      subst (λ r. Fragment layout G Here n (point longer after middle pushed) (f r) to (λ b. Inside untouched longer after (Then b)) (e r) g) (sym top.is_number)
      (subst (λ x. Fragment layout G Here n (point longer after middle x) (f (result.Number top.number)) to (λ b. Inside untouched longer after (Then b)) (e (result.Number top.number)) g) (sym top.is) (second top.number longer after top.of_host grown routine)))

  -- after a text
  pub fragment_bind_text : {below : List Operand} {c : Computation Result} {f : Result → Computation B} {e : Result → ℕ}
      → ((a : Result) → Steady (f a))
      → Fragment layout G Here n from c middle (λ a. Inside untouched from.injection from.memory (OnTop kind.Bytes below a)) d e
      → ((bytes : List ℕ) (longer : Injection) (after : MachineMemory) → Grown untouched from.injection from.memory longer after → SameRoutine untouched from.memory.frames after.frames → Fragment layout G Here n (point longer after middle (Text bytes ∷ below)) (f (result.Bytes bytes)) to (λ b. Inside untouched longer after (Then b)) (e (result.Bytes bytes)) g)
      → Fragment layout G Here n from (bind c f) to (λ b. Inside untouched from.injection from.memory (Then b)) d g
  fragment_bind_text {f = f} {e = e} steady first second =
      inside_bind steady first (λ a longer after pushed grown routine top.
      subst (λ r. Fragment layout G Here n (point longer after middle pushed) (f r) to (λ b. Inside untouched longer after (Then b)) (e r) g) (sym top.is_text)
      (subst (λ x. Fragment layout G Here n (point longer after middle x) (f (result.Bytes top.bytes)) to (λ b. Inside untouched longer after (Then b)) (e (result.Bytes top.bytes)) g) (sym top.is) (second top.bytes longer after grown routine)))

  -- after a statement
  pub fragment_bind_bare : {below : List Operand} {c : Computation (Unit {0})} {f : Unit {0} → Computation B} {e : Unit {0} → ℕ}
      → ((a : Unit {0}) → Steady (f a))
      → Fragment layout G Here n from c middle (λ a. Inside untouched from.injection from.memory (Bare below a)) d e
      → ((a : Unit {0}) (longer : Injection) (after : MachineMemory) → Grown untouched from.injection from.memory longer after → SameRoutine untouched from.memory.frames after.frames → Fragment layout G Here n (point longer after middle below) (f a) to (λ b. Inside untouched longer after (Then b)) (e a) g)
      → Fragment layout G Here n from (bind c f) to (λ b. Inside untouched from.injection from.memory (Then b)) d g
  fragment_bind_bare {f = f} {e = e} steady first second =
      inside_bind steady first (λ a longer after pushed grown routine is. subst (λ x. Fragment layout G Here n (point longer after middle x) (f a) to (λ b. Inside untouched longer after (Then b)) (e a) g) (sym is) (second a longer after grown routine))

  -- after a place
  pub fragment_bind_place : {type : TypeValue} {below : List Operand} {c : Computation Component} {f : Component → Computation B} {e : Component → ℕ}
      → ((a : Component) → Steady (f a))
      → Fragment layout G Here n from c middle (λ a. Inside untouched from.injection from.memory (PlaceOnTop type below a)) d e
      → ((a : Component) (p : PlaceOf) (longer : Injection) (after : MachineMemory) → Grown untouched from.injection from.memory longer after → SameRoutine untouched from.memory.frames after.frames → IsSpot longer after.types a p → IsLike after.types p.type_number type → Fragment layout G Here n (point longer after middle (Place p ∷ below)) (f a) to (λ b. Inside untouched longer after (Then b)) (e a) g)
      → Fragment layout G Here n from (bind c f) to (λ b. Inside untouched from.injection from.memory (Then b)) d g
  fragment_bind_place {f = f} {e = e} steady first second =
      inside_bind steady first (λ a longer after pushed grown routine top. subst (λ x. Fragment layout G Here n (point longer after middle x) (f a) to (λ b. Inside untouched longer after (Then b)) (e a) g) (sym top.is) (second a top.place longer after grown routine top.spot top.described))

-- ---- one instruction

-- an instruction of such a weight leads to a place at which the machine matches a state of the meaning, the facts of the activation hold, and this does
pub record Does (layout : Layout) (G : Image) (Here : Facts) (k : State) (weight to : ℕ) (Post : After)
    (s : meaning.State) : Type 0 where
  pub injection : Injection
  pub memory : MachineMemory
  pub operands : List Operand
  pub does : outcome G k ≡ record { weight = weight; to = Running 0 (at to operands memory s.trace) }
  pub matches : Matches layout G injection s memory
  pub here : Here injection s memory
  pub post : Post injection memory operands

-- it ends the run with an error
pub record FailsWith (G : Image) (k : State) (weight number : ℕ) (unit : List ℕ) (line : ℕ)
    (s : meaning.State) : Type 0 where
  pub fails : outcome G k ≡ record { weight = weight; to = Stopped (Error number unit line) s.trace }

-- what it leads to
pub landed : {layout : Layout} {G : Image} {Here : Facts} {k : State} {weight to : ℕ} {Post : After} {s : meaning.State}
    → (h : Does layout G Here k weight to Post s)
    → Lands layout G Here to Post s (at to h.operands h.memory s.trace)
landed h = record { injection = h.injection; memory = h.memory; operands = h.operands; is = refl; matches = h.matches; here = h.here; post = h.post }

module _ {A : Type 0} {layout : Layout} {G : Image} {Here : Facts} {c : Computation A} {to : ℕ} {P : A → After} {e : A → ℕ} where
  -- an instruction without a step, which leaves memory as it is and costs its ticks
  pub fragment_waits : {n : ℕ} {from : Point} {place1 d d1 weight : ℕ} {operands1 : List Operand}
      → ((s : meaning.State) → Matches layout G from.injection s from.memory → outcome G (state_at from s.trace) ≡ record { weight = weight; to = Running 0 (at place1 operands1 from.memory s.trace) })
      → suc weight + d1 ≤ d
      → Fragment layout G Here n (point from.injection from.memory place1 operands1) c to P d1 e
      → Fragment layout G Here n from c to P d e
  fragment_waits {from = from} {d1 = d1} {weight = weight} does le h =
      record { by = λ s matches here. follows_credit {d = suc weight + d1} {e = e} le (λ a. omega arith) (follows_waits (not_left-here from.memory.frames) (does s matches) (h.by s matches here)) }

  -- an instruction without a step, after which the machine matches the same state of the meaning in another memory
  pub fragment_goes : {n : ℕ} {from : Point} {place1 d d1 weight : ℕ} {operands1 : List Operand} {memory1 : MachineMemory}
      → ((s : meaning.State) → Matches layout G from.injection s from.memory → Here from.injection s from.memory → (outcome G (state_at from s.trace) ≡ record { weight = weight; to = Running 0 (at place1 operands1 memory1 s.trace) }) × Matches layout G from.injection s memory1 × Here from.injection s memory1)
      → StillRuns from.memory.frames memory1.frames → suc weight + d1 ≤ d
      → Fragment layout G Here n (point from.injection memory1 place1 operands1) c to P d1 e
      → Fragment layout G Here n from c to P d e
  fragment_goes {from = from} {d1 = d1} {weight = weight} does runs le h =
      record {
        by = λ s matches here.
            let next = does s matches here in
            follows_credit {d = suc weight + d1} {e = e} le (λ a. omega arith) (follows_waits (not_left-here from.memory.frames) next.0 (follows_wider (λ k same. not_left-later runs same) (h.by s next.1 next.2)));
      }

  -- an instruction with steps, which leaves memory as it is
  pub fragment_paid : {n : ℕ} {from : Point} {place1 d d1 weight w : ℕ} {operands1 : List Operand}
      → ((s : meaning.State) → Matches layout G from.injection s from.memory → outcome G (state_at from s.trace) ≡ record { weight = weight; to = Running 0 (at place1 operands1 from.memory s.trace) })
      → w ≤ 64 * weight + d → suc w + d1 ≤ 64 * suc weight + d → suc weight + d1 ≤ 64 * suc w + d
      → Fragment layout G Here n (point from.injection from.memory place1 operands1) c to P d1 e
      → Fragment layout G Here (suc n) from (spend (suc w) c) to P d e
  fragment_paid {from = from} does inside slow fast h =
      record { by = λ s matches here. follows_paid (not_left-here from.memory.frames) refl (does s matches) inside slow fast (h.by s matches here) }

  -- one instruction of one tick, with one step
  pub fragment_one : {n : ℕ} {from : Point} {place1 d d1 : ℕ} {operands1 : List Operand}
      → ((s : meaning.State) → Matches layout G from.injection s from.memory → outcome G (state_at from s.trace) ≡ record { weight = 0; to = Running 0 (at place1 operands1 from.memory s.trace) })
      → d1 ≤ d + 63
      → Fragment layout G Here n (point from.injection from.memory place1 operands1) c to P d1 e
      → Fragment layout G Here (suc n) from (spend 1 c) to P d e
  fragment_one {d = d} {d1 = d1} does le h =
      fragment_paid {d = d} {d1 = d1} {weight = 0} {w = 0} does (omega arith) (omega arith) (omega arith) h

  -- steps without an instruction, which cost their number
  pub fragment_moves : {n : ℕ} (w : ℕ) {from : Point} {d d1 : ℕ} → w + d1 ≤ d
      → Fragment layout G Here n from c to P d1 e
      → Fragment layout G Here (w + n) from (spend w c) to P d e
  fragment_moves w {from = from} {d1 = d1} le h =
      record { by = λ s matches here. follows_credit {d = w + d1} {e = e} le (λ a. omega arith) (follows_moves w (not_left-here from.memory.frames) refl (h.by s matches here)) }

  -- one step without an instruction
  pub fragment_move : {n : ℕ} {from : Point} {d d1 : ℕ} → 1 + d1 ≤ d
      → Fragment layout G Here n from c to P d1 e
      → Fragment layout G Here (suc n) from (spend 1 c) to P d e
  fragment_move {n = n} le h = fragment_less {n = 1 + n} (omega arith) (fragment_moves 1 le h)

-- nothing is left to do
pub fragment_give : {A : Type 0} {layout : Layout} {G : Image} {Here : Facts} {n : ℕ} {from : Point} {a : A} {P : A → After} {d : ℕ} {e : A → ℕ}
    → e a ≤ d → P a from.injection from.memory from.operands
    → Fragment layout G Here n from (give a) from.place P d e
fragment_give {from = from} {a = a} le h =
    record { by = λ s matches here. follows_give a le (record { injection = from.injection; memory = from.memory; operands = from.operands; is = refl; matches = matches; here = here; post = h }) }

-- no step is left
pub fragment_cut : {A : Type 0} {layout : Layout} {G : Image} {Here : Facts} {from : Point} {to : ℕ} {P : A → After} {d : ℕ} {e : A → ℕ}
    → Fragment layout G Here 0 from cut to P d e
fragment_cut {from = from} = record { by = λ s matches here. follows_cut (not_left-here from.memory.frames) refl }

-- an instruction that ends the run
pub fragment_stop : {A : Type 0} {layout : Layout} {G : Image} {Here : Facts} {n : ℕ} {from : Point} {to weight : ℕ} {x : meaning.End} {P : A → After} {d : ℕ} {e : A → ℕ}
    → ((s : meaning.State) → Matches layout G from.injection s from.memory → outcome G (state_at from s.trace) ≡ record { weight = weight; to = Stopped (end_of x) s.trace })
    → suc weight ≤ d → Fragment layout G Here n from (stop x) to P d e
fragment_stop {from = from} does le = record { by = λ s matches here. follows_stop (not_left-here from.memory.frames) (does s matches) le }

module _ {layout : Layout} {G : Image} {Here : Facts} {n : ℕ} {from : Point} {to weight : ℕ} {P : Unit {0} → After} {d : ℕ} {e : Unit {0} → ℕ} where
  -- an instruction that changes the state, with steps; what events it has come with its last tick
  pub fragment_effect : (w : ℕ) (f : meaning.State → meaning.State)
      → ((s : meaning.State) → Matches layout G from.injection s from.memory → Here from.injection s from.memory → Does layout G Here (state_at from s.trace) weight to (P tt) (f s))
      → w ≤ 64 * weight + d → suc w + e tt ≤ 64 * suc weight + d → suc weight + e tt ≤ 64 * suc w + d
      → Fragment layout G Here (suc n) from (spend (suc w) (change f)) to P d e
  fragment_effect w f does inside slow fast =
      record {
        by = λ s matches here.
            let x = does s matches here in
            follows_paid (not_left-here from.memory.frames) refl x.does inside slow fast (follows_changed {n = n} f {P = λ a. Lands layout G Here to (P a)} {d = e tt} {e = e} (omega arith) (landed x));
      }

  -- an instruction that changes the state, without a step
  pub fragment_change : (f : meaning.State → meaning.State)
      → ((s : meaning.State) → Matches layout G from.injection s from.memory → Here from.injection s from.memory → Does layout G Here (state_at from s.trace) weight to (P tt) (f s))
      → suc weight + e tt ≤ d → Fragment layout G Here n from (change f) to P d e
  fragment_change f does le =
      record {
        by = λ s matches here.
            let x = does s matches here in
            follows_credit {d = suc weight + e tt} {e = e} le (λ a. omega arith) (follows_waits (not_left-here from.memory.frames) x.does (follows_changed {n = n} f {P = λ a. Lands layout G Here to (P a)} {d = e tt} {e = e} (omega arith) (landed x)));
      }
