-- A routine keeps its promise where the machine follows what it does in its activation.
use Rattle.std.proofs.Common.{◌≡◌, ℕ, zero, suc, pos, ◌+◌, ◌≤◌, ◌<◌, ◌⊎◌, inl, inr, Bool, true, false, not, ◌||◌, cond, ltb, leb, nat_le, IsTrue, List, [], ◌∷◌, ◌++◌, Option, Some, None, length, length-append, drop, replicate, slice_get, refl, sym, ap, ◌∙◌, subst, arith, append_assoc}
use Rattle.std.proofs.lemmas.Bool.Decides.{nat_tests}
use Rattle.std.proofs.lemmas.Option.{slice_get_within}
use Rattle.std.proofs.Math.Seq.{take-append_seam, drop-append_seam}
use Rattle.ep_simulation.specs.Activations.{LevelMatches, MatchesAround, IsCallable, InActivation}
use Rattle.ep_object.specs.Operands.{weights}
use Rattle.ep_object.specs.Calls.{parent_by, top_of, call_limit, new_frame, called}
use Rattle.ep_object.specs.Frames.{level_slots}
use Rattle.ep_object.specs.Effects.{Jumps, Fails}
use Rattle.ep_simulation.specs.Follows.{Since, HasGrown, Follows, Fragment, Lands, Inside, IsStillCall, StillRuns, SameRoutine, IsNotLeft, Operands, TypeOnTop, point}
use Rattle.ep_simulation.specs.Layouts.{Layout}
use Rattle.ep_simulation.specs.Matching.{MachineMemory, Injection, Matches, Slots, every_slot, Grown, at, own_slot, Describes}
use Rattle.ep_object.specs.Operands.{Operand}
use Rattle.ep_simulation.specs.Promises.{CallsAt, ResultsOnTop, credit_of, type_credit}
use Rattle.ep_object.specs.Routines.{routine_of}
use Rattle.ep_object.specs.Runs.{outcome, outcome_of, after, unit_in}
use Rattle.ep_object.specs.State.{State, Frame, Frames, Running, Stopped, Error}
use Rattle.ep_object.specs.Table as table
use Rattle.ep_object.specs.Table.{op_of}
use Rattle.ep_object.specs.declared.code.Image.{Image}
use Rattle.ep_object.specs.declared.code.ImageRoutine.{ImageRoutine}
use Rattle.ep_object.specs.declared.code.Instr.{Instr}
use Rattle.ep_object.specs.declared.state.FrameNumber.{FrameNumber}
use Rattle.ep_object.specs.declared.state.FrameNumber.TheVariants as number
use Rattle.ep_object.specs.declared.state.Place.{Place}
use Rattle.ep_simulation.proofs.public.following.Bind.{EndsForWant, follows_wider}
use Rattle.ep_simulation.proofs.following.Calling.{follows_called}
use Rattle.ep_simulation.proofs.public.matching.Awaiting.{value_anywhere}
use Rattle.ep_simulation.proofs.matching.Changes.{matches_entered, matches_left}
use Rattle.ep_object.proofs.public.Elements.{slice_get-drop}
use Rattle.ep_simulation.proofs.matching.Endings.{without, ends_both}
use Rattle.ep_simulation.proofs.public.matching.MoreMemory.{grown_refl, grown_trans, not_left-here, not_left-still, same_call-refl, same_routine-refl, same_routine-trans, still_routine}
use Rattle.ep_simulation.proofs.matching.Levels.{parent_there, level_called}
use Rattle.ep_simulation.proofs.public.matching.Standing.{slice_get-some}
use Rattle.ep_object.proofs.public.Grows.{is_prefix}
use Rattle.ep_meaning.specs.Calls.{activation_words, made_in, back_in, entered, left_from, in_call, nested}
use Rattle.ep_meaning.specs.Meaning.{activation}
use Rattle.ep_values.specs.Events.{Trace}
use Rattle.ep_values.specs.Printing.{Result}
use Rattle.ep_meaning.specs.Steady.{Steady}
use Rattle.ep_meaning.specs.Steps.{Call, named_in, around_by, Resources, watched, Computation, spend, with_all_ended}
use Rattle.ep_meaning.specs.Steps as meaning
use Rattle.ep_values.specs.TypeValues.{TypeValue}
use Rattle.ep_meaning.specs.Valid.{Declarations, Level, variables_up, ValueKind}
use Rattle.ep_values.specs.declared.run_error.TheConstants as run_error
use Rattle.ep_typed.specs.declared.unit.UnitType.{UnitType}

-- ---- frames

-- while a call runs that the routine made, the routine is not left
pub not_left-called : (before f : Frames) (c : Frame) → IsNotLeft (record before { calls = c ∷ before.calls }) f → IsNotLeft before f
not_left-called before f c h = go h.own h.is h.runs
  where
    go : (own : List Frame) → f.calls ≡ h.over ++ own → StillRuns (record before { calls = c ∷ before.calls }) (record f { calls = own }) → IsNotLeft before f
    go [] is runs = absurd runs.calls
    go (d ∷ later) is runs =
        let below : later ≡ before.calls = runs.calls.3 in
        record {
          over = h.over ++ d ∷ [];
          own = before.calls;
          is = is ∙ (ap (λ l. h.over ++ d ∷ l) below ∙ sym (append_assoc h.over (d ∷ []) before.calls));
          runs = record { turn = runs.turn; routine = runs.routine; unit = runs.unit; calls = still_refl before.calls };
        }
      where
        still_refl : (calls : List Frame) → IsStillCall calls calls
        still_refl [] = tt
        still_refl (x ∷ calls) = (refl, refl, refl, refl)

-- ---- the instruction that leaves the routine

-- memory once the innermost call is left, in which these segments were made
abbrev pub left_memory : List ℕ → List Frame → MachineMemory → MachineMemory
left_memory made below memory = record (without made memory) { frames = record memory.frames { calls = below } }

pub leaves : (G : Image) (ret : ℕ) (i : Instr) (st : List Operand) (memory : MachineMemory) (trace : Trace) (frame : Frame) (below : List Frame)
    → slice_get G.instructions ret ≡ Some i → op_of i.op ≡ Some table.Return → i.a ≡ pos 0 → i.b ≡ 0
    → memory.frames.calls ≡ frame ∷ below
    → outcome G (at ret st memory trace) ≡ record { weight = 0; to = Running 0 (at frame.back st (left_memory frame.made below memory) trace) }
leaves G ret i st memory trace frame below has is a b frames =
    ap (λ o. outcome_of G o (at ret st memory trace)) has ∙ rw (is, a, b, frames) refl

-- results lie on the operands in whatever memory has the same types
results_anywhere : (injection : Injection) (memory later : MachineMemory) → later.types ≡ memory.types → (operands : List Operand) (ks : List ValueKind) (below : List Operand) (rs : List Result)
    → ResultsOnTop ks below rs injection memory operands → ResultsOnTop ks below rs injection later operands
results_anywhere injection memory later same operands [] below [] h = h
results_anywhere injection memory later same operands [] below (r ∷ rs) h = absurd h
results_anywhere injection memory later same operands (k ∷ ks) below [] h = absurd h
results_anywhere injection memory later same operands (k ∷ ks) below (r ∷ rs) (o, is, rest) =
    (o, value_anywhere injection memory later same k r o is, results_anywhere injection memory later same operands ks (o ∷ below) rs rest)

-- ---- a call

-- each slot of a new frame holds no place yet
none_yet : (n k : ℕ) → k < n → slice_get {X = Option Place} (replicate n None) k ≡ Some None
none_yet zero k h = absurd (omega (arith, h))
none_yet (suc n) zero h = refl
none_yet (suc n) (suc k) h = none_yet n k (omega (arith, h))

-- what is counted once so many words are set aside for a call
abbrev set_aside : ℕ → Resources → Resources
set_aside words r = watched (record r { reserved = r.reserved + words })

-- more calls than every run has room for
pub lost_calls : (depth : ℕ) (r : Resources) → 9000 < depth → IsTrue (nested depth r).lost
lost_calls depth r deep = let full : nat_le depth 9000 ≡ false = grind (arith, nat_tests) in go r.lost full
  where
    go : (lost : Bool) → nat_le depth 9000 ≡ false → IsTrue (lost || not (nat_le depth 9000))
    go true e = refl
    go false e = rw e refl

module _ (layout : Layout) (G : Image) (routine : ℕ) (r : ImageRoutine) (there : routine_of G routine ≡ Some r) (numbered : routine < length G.routines) (top : List Operand) (taken : length top ≡ r.arguments) (weight : ℕ) (weighs : weights top ≡ weight) where
  -- the frame of a call that was made at a place, with this parent and these arguments
  abbrev pub its_frame : FrameNumber → ℕ → Frame
  its_frame parent place = new_frame routine r parent (place + 1) top

  -- memory when the routine begins
  abbrev pub begun_memory : FrameNumber → ℕ → MachineMemory → MachineMemory
  begun_memory parent place memory = record memory { frames = record memory.frames { calls = its_frame parent place ∷ memory.frames.calls } }

  -- the operands of the arguments are taken from those below
  top_taken : (below : List Operand) → top_of r.arguments (top ++ below) ≡ Some (top, below)
  top_taken below =
      let enough : leb (length top) (length (top ++ below)) ≡ true = grind (arith, nat_tests, length-append top below) in
      ap (λ n. top_of n (top ++ below)) (sym taken) ∙ (rw enough refl ∙ (ap (λ l. Some (l, drop (length top) (top ++ below))) (take-append_seam top below) ∙ ap (λ l. Some (top, l)) (drop-append_seam top below)))

  called_at : (place levels line : ℕ) (parent : FrameNumber) (below : List Operand) (memory : MachineMemory) (trace : Trace) → (calls : CallsAt G place routine levels line)
      → parent_by memory.frames r levels ≡ Some parent
      → outcome G (at place (top ++ below) memory trace)
      ≡ record { weight = weight; to = after G calls.instruction (at place (top ++ below) memory trace) (cond (ltb (length memory.frames.calls) call_limit) (Jumps r.entry (called routine r parent top below (at place (top ++ below) memory trace))) (Fails run_error.CALL_DEPTH)) }
  called_at place levels line parent below memory trace calls is =
      let fits : ltb routine (length G.routines) ≡ true = grind (arith, nat_tests, numbered) in
      ap (λ o. outcome_of G o (at place (top ++ below) memory trace)) calls.stands
      ∙ rw (calls.is_call, calls.names, calls.parent, fits, there, is, top_taken below, weighs) refl

  -- memory has not grown by it
  pub grown_begun : {untouched : Slots} (parent : FrameNumber) (place : ℕ) (injection : Injection) (memory : MachineMemory)
      → Grown untouched injection memory injection (begun_memory parent place memory)
  grown_begun {untouched = untouched} parent place injection memory =
      let g = grown_refl {untouched = untouched} injection memory in
      record { larger = g.larger; types = g.types; segments = g.segments; hidden = g.hidden; others = g.others; allocated = g.allocated; slots = g.slots; typed = g.typed; ended = g.ended }

  -- the call is under way on both sides
  matches_begun : {injection : Injection} {s : meaning.State} {memory : MachineMemory} (parent : FrameNumber) (place words levels : ℕ) (x : Call)
      → Matches layout G injection s memory → Matches layout G injection (entered words levels x s) (begun_memory parent place memory)
  matches_begun parent place words levels x h =
      let m = matches_entered words levels x h in
      record { injected = m.injected; store = m.store; types = m.types; units = m.units; outside = m.outside; counts = m.counts; depth = omega (arith, h.depth) }

  -- the machine enters the routine, or ends where as many calls are under way as may be
  enters : (words place levels line : ℕ) (parent : FrameNumber) (below : List Operand) (memory : MachineMemory) (injection : Injection) (s : meaning.State) (x : Call)
      → CallsAt G place routine levels line → parent_by memory.frames r levels ≡ Some parent → Matches layout G injection s memory
      → (outcome G (at place (top ++ below) memory s.trace) ≡ record { weight = weight; to = Running 0 (at r.entry below (begun_memory parent place memory) s.trace) })
      ⊎ EndsForWant G (at place (top ++ below) memory s.trace) weight (entered words levels x s)
  enters words place levels line parent below memory injection s x calls is h = by_test (ltb (length memory.frames.calls) call_limit) refl
    where
      by_test : (b : Bool) → ltb (length memory.frames.calls) call_limit ≡ b
          → (outcome G (at place (top ++ below) memory s.trace) ≡ record { weight = weight; to = Running 0 (at r.entry below (begun_memory parent place memory) s.trace) })
          ⊎ EndsForWant G (at place (top ++ below) memory s.trace) weight (entered words levels x s)
      by_test true e = inl (called_at place levels line parent below memory s.trace calls is ∙ rw e refl)
      by_test false e =
          let full : 10000 ≤ length memory.frames.calls = grind (arith, nat_tests, e) in
          let stops : outcome G (at place (top ++ below) memory s.trace) ≡ record { weight = weight; to = Stopped (Error run_error.CALL_DEPTH (unit_in G memory.frames) calls.instruction.line) s.trace }
          = called_at place levels line parent below memory s.trace calls is ∙ rw e refl in
          inr (record { lost = lost_calls (suc (length s.calls)) (set_aside words s.resources) (omega (arith, full, h.depth)); number = run_error.CALL_DEPTH; is_limit = inr refl; unit = unit_in G memory.frames; line = calls.instruction.line; trace = s.trace; ends = stops; begins = is_prefix s.trace })

  -- the parent that a call finds in the activation that makes it
  pub parent_of_call : (types : List UnitType) (levels : ℕ) (around : List Level) (injection : Injection) (calls : List Call) (memory : MachineMemory)
      → IsCallable types levels around injection calls memory → (p : FrameNumber) × (parent_by memory.frames r levels ≡ Some p)
  parent_of_call types zero around injection calls memory h = (number.Unit r.unit, refl)
  parent_of_call types (suc up) around injection calls memory (some, h) =
      let first = slice_get-some around 0 some in
      let l = h 0 first.0 first.1 in
      parent_there memory.frames r up l.slots (subst (λ n. level_slots memory.frames.calls n ≡ Some l.slots) {x = up + 0} {y = up} (omega arith) l.are)

  -- what it then has around it
  around_begun : (words : ℕ) (types : List UnitType) (levels : ℕ) (around : List Level) (injection : Injection) (s : meaning.State) (memory : MachineMemory) (x : Call) (place : ℕ) (parent : FrameNumber)
      → parent_by memory.frames r levels ≡ Some parent → IsCallable types levels around injection s.calls memory
      → (n : ℕ) (level : Level) → slice_get around n ≡ Some level → LevelMatches types level injection (entered words levels x s).calls (begun_memory parent place memory) (suc n)
  around_begun words types zero around injection s memory x place parent is h n level at = absurd (let none : slice_get {X = Level} [] n ≡ Some level = ap (λ l. slice_get l n) (sym h) ∙ at in cc)
  around_begun words types (suc up) around injection s memory x place parent is (some, h) n level at =
      let first = slice_get-some around 0 some in
      let base = h 0 first.0 first.1 in
      let base_are : level_slots memory.frames.calls up ≡ Some base.slots = subst (λ k. level_slots memory.frames.calls k ≡ Some base.slots) {x = up + 0} {y = up} (omega arith) base.are in
      let l = h n level at in
      record {
        slots = l.slots;
        are = level_called memory.frames r up n parent base.slots l.slots (its_frame parent place) is refl base_are l.are;
        variables = l.variables;
        named = slice_get-drop (named_in s.calls) up n ∙ l.named;
        holds = λ k v e. let y = l.holds k v e in record { slot = y.slot; is = y.is; matches = y.matches; described = y.described };
      }

  -- What the routine knows when it begins: nothing is made yet.
  begins : {untouched : Slots} (words : ℕ) (within : Declarations) → length (variables_up within 0) ≤ r.slots → (place levels : ℕ) (parent : FrameNumber) (injection : Injection) (s : meaning.State) (memory : MachineMemory) (name from : List ℕ) (line : ℕ)
      → MatchesAround within injection (entered words levels (activation name from line) s) (begun_memory parent place memory)
      → InActivation within untouched injection (begun_memory parent place memory) injection (entered words levels (activation name from line) s) (begun_memory parent place memory)
  begins words within enough place levels parent injection s memory name from line around =
      record {
        grown = grown_refl injection (begun_memory parent place memory);
        runs = still_routine (same_routine-refl {untouched = every_slot} (begun_memory parent place memory).frames);
        frame = its_frame parent place;
        below = memory.frames.calls;
        frames = refl;
        call = record (activation name from line) { around = around_by levels s.calls };
        others = s.calls;
        calls = refl;
        own = λ k v is.
            let inside : k < r.slots = (let w : k < length (variables_up within 0) = slice_get_within (variables_up within 0) k v is in omega (arith, w, enough)) in
            record { slot = None; is = none_yet r.slots k inside; matches = tt; described = λ p t e. cc };
        around = around;
        made = tt;
      }

  module _ (ret : ℕ) (i : Instr) (stands : slice_get G.instructions ret ≡ Some i) (returns : op_of i.op ≡ Some table.Return) (a_is : i.a ≡ pos 0) (b_is : i.b ≡ 0) where
    -- what the instruction that leaves the routine leads to, which leaves the operands as they are
    record GoesBack (untouched : Slots) (injection : Injection) (s t : meaning.State) (memory : MachineMemory) (place : ℕ)
        (operands : List Operand) (longer : Injection) (after : MachineMemory) : Type 0 where
      later : MachineMemory
      types : later.types ≡ after.types
      does : outcome G (at ret operands after t.trace) ≡ record { weight = 0; to = Running 0 (at (place + 1) operands later t.trace) }
      grown : Grown untouched injection memory longer later
      same : SameRoutine untouched memory.frames later.frames
      own : (k : ℕ) → own_slot later.frames k ≡ own_slot memory.frames k
      matches : Matches layout G longer (left_from s t) later

    -- what was made in the call ends on both sides, and the caller goes on
    goes_back : {untouched : Slots} {injection longer : Injection} {s t : meaning.State} {memory after : MachineMemory} (within : Declarations) (parent : FrameNumber) (place : ℕ) (operands : List Operand)
        → Matches layout G injection s memory → Matches layout G longer t after
        → InActivation within untouched injection (begun_memory parent place memory) longer t after
        → GoesBack untouched injection s t memory place operands longer after
    goes_back {untouched = untouched} {injection = injection} {longer = longer} {s = s} {t = t} {memory = memory} {after = after} within parent place operands old h known =
        let frame = known.frame in
        let runs = known.runs in
        let still : IsStillCall (its_frame parent place ∷ memory.frames.calls) (frame ∷ known.below) = subst (λ cs. IsStillCall (its_frame parent place ∷ memory.frames.calls) cs) known.frames runs.calls in
        let later : MachineMemory = left_memory frame.made memory.frames.calls after in
        let ends = ends_both (known.call).made frame.made t after known.made h in
        let m = ends.matches in
        let gone = grown_trans known.grown (ends.grown untouched) in
        let grown : Grown untouched injection memory longer later = record { larger = gone.larger; types = gone.types; segments = gone.segments; hidden = gone.hidden; others = gone.others; allocated = gone.allocated; slots = gone.slots; typed = gone.typed; ended = gone.ended } in
        let under : Matches layout G longer (with_all_ended (known.call).made t) later = record { injected = m.injected; store = m.store; types = m.types; units = m.units; outside = m.outside; counts = m.counts; depth = omega (arith, h.depth, ap length known.frames, ap length still.3) } in
        let made : made_in t.calls ≡ (known.call).made = ap (λ cs. made_in cs) known.calls in
        record {
          later = later;
          types = refl;
          does = leaves G ret i operands after t.trace frame known.below stands returns a_is b_is known.frames
              ∙ (ap (λ q. record { weight = 0; to = Running 0 (at q operands (left_memory frame.made known.below after) t.trace) }) still.2
              ∙ ap (λ cs. record { weight = 0; to = Running 0 (at (place + 1) operands (left_memory frame.made cs after) t.trace) }) still.3);
          grown = grown;
          same = record { turn = runs.turn; routine = runs.routine; unit = runs.unit; calls = same_call-refl memory.frames.calls; slots = λ k kept. refl };
          own = λ k. refl;
          matches = subst (λ ns. Matches layout G longer (back_in s (with_all_ended ns t)) later) (sym made) (matches_left grown old old.depth under);
        }

    -- Where the machine follows the routine up to its `Return`, where this holds of the operands, in any activation of it and
    -- with the credit of its call, it follows a call as a whole. What holds there depends on nothing of memory but its types.
    pub routine_gives : {A : Type 0} (words : ℕ) (within : Declarations) → length (variables_up within 0) ≤ r.slots
        → (around : List Level) → ((n : ℕ) → slice_get within.levels (suc n) ≡ slice_get around n)
        → (n : ℕ) (place levels line : ℕ) → CallsAt G place routine levels line
        → (parent : FrameNumber) (injection : Injection) (began : meaning.State) (memory : MachineMemory) (below : List Operand)
        → parent_by memory.frames r levels ≡ Some parent → IsCallable within.types levels around injection began.calls memory
        → (name from : List ℕ) (body : Computation A) → Steady body → (untouched : Slots) (Then : A → Operands) (credit : A → ℕ)
        → ((a : A) (longer : Injection) (after later : MachineMemory) (operands : List Operand) → later.types ≡ after.types → Then a longer after operands → Then a longer later operands)
        → Fragment layout G (InActivation within untouched injection (begun_memory parent place memory)) n (point injection (begun_memory parent place memory) r.entry below) body ret Then 63 (λ a. 1 + credit a)
        → Fragment layout G (Since untouched injection began memory) (suc n) (point injection memory place (top ++ below)) (in_call words levels (activation name from line) (spend (suc weight) body)) (place + 1) (λ a. Inside untouched injection memory (Then a)) 0 credit
    routine_gives {A = A} words within enough around levels_are n place levels line calls parent injection began memory below parent_is callable name from body steady untouched Then credit anywhere inner =
        record {
          by = λ s matches since.
              let here : IsCallable within.types levels around injection s.calls memory = subst (λ cs. IsCallable within.types levels around injection cs memory) (sym since.calls) callable in
              let known : MatchesAround within injection (entered words levels x s) (begun_memory parent place memory) = (λ n level at. around_begun words within.types levels around injection s memory x place parent parent_is here n level (sym (levels_are n) ∙ at)) in
              let ran = inner.by (entered words levels x s) (matches_begun parent place words levels x matches) (begins words within enough place levels parent injection s memory name from line known) in
              follows_called words levels x {P = P} {Q = Q} {e = credit} (not_left-here memory.frames) refl steady (go s matches (enters words place levels line parent below memory injection s x calls parent_is matches) (follows_wider (λ k. not_left-called memory.frames k.frames (its_frame parent place)) ran))
              (λ a s1 k1 post. back s matches since a s1 k1 post);
        }
      where
        x : Call
        x = activation name from line

        P : A → meaning.State → State → Type 0
        P a = Lands layout G (InActivation within untouched injection (begun_memory parent place memory)) ret (Then a)

        Q : A → meaning.State → State → Type 0
        Q a = Lands layout G (Since untouched injection began memory) (place + 1) (Inside untouched injection memory (Then a))

        In : State → Type 0
        In k = IsNotLeft memory.frames k.frames

        entry : meaning.State → State
        entry s = at r.entry below (begun_memory parent place memory) s.trace

        go : (s : meaning.State) → Matches layout G injection s memory
            → (outcome G (at place (top ++ below) memory s.trace) ≡ record { weight = weight; to = Running 0 (entry s) }) ⊎ EndsForWant G (at place (top ++ below) memory s.trace) weight (entered words levels x s)
            → Follows In G n (entry s) (entered words levels x s) body P 63 (λ a. 1 + credit a)
            → ((e : State) × (outcome G (at place (top ++ below) memory s.trace) ≡ record { weight = weight; to = Running 0 e }) × Follows In G n e (entered words levels x s) body P 63 (λ a. 1 + credit a)) ⊎ EndsForWant G (at place (top ++ below) memory s.trace) weight (entered words levels x s)
        go s matches (inl o) f = inl (entry s, o, f)
        go s matches (inr y) f = inr y

        back : (s : meaning.State) → Matches layout G injection s memory → HasGrown untouched injection began memory injection s memory
            → (a : A) (s1 : meaning.State) (k1 : State) → P a s1 k1
            → In k1 × ((next : State) × (outcome G k1 ≡ record { weight = 0; to = Running 0 next }) × Q a (left_from s s1) next)
        back s matches since a s1 k1 lands =
            let known = lands.here in
            let out = goes_back within parent place lands.operands matches lands.matches known in (
              subst (λ (k : State). In k) (sym lands.is) (not_left-called memory.frames lands.memory.frames (its_frame parent place) (not_left-still known.runs)),
              (
                at (place + 1) lands.operands out.later s1.trace,
                ap (λ k. outcome G k) lands.is ∙ out.does,
                record {
                  injection = lands.injection;
                  memory = out.later;
                  operands = lands.operands;
                  is = refl;
                  matches = out.matches;
                  here = record { grown = grown_trans since.grown out.grown; routine = same_routine-trans since.routine out.same; own = λ k. out.own k ∙ since.own k; calls = since.calls };
                  post = record { grown = out.grown; routine = out.same; operands_are = anywhere a lands.injection lands.memory out.later lands.operands out.types lands.post };
                },
              ),
            )

    -- the same where results are on the operands
    pub routine_keeps : (within : Declarations) → length (variables_up within 0) ≤ r.slots
        → (around : List Level) → ((n : ℕ) → slice_get within.levels (suc n) ≡ slice_get around n)
        → (n : ℕ) (place levels line : ℕ) → CallsAt G place routine levels line
        → (parent : FrameNumber) (injection : Injection) (began : meaning.State) (memory : MachineMemory) (below : List Operand)
        → parent_by memory.frames r levels ≡ Some parent → IsCallable within.types levels around injection began.calls memory
        → (name from : List ℕ) (results : List ValueKind) (body : Computation (List Result)) → Steady body → (untouched : Slots)
        → Fragment layout G (InActivation within untouched injection (begun_memory parent place memory)) n (point injection (begun_memory parent place memory) r.entry below) body ret (λ rs. ResultsOnTop results below rs) 63 (λ rs. 1 + credit_of rs)
        → Fragment layout G (Since untouched injection began memory) (suc n) (point injection memory place (top ++ below)) (in_call activation_words levels (activation name from line) (spend (suc weight) body)) (place + 1) (λ rs. Inside untouched injection memory (ResultsOnTop results below rs)) 0 credit_of
    routine_keeps within enough around levels_are n place levels line calls parent injection began memory below parent_is callable name from results body steady untouched inner =
        routine_gives activation_words within enough around levels_are n place levels line calls parent injection began memory below parent_is callable name from body steady untouched (λ rs. ResultsOnTop results below rs) credit_of
        (λ rs longer after later operands same h. results_anywhere longer after later same operands results below rs h) inner

    -- and where the number of a type is
    pub type_keeps : (within : Declarations) → length (variables_up within 0) ≤ r.slots
        → ((n : ℕ) → slice_get {X = Level} within.levels (suc n) ≡ slice_get {X = Level} [] n)
        → (n : ℕ) (place line : ℕ) → CallsAt G place routine 0 line
        → (injection : Injection) (began : meaning.State) (memory : MachineMemory) (below : List Operand)
        → (name from : List ℕ) (t : TypeValue) (body : Computation TypeValue) → Steady body → (untouched : Slots)
        → Fragment layout G (InActivation within untouched injection (begun_memory (number.Unit r.unit) place memory)) n (point injection (begun_memory (number.Unit r.unit) place memory) r.entry below) body ret (λ a. TypeOnTop t below a) 63 (λ a. 1 + type_credit)
        → Fragment layout G (Since untouched injection began memory) (suc n) (point injection memory place (top ++ below)) (in_call 0 0 (activation name from line) (spend (suc weight) body)) (place + 1) (λ a. Inside untouched injection memory (TypeOnTop t below a)) 0 (λ a. type_credit)
    type_keeps within enough levels_are n place line calls injection began memory below name from t body steady untouched inner =
        routine_gives 0 within enough [] levels_are n place 0 line calls (number.Unit r.unit) injection began memory below refl refl name from body steady untouched (λ a. TypeOnTop t below a) (λ a. type_credit)
        (λ a longer after later operands same h. record { type_is = h.type_is; number = h.number; is = h.is; described = subst (λ table. Describes table h.number a) (sym same) h.described; starts = h.starts }) inner
