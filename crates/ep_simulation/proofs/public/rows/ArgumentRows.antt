-- How a routine takes its arguments, in its activation: `Arg`, then `Store` or `Bind`.
use Rattle.std.proofs.Common.{◌≡◌, ℕ, pos, suc, ◌+◌, ◌-◌, ◌*◌, ◌≤◌, ◌<◌, Bool, true, false, List, [], ◌∷◌, length, Option, Some, None, slice_get, slice_set, refl, sym, ap, ◌∙◌, subst, arith}
use Rattle.std.specs.Prelude.{if◌then◌else◌, option_map}
use Rattle.std.proofs.lemmas.Bool.{lt-ltb}
use Rattle.std.proofs.lemmas.Option.{slice_get_within, same_Some}
use native.Mathlib.Decide.{ℕ_discrete}
use Rattle.ep_simulation.specs.Activations.{OwnSlot, AreMade, InActivation}
use Rattle.ep_object.specs.Calls.{argument_at}
use Rattle.ep_simulation.specs.Follows.{Facts, After, point, Follows, Fragment, Lasts, IsSameCall, IsStillCall, StillRuns, IsNotLeft, Lands}
use Rattle.ep_simulation.specs.Layouts.{Layout}
use Rattle.ep_simulation.specs.Matching.{MachineMemory, at, Injection, IsIn, IsRepresentedWhere, IsLike, IsSpot, Slots, own_slot, slot_of_frame, MatchesSlot, HasOwnType, Matches, Grown}
use Rattle.ep_simulation.proofs.public.matching.BareValues.{suits_bare}
use Rattle.ep_simulation.proofs.matching.NewSegments.{new_segment}
use Rattle.ep_object.specs.Operands.{Operand, weight}
use Rattle.ep_object.specs.Operands as operand
use Rattle.ep_object.specs.Frames.{slots_over}
use Rattle.ep_object.specs.Runs.{outcome, unit_in}
use Rattle.ep_object.specs.State.{Frame, Running, Stopped, Error}
use Rattle.ep_object.specs.declared.code.Image.{Image}
use Rattle.ep_object.specs.declared.state.Place.{Place}
use Rattle.ep_object.specs.declared.state.Segment.{Segment}
use Rattle.ep_simulation.proofs.public.following.Bind.{follows_waits, follows_paid, follows_changed, follows_stop, follows_credit}
use Rattle.ep_simulation.proofs.public.following.Fragments.{fragment_goes, fragment_waits, fragment_from}
use Rattle.ep_simulation.proofs.public.matching.Awaiting.{arguments_in, value_anywhere, value_weight, without_argument}
use Rattle.ep_object.proofs.public.Elements.{slice_get-set-same, slice_get-set-other}
use Rattle.ep_simulation.proofs.public.matching.MoreMemory.{grown_refl, grown_trans, not_left-here, still_runs-trans, still_routine, unit_in-still}
use Rattle.ep_simulation.proofs.matching.Levels.{level-same}
use Rattle.ep_simulation.proofs.public.matching.OwnVariables.{bound_own-same, bound_own-other}
use Rattle.ep_simulation.proofs.public.matching.Standing.{slice_get-some, one_type_of, allocated}
use Rattle.ep_simulation.proofs.public.rows.ChangeRows.{may_take, value_does, value_fails, variable_type}
use Rattle.ep_simulation.proofs.rows.FrameRows.{own_slots, slot_pushes}
use Rattle.ep_simulation.proofs.public.rows.Rows.{instr, outcome_at}
use Rattle.ep_values.specs.Events.{Trace}
use Rattle.ep_simulation.specs.Promises.{IsValueOf}
use Rattle.ep_meaning.specs.Meaning.{initialized}
use Rattle.ep_values.specs.Printing.{Result}
use Rattle.ep_meaning.specs.Results.{misfit, suits, value_of, weight_of}
use Rattle.ep_meaning.specs.Steps.{Component, whole, named_in, Allocation, Computation, spend, change, stop, own_in, own_variable, bound_own, own_bound_in, with_own_bound, newest_assigned, type_at, has_ended, ended_in}
use Rattle.ep_meaning.specs.Steps as meaning
use Rattle.ep_meaning.specs.Valid.{Declarations, IsTypeOfKind, ValueKind, variables_up}
use Rattle.ep_typed.specs.declared.unit.UnitVariable.{UnitVariable}
use Rattle.ep_values.specs.TypeValues.{TypeValue, bare_of}
use Rattle.ep_object.specs.declared.op.TheConstants as op

-- ---- memory in which the innermost call is another one

-- the frames with this one over these
abbrev pub with_innermost : Frame → List Frame → MachineMemory → MachineMemory
with_innermost frame others memory = record memory { frames = record memory.frames { calls = frame ∷ others } }

-- the frame without an argument
abbrev pub taken_from : ℕ → Frame → Frame
taken_from k frame = record frame { arguments = without_argument k frame.arguments }

-- the frame with a place in a slot
abbrev pub with_slot : ℕ → Place → Frame → Frame
with_slot k p frame = record frame { slots = slice_set frame.slots k (Some p) }

-- memory has not grown by it
pub grown_innermost : {untouched : Slots} (injection : Injection) (memory : MachineMemory) (frame : Frame) (others : List Frame)
    → Grown untouched injection memory injection (with_innermost frame others memory)
grown_innermost {untouched = untouched} injection memory frame others =
    let g = grown_refl {untouched = untouched} injection memory in
    record { larger = g.larger; types = g.types; segments = g.segments; hidden = g.hidden; others = g.others; allocated = g.allocated; slots = g.slots; typed = g.typed; ended = g.ended }

-- what a step of a routine that takes its arguments leaves: memory has grown, the routine still runs, these arguments are
-- left, and the operands are these
pub record Taken (untouched : Slots) (injection : Injection) (before : MachineMemory) (left : List (Option Operand)) (below : List Operand)
    (longer : Injection) (after : MachineMemory) (operands : List Operand) : Type 0 where
  pub grown : Grown untouched injection before longer after
  pub runs : StillRuns before.frames after.frames
  pub left_are : arguments_in after.frames.calls ≡ left
  pub operands_are : operands ≡ below

-- after a later memory and after an earlier one
pub taken-later : {untouched : Slots} {injection longer : Injection} {before memory : MachineMemory} {left : List (Option Operand)} {below : List Operand}
    → Grown untouched injection before longer memory → StillRuns before.frames memory.frames → (last : Injection) (after : MachineMemory) (operands : List Operand)
    → Taken untouched longer memory left below last after operands → Taken untouched injection before left below last after operands
taken-later grown runs last after operands h = record { grown = grown_trans grown h.grown; runs = still_runs-trans runs h.runs; left_are = h.left_are; operands_are = h.operands_are }

module _ (declared : Declarations) (layout : Layout) (G : Image) (untouched : Slots) (first : Injection) (start : MachineMemory) (place line k : ℕ) (below : List Operand) (injection : Injection) (memory : MachineMemory) (frame : Frame) (others : List Frame) (frames : memory.frames.calls ≡ frame ∷ others) where
  -- the routine still runs
  runs_innermost : (other : Frame) → other.routine ≡ frame.routine → other.parent ≡ frame.parent → other.back ≡ frame.back → StillRuns memory.frames (with_innermost other others memory).frames
  runs_innermost other routine parent back = record { turn = refl; routine = refl; unit = refl; calls = subst (λ cs. IsStillCall cs (other ∷ others)) (sym frames) (routine, parent, back, refl) }

  -- the same state of the meaning is matched
  matches_innermost : (other : Frame) (s : meaning.State) → Matches layout G injection s memory → Matches layout G injection s (with_innermost other others memory)
  matches_innermost other s h =
      record { injected = h.injected; store = h.store; types = h.types; units = h.units; outside = h.outside; counts = h.counts; depth = omega (arith, h.depth, ap length frames) }

  -- ---- `Arg`

  -- `Arg` of an argument of a weight
  arg_outcome : (st : List Operand) (o : Operand) (w : ℕ) (trace : Trace) → slice_get G.instructions place ≡ Some (instr op.ARG (pos k) 0 line)
      → argument_at frame.arguments k ≡ Some o → k < length frame.arguments → weight o ≡ w
      → outcome G (at place st memory trace) ≡ record { weight = w; to = Running 0 (at (place + 1) (o ∷ st) (with_innermost (taken_from k frame) others memory) trace) }
  arg_outcome st o w trace has there within weighs =
      outcome_at G (instr op.ARG (pos k) 0 line) place st memory trace has ∙ rw (frames, lt-ltb k (length frame.arguments) within, there, weighs) refl

  -- what the routine knows it knows without the argument
  knows_taken : (s : meaning.State) → InActivation declared untouched first start injection s memory → InActivation declared untouched first start injection s (with_innermost (taken_from k frame) others memory)
  knows_taken s h =
      let same : h.frame ∷ h.below ≡ frame ∷ others = sym h.frames ∙ frames in
      record {
        grown = grown_trans h.grown (grown_innermost injection memory (taken_from k frame) others);
        runs = still_runs-trans h.runs (runs_innermost (taken_from k frame) refl refl refl);
        frame = taken_from k frame;
        below = others;
        frames = refl;
        call = h.call;
        others = h.others;
        calls = h.calls;
        own = λ j v is.
            let old = h.own j v is in
            record { slot = old.slot; is = sym (ap (λ cs. slot_of_frame (slots_over cs None) j) frames) ∙ old.is; matches = old.matches; described = old.described };
        around = λ up level is. level-same {untouched = untouched} frame (taken_from k frame) others up frames refl refl refl (grown_innermost injection memory (taken_from k frame) others) (h.around up level is);
        made = subst (λ (f : Frame). AreMade injection (h.call).made f.made) (first_of same) h.made;
      }
    where
      first_of : {x y : Frame} {xs ys : List Frame} → x ∷ xs ≡ y ∷ ys → x ≡ y
      first_of e = cc

  -- ---- a variable that is given

  -- `Bind` of a place
  pub bind_outcome : (p : Place) (trace : Trace) → slice_get G.instructions place ≡ Some (instr op.BIND (pos k) 0 line) → k < length frame.slots
      → outcome G (at place (operand.Place p ∷ below) memory trace) ≡ record { weight = 0; to = Running 0 (at (place + 1) below (with_innermost (with_slot k p frame) others memory) trace) }
  bind_outcome p trace has within =
      outcome_at G (instr op.BIND (pos k) 0 line) place (operand.Place p ∷ below) memory trace has ∙ rw (frames, lt-ltb k (length frame.slots) within) refl

  -- the variable of the routine is the allocation at the place
  pub knows_bound : (s : meaning.State) (n : Component) (p : Place) (t : TypeValue) → InActivation declared untouched first start injection s memory → k < length frame.slots
      → IsSpot injection memory.types n p → IsLike memory.types p.type_number t
      → ((v : UnitVariable) → slice_get (variables_up declared 0) k ≡ Some v → HasOwnType declared v t)
      → InActivation declared untouched first start injection (with_own_bound k n s) (with_innermost (with_slot k p frame) others memory)
  knows_bound s n p t h within spot described declared_so =
      let same : h.frame ∷ h.below ≡ frame ∷ others = sym h.frames ∙ frames in
      record {
        grown = grown_trans h.grown (grown_innermost injection memory (with_slot k p frame) others);
        runs = still_runs-trans h.runs (runs_innermost (with_slot k p frame) refl refl refl);
        frame = with_slot k p frame;
        below = others;
        frames = refl;
        call = record h.call { variables = bound_own k n (h.call).variables };
        others = h.others;
        calls = ap (λ cs. own_bound_in k n cs) h.calls;
        own = λ j v is. elim (ℕ_discrete k j) [ yes e ↦ same_slot j v is e | no e ↦ other_slot j v is e (h.own j v is) ];
        around = λ up level is. level-same {untouched = untouched} frame (with_slot k p frame) others up frames refl refl
            (ap (λ cs. slice_get (named_in (own_bound_in k n cs)) (suc up)) h.calls ∙ sym (ap (λ cs. slice_get (named_in cs) (suc up)) h.calls)) (grown_innermost injection memory (with_slot k p frame) others) (h.around up level is);
        made = subst (λ (f : Frame). AreMade injection (h.call).made f.made) (first_of same) h.made;
      }
    where
      later : MachineMemory
      later = with_innermost (with_slot k p frame) others memory

      first_of : {x y : Frame} {xs ys : List Frame} → x ∷ xs ≡ y ∷ ys → x ≡ y
      first_of e = cc

      bound_to : (i : ℕ) (o : Option Component) → bound_own k n (h.call).variables i ≡ o → own_variable 0 i (with_own_bound k n s) ≡ o
      bound_to i o e = ap (λ cs. own_in (own_bound_in k n cs) 0 i) h.calls ∙ e

      same_slot : (j : ℕ) (v : UnitVariable) → slice_get (variables_up declared 0) j ≡ Some v → k ≡ j → OwnSlot declared injection (with_own_bound k n s) later j v
      same_slot j v is e =
          let old = slice_get-some frame.slots k within in
          subst (λ i. OwnSlot declared injection (with_own_bound k n s) later i v) e
          (record {
            slot = Some p;
            is = slice_get-set-same frame.slots k (Some p) old.0 old.1;
            matches = subst (λ o. MatchesSlot injection memory.types o (Some p)) (sym (bound_to k (Some n) (bound_own-same k n (h.call).variables))) spot;
            described = λ q u q_is has_type.
                let its : t ≡ u = one_type_of v (declared_so v (subst (λ i. slice_get (variables_up declared 0) i ≡ Some v) (sym e) is)) has_type in
                subst (λ (x : Place). IsLike memory.types x.type_number u) (same_Some p q q_is) (subst (λ u. IsLike memory.types p.type_number u) its described);
          })

      other_slot : (j : ℕ) (v : UnitVariable) → slice_get (variables_up declared 0) j ≡ Some v → (k ≡ j → ⊥) → OwnSlot declared injection s memory j v → OwnSlot declared injection (with_own_bound k n s) later j v
      other_slot j v is e old =
          let in_frame : slice_get frame.slots j ≡ Some old.slot = sym (ap (λ cs. slot_of_frame (slots_over cs None) j) frames) ∙ old.is in
          let variable : own_variable 0 j s ≡ own_variable 0 j (with_own_bound k n s) = ap (λ cs. own_in cs 0 j) h.calls ∙ sym (bound_to j ((h.call).variables j) (bound_own-other k n (h.call).variables j e)) in
          record {
            slot = old.slot;
            is = slice_get-set-other frame.slots k j (Some p) e ∙ in_frame;
            matches = subst (λ o. MatchesSlot injection memory.types o old.slot) variable old.matches;
            described = old.described;
          }

-- ---- what is taken

-- an allocation whose segment lives has not ended
lives_where : {layout : Layout} {G : Image} {injection : Injection} {s : meaning.State} {memory : MachineMemory} (n segment : ℕ) (x : Segment)
    → Matches layout G injection s memory → IsIn injection n segment → slice_get memory.segments segment ≡ Some (Some x) → has_ended n s ≡ false
lives_where {injection = injection} {s = s} {memory = memory} n segment x h is_in stands =
    let injected = h.injected in
    let store = h.store in
    let a = allocated injection s n segment injected.made is_in in
    ap ended_in a.1 ∙ go a.0 (a.0).ended refl (store.represented n segment a.0 is_in a.1)
  where
    go : (a : Allocation) (b : Bool) → a.ended ≡ b → IsRepresentedWhere b injection memory.segments memory.types segment a → a.ended ≡ false
    go a true e gone = let none : ◌≡◌ {A = Option (Option Segment)} (Some None) (Some (Some x)) = sym gone ∙ stands in absurd cc
    go a false e r = e

-- the arguments in the frame of the same call are the same
pub same_arguments : (before after : List Frame) → IsSameCall before after → arguments_in after ≡ arguments_in before
same_arguments [] [] h = refl
same_arguments [] (d ∷ after) h = absurd h
same_arguments (c ∷ before) [] h = absurd h
same_arguments (c ∷ before) (d ∷ after) h = h.4

module _ (declared : Declarations) (layout : Layout) (G : Image) (untouched : Slots) (first : Injection) (start : MachineMemory) (lasts : Lasts untouched (InActivation declared untouched first start)) (place line k : ℕ) (unit : List ℕ) (below : List Operand) (injection : Injection) (memory : MachineMemory) (frame : Frame) (others : List Frame) (frames : memory.frames.calls ≡ frame ∷ others) (home : unit_in G memory.frames ≡ unit) (within : k < length frame.arguments) where
  abbrev Here : Facts
  Here = InActivation declared untouched first start

  -- memory without the argument
  abbrev lighter : MachineMemory
  lighter = with_innermost (taken_from k frame) others memory

  abbrev left : List (Option Operand)
  left = without_argument k frame.arguments

  lighter_runs : StillRuns memory.frames lighter.frames
  lighter_runs = runs_innermost declared layout G untouched first start place line k below injection memory frame others frames (taken_from k frame) refl refl refl

  lighter_home : unit_in G lighter.frames ≡ unit
  lighter_home = unit_in-still G lighter_runs ∙ home

  -- `Arg` leaves the argument on top
  arg_moves : {A : Type 0} {c : Computation A} {to n d d1 : ℕ} {P : A → After} {e : A → ℕ} (st : List Operand) (o : Operand) (w : ℕ) → slice_get G.instructions place ≡ Some (instr op.ARG (pos k) 0 line)
      → argument_at frame.arguments k ≡ Some o → weight o ≡ w → suc w + d1 ≤ d
      → Fragment layout G Here n (point injection lighter (place + 1) (o ∷ st)) c to P d1 e
      → Fragment layout G Here n (point injection memory place st) c to P d e
  arg_moves st o w has there weighs le next =
      fragment_goes (λ s matches here. (
        arg_outcome declared layout G untouched first start place line k below injection memory frame others frames st o w s.trace has there within weighs,
        matches_innermost declared layout G untouched first start place line k below injection memory frame others frames (taken_from k frame) s matches,
        knows_taken declared layout G untouched first start place line k below injection memory frame others frames s here,
      )) lighter_runs le next

  -- a variable of the caller, by `Bind`
  pub variable_taken : (n : ℕ) (m : Component) (d : ℕ) (p : Place) (t : TypeValue) (v : UnitVariable)
      → slice_get G.instructions place ≡ Some (instr op.ARG (pos k) 0 line) → slice_get G.instructions (place + 1) ≡ Some (instr op.BIND (pos k) 0 line)
      → argument_at frame.arguments k ≡ Some (operand.Place p) → IsSpot injection memory.types m p → IsLike memory.types p.type_number t
      → slice_get (variables_up declared 0) k ≡ Some v → ((w : UnitVariable) → slice_get (variables_up declared 0) k ≡ Some w → HasOwnType declared w t) → 2 ≤ d
      → Fragment layout G Here (suc n) (point injection memory place below) (spend 1 (change (with_own_bound k m))) (place + 1 + 1) (λ a. Taken untouched injection memory left below) d (λ a. d)
  variable_taken n m d p t v has_arg has_bind there spot described is_declared declared_so enough =
      arg_moves {d1 = d - 1} below (operand.Place p) 0 has_arg there refl (omega (arith, enough)) (record { by = λ s matches here. bound s matches here })
    where
      final : MachineMemory
      final = with_innermost (with_slot k p (taken_from k frame)) others lighter

      final_runs : StillRuns lighter.frames final.frames
      final_runs = runs_innermost declared layout G untouched first start (place + 1) line k below injection lighter (taken_from k frame) others refl (with_slot k p (taken_from k frame)) refl refl refl

      bound : (s : meaning.State) → Matches layout G injection s lighter → Here injection s lighter
          → Follows (λ j. IsNotLeft lighter.frames j.frames) G (suc n) (at (place + 1) (operand.Place p ∷ below) lighter s.trace) s (spend 1 (change (with_own_bound k m))) (λ a. Lands layout G Here (place + 1 + 1) (Taken untouched injection memory left below)) (d - 1) (λ a. d)
      bound s matches here =
          let own = here.own k v is_declared in
          let inside : k < length frame.slots = slice_get_within frame.slots k own.slot own.is in
          follows_paid {n = n} {v = 0} {w = 0} {d1 = d} (not_left-here lighter.frames) refl
          (bind_outcome declared layout G untouched first start (place + 1) line k below injection lighter (taken_from k frame) others refl p s.trace has_bind inside)
          (omega (arith, enough)) (omega (arith, enough)) (omega (arith, enough))
          (follows_changed (with_own_bound k m) (omega arith) (record {
            injection = injection;
            memory = final;
            operands = below;
            is = refl;
            matches = (let h = matches in record { injected = h.injected; store = h.store; types = h.types; units = h.units; outside = h.outside; counts = h.counts; depth = subst (λ cs. suc (length others) ≤ length (own_bound_in k m cs)) (sym here.calls) (omega (arith, h.depth, ap length here.calls)) });
            here = knows_bound declared layout G untouched first start (place + 1) line k below injection lighter (taken_from k frame) others refl s m p t here inside spot described declared_so;
            post = record { grown = grown_trans (grown_innermost injection memory (taken_from k frame) others) (grown_innermost injection lighter (with_slot k p (taken_from k frame)) others); runs = still_runs-trans lighter_runs final_runs; left_are = refl; operands_are = refl };
          }))

  -- A value, by `Store` in the variable of the routine that was made last, whatever that begins with.
  pub value_taken : (n d : ℕ) (kind : ValueKind) (t : TypeValue) (r : Result) (o : Operand) (number : ℕ) (p : Place) → IsTypeOfKind kind (bare_of t)
      → slice_get G.instructions (place - 1) ≡ Some (instr op.SLOT (pos k) 0 line) → 1 ≤ place
      → slice_get G.instructions place ≡ Some (instr op.ARG (pos k) 0 line) → slice_get G.instructions (place + 1) ≡ Some (instr op.STORE (pos 0) 0 line)
      → argument_at frame.arguments k ≡ Some o → IsValueOf injection memory kind r o → own_slot memory.frames k ≡ Some (Some p)
      → IsSpot injection memory.types (whole (length injection)) p → slice_get memory.segments p.segment ≡ Some (Some (new_segment number t)) → IsLike memory.types p.type_number (bare_of t) → 3 + 2 * weight_of r ≤ d
      → Fragment layout G Here n (point injection memory (place - 1) below) (initialized unit line t r) (place + 1 + 1) (λ a. Taken untouched injection memory left below) d (λ a. d - (3 + 2 * weight_of r))
  value_taken n d kind t r o number p of_kind has_slot later has_arg has_store there value slot spot stands described enough =
      fragment_waits {d1 = d - 1} (λ s matches. slot_pushes G (place - 1) line k 0 below frame.slots memory s.trace has_slot (own_slots memory frame others frames) p (sym (ap (λ cs. slot_of_frame (slots_over cs None) k) frames) ∙ slot)) (omega (arith, enough))
      (fragment_from {place = place} (omega (arith, later)) (arg_moves {d1 = d - (2 + weight_of r)} (operand.Place p ∷ below) o (weight_of r) has_arg there (value_weight injection memory kind r o value) (omega (arith, enough)) (stored (suits (Some t) r) refl)))
    where
      at_store : List Operand
      at_store = o ∷ operand.Place p ∷ below

      given_value : IsValueOf injection lighter kind r o
      given_value = value_anywhere injection memory lighter refl kind r o value

      newest_of : (s : meaning.State) → Matches layout G injection s lighter → IsSpot injection lighter.types (whole (length s.allocations)) p
      newest_of s h = let injected = h.injected in subst (λ m. IsSpot injection memory.types (whole m) p) injected.made spot

      living : (s : meaning.State) → Matches layout G injection s lighter → has_ended (length s.allocations) s ≡ false
      living s h = let q = newest_of s h in lives_where (length s.allocations) p.segment (new_segment number t) h q.is_in stands

      its_type : (s : meaning.State) → Matches layout G injection s lighter → option_map bare_of (type_at (whole (length s.allocations)) s) ≡ Some (bare_of t)
      its_type s h = variable_type layout G (place + 1) line below (bare_of t) (whole (length s.allocations)) p injection lighter (newest_of s h) described s h (living s h)

      -- which values it may have
      suits_it : (s : meaning.State) → Matches layout G injection s lighter → suits (type_at (whole (length s.allocations)) s) r ≡ suits (Some t) r
      suits_it s h =
          sym (suits_bare (type_at (whole (length s.allocations)) s) r) ∙ (ap (λ u. suits u r) (its_type s h) ∙ suits_bare (Some t) r)

      given : (s : meaning.State) → Matches layout G injection s lighter → Here injection s lighter → suits (Some t) r ≡ true
          → Follows (λ j. IsNotLeft lighter.frames j.frames) G n (at (place + 1) at_store lighter s.trace) s (change (newest_assigned (value_of r))) (λ a. Lands layout G Here (place + 1 + 1) (Taken untouched injection memory left below)) (d - (2 + weight_of r)) (λ a. d - (3 + 2 * weight_of r))
      given s h here e =
          let does = value_does layout G (place + 1) line below kind (bare_of t) r o (whole (length s.allocations)) p (may_take kind (bare_of t) of_kind) has_store injection lighter given_value (newest_of s h) described s h (living s h) lasts here (suits_it s h ∙ e) in
          let inside = does.post in
          let routine = inside.routine in
          follows_credit {d = suc (weight_of r) + (d - (3 + 2 * weight_of r))} {e = λ a. d - (3 + 2 * weight_of r)} (omega (arith, enough)) (λ a. omega (arith, enough)) (follows_waits (not_left-here lighter.frames) does.does
          (follows_changed (newest_assigned (value_of r)) (omega arith) (record {
            injection = does.injection;
            memory = does.memory;
            operands = does.operands;
            is = refl;
            matches = does.matches;
            here = does.here;
            post = record { grown = grown_trans (grown_innermost injection memory (taken_from k frame) others) inside.grown; runs = still_runs-trans lighter_runs (still_routine routine); left_are = same_arguments lighter.frames.calls does.memory.frames.calls routine.calls; operands_are = inside.operands_are };
          })))

      refused : (s : meaning.State) → Matches layout G injection s lighter → suits (Some t) r ≡ false
          → Follows (λ j. IsNotLeft lighter.frames j.frames) G n (at (place + 1) at_store lighter s.trace) s (stop {A = Unit {0}} (meaning.Error (misfit r) unit line)) (λ a. Lands layout G Here (place + 1 + 1) (Taken untouched injection memory left below)) (d - (2 + weight_of r)) (λ a. d - (3 + 2 * weight_of r))
      refused s h e =
          let fails = value_fails layout G (place + 1) line below kind (bare_of t) r o (whole (length s.allocations)) p (may_take kind (bare_of t) of_kind) has_store injection lighter given_value (newest_of s h) described s h (living s h) (suits_it s h ∙ e) in
          follows_stop (not_left-here lighter.frames) (subst (λ u. outcome G (at (place + 1) at_store lighter s.trace) ≡ record { weight = weight_of r; to = Stopped (Error (misfit r) u line) s.trace }) lighter_home fails.fails) (omega (arith, enough))

      stored : (b : Bool) → suits (Some t) r ≡ b
          → Fragment layout G Here n (point injection lighter (place + 1) at_store) (initialized unit line t r) (place + 1 + 1) (λ a. Taken untouched injection memory left below) (d - (2 + weight_of r)) (λ a. d - (3 + 2 * weight_of r))
      stored b e = subst (λ y. Fragment layout G Here n (point injection lighter (place + 1) at_store) (if y then change (newest_assigned (value_of r)) else stop (meaning.Error (misfit r) unit line)) (place + 1 + 1) (λ a. Taken untouched injection memory left below) (d - (2 + weight_of r)) (λ a. d - (3 + 2 * weight_of r))) (sym e) (by_case b e)
        where
          by_case : (b : Bool) → suits (Some t) r ≡ b
              → Fragment layout G Here n (point injection lighter (place + 1) at_store) (if b then change (newest_assigned (value_of r)) else stop (meaning.Error (misfit r) unit line)) (place + 1 + 1) (λ a. Taken untouched injection memory left below) (d - (2 + weight_of r)) (λ a. d - (3 + 2 * weight_of r))
          by_case true e = record { by = λ s matches here. given s matches here e }
          by_case false e = record { by = λ s matches here. refused s matches e }
