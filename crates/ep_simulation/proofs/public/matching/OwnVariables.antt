-- What a routine knows of its own variables goes on holding, and a variable of its own is made.
use Rattle.std.proofs.Common.{◌≡◌, ℕ, suc, ◌≤◌, ◌<◌, Bool, true, false, ◌&&◌, List, [], ◌∷◌, ◌++◌, length, Option, Some, slice_get, slice_set, refl, sym, ap, ◌∙◌, subst, arith}
use Rattle.ep_simulation.specs.Starts.{AreStarts}
use Rattle.std.specs.Prelude.{nat_le, if◌then◌else◌}
use Rattle.std.proofs.lemmas.Bool.Decides.{nat_tests}
use Rattle.std.proofs.lemmas.Option.{same_Some}
use native.Mathlib.Decide.{ℕ_discrete}
use Rattle.ep_outside.specs.Known.{IsPrefix}
use Rattle.ep_simulation.specs.Activations.{OwnSlot, MatchesOwn, MatchesAround, AreMade, InActivation}
use Rattle.ep_simulation.specs.Follows.{IsSameCall, IsStillCall, StillRuns, HasGrown, Lasts}
use Rattle.ep_simulation.specs.Layouts.{Layout}
use Rattle.ep_simulation.specs.Matching.{MachineMemory, Injection, IsIn, Describes, Slots, own_slot, MatchesSlot, HasOwnType, Matches, Grown, IsLike}
use Rattle.ep_object.specs.State.{Frame, Frames}
use Rattle.ep_object.specs.declared.code.Image.{Image}
use Rattle.ep_object.specs.declared.state.Place.{Place}
use Rattle.ep_simulation.proofs.matching.Changes.{slot-grown, matches_frame-grown}
use Rattle.ep_object.proofs.public.Elements.{slice_get-set-same, slice_get-set-other}
use Rattle.ep_simulation.proofs.public.matching.MoreMemory.{is_in-longer, describes-grown, grown_trans, still_routine, still_runs-trans, is_of-longer}
use Rattle.ep_simulation.proofs.matching.Levels.{level-same, around-lasts}
use Rattle.ep_simulation.proofs.matching.NewVariables.{new_place, with_variable, with_segment, next_item, grown_making, grown_same_frames, of_type-more, new_allocation, represented_making, new_spot, output_lives, injected_making, counts_making}
use Rattle.ep_simulation.proofs.public.matching.Standing.{slice_get-some, mapped_within, both, one_type_of}
use Rattle.ep_meaning.specs.Steps.{Component, whole, Call, Variables, named_in, bound_own, own_in, own_variable, with_own, counted, made_own}
use Rattle.ep_meaning.specs.Steps as meaning
use Rattle.ep_meaning.specs.Valid.{Declarations, IsTypeValue, variables_up}
use Rattle.ep_typed.specs.declared.unit.UnitVariable.{UnitVariable}
use Rattle.ep_values.specs.TypeValues as type
use Rattle.ep_values.specs.TypeValues.{TypeValue, bare_of}

-- ---- what lasts

pub matches_own-lasts : {untouched : Slots} {declared : Declarations} → Lasts untouched (MatchesOwn declared)
matches_own-lasts {untouched = untouched} {declared = declared} = record { by = λ injection longer s t memory after g h k v is. go injection longer s t memory after g k v (h k v is) }
  where
    go : (injection longer : Injection) (s t : meaning.State) (memory after : MachineMemory) → HasGrown untouched injection s memory longer t after
        → (k : ℕ) (v : UnitVariable) → OwnSlot declared injection s memory k v → OwnSlot declared longer t after k v
    go injection longer s t memory after g k v h =
        record {
          slot = h.slot;
          is = g.own k ∙ h.is;
          matches = subst (λ o. MatchesSlot longer after.types o h.slot) (sym (ap (λ cs. own_in cs 0 k) g.calls)) (slot-grown (own_variable 0 k s) h.slot g.grown h.matches);
          described = λ place t is has_type. describes-grown place.type_number t g.grown (h.described place t is has_type);
        }

-- what was made stays where it is
are_made-longer : (injection longer : Injection) → IsPrefix injection longer → (ns segments : List ℕ)
    → AreMade injection ns segments → AreMade longer ns segments
are_made-longer injection longer p [] [] h = tt
are_made-longer injection longer p [] (segment ∷ segments) h = h
are_made-longer injection longer p (n ∷ ns) [] h = h
are_made-longer injection longer p (n ∷ ns) (segment ∷ segments) (is_in, own, rest) =
    (is_in-longer injection longer n segment p is_in, own, are_made-longer injection longer p ns segments rest)

-- and one more is made
are_made-more : (injection : Injection) (n segment : ℕ) → IsIn injection n segment → 2 < n → (ns segments : List ℕ)
    → AreMade injection ns segments → AreMade injection (ns ++ n ∷ []) (segments ++ segment ∷ [])
are_made-more injection n segment is_in own [] [] h = (is_in, own, tt)
are_made-more injection n segment is_in own [] (j ∷ segments) h = absurd h
are_made-more injection n segment is_in own (m ∷ ns) [] h = absurd h
are_made-more injection n segment is_in own (m ∷ ns) (j ∷ segments) (p, q, rest) = (p, q, are_made-more injection n segment is_in own ns segments rest)

-- the innermost call, where it is the same as one
pub record Innermost (c : Frame) (below calls : List Frame) : Type 0 where
  pub frame : Frame
  pub is : calls ≡ frame ∷ below
  pub made : frame.made ≡ c.made

pub innermost : (c : Frame) (below before calls : List Frame) → before ≡ c ∷ below → IsSameCall before calls → Innermost c below calls
innermost c below [] calls e h = cc
innermost c below (b ∷ before) [] e h = absurd h
innermost c below (b ∷ before) (d ∷ later) e h =
    let same : b ≡ c = cc in
    let rest : before ≡ below = cc in
    record { frame = d; is = ap (λ l. d ∷ l) (h.3 ∙ rest); made = h.5 ∙ ap (λ (x : Frame). x.made) same }

pub in_activation-lasts : {untouched : Slots} {declared : Declarations} {injection : Injection} {memory : MachineMemory}
    → Lasts untouched (InActivation declared untouched injection memory)
in_activation-lasts {untouched = untouched} {declared = declared} {injection = injection} {memory = memory} = record { by = λ longer last s t after final more h. go longer last s t after final more h }
  where
    go : (longer last : Injection) (s t : meaning.State) (after final : MachineMemory) → HasGrown untouched longer s after last t final
        → InActivation declared untouched injection memory longer s after → InActivation declared untouched injection memory last t final
    go longer last s t after final more h =
        let r = more.routine in
        let inner = innermost h.frame h.below after.frames.calls final.frames.calls h.frames r.calls in
        let own_lasts = matches_own-lasts {untouched = untouched} {declared = declared} in
        let around_last = around-lasts {untouched = untouched} declared in
        let g = more.grown in
        record {
          grown = grown_trans h.grown g;
          runs = still_runs-trans h.runs (still_routine r);
          frame = inner.frame;
          below = h.below;
          frames = inner.is;
          call = h.call;
          others = h.others;
          calls = more.calls ∙ h.calls;
          own = own_lasts.by longer last s t after final more h.own;
          around = around_last.by longer last s t after final more h.around;
          made = subst (λ l. AreMade last (h.call).made l) (sym inner.made) (are_made-longer longer last g.larger (h.call).made (h.frame).made h.made);
        }

-- ---- a variable of the routine is made

module _ (number : ℕ) (n : Component) (variables : Variables) where
  -- the variable that is bound is that one
  pub bound_own-same : bound_own number n variables number ≡ Some n
  bound_own-same = let self : nat_le number number ≡ true = grind (arith, nat_tests) in rw self refl

  -- and the others stay what they are
  pub bound_own-other : (k : ℕ) → (number ≡ k → ⊥) → bound_own number n variables k ≡ variables k
  bound_own-other k different = go (nat_le number k && nat_le k number) refl
    where
      go : (b : Bool) → (nat_le number k && nat_le k number) ≡ b → (if b then Some n else variables k) ≡ variables k
      go true e =
          let p = both (nat_le number k) (nat_le k number) e in
          let same : number ≡ k = let x = p.0 in let y = p.1 in grind (arith, nat_tests) in
          absurd (different same)
      go false e = refl

-- the frames with its place in a slot of the innermost call, which has made its segment
abbrev pub with_own_place : ℕ → ℕ → Frame → List Frame → MachineMemory → Frames
with_own_place number k frame below memory =
    record memory.frames { calls = record frame { slots = slice_set frame.slots k (Some (new_place memory number)); made = frame.made ++ length memory.segments ∷ [] } ∷ below }

module _ {layout : Layout} {G : Image} {injection : Injection} {s : meaning.State} {memory : MachineMemory} (h : Matches layout G injection s memory) (t : TypeValue) (number : ℕ) (described : Describes memory.types number t) (valid : IsTypeValue t) (starts : AreStarts t) (k : ℕ) (frame : Frame) (below : List Frame) (frames : memory.frames.calls ≡ frame ∷ below) (call : Call) (others : List Call) (calls : s.calls ≡ call ∷ others) where
  abbrev pub own_later : MachineMemory
  own_later = with_variable t number (with_own_place number k frame below memory) memory

  abbrev pub own_state : meaning.State
  own_state = made_own k t (counted t s)

  abbrev longer : Injection
  longer = with_segment t injection memory

  -- memory grows by the new segment
  pub grown_making_own : {untouched : Slots} → Grown untouched injection memory longer own_later
  grown_making_own = grown_making t injection memory number (with_own_place number k frame below memory) (λ unit j kept. refl)

  -- the machine goes on matching
  pub matches_making_own : Matches layout G longer own_state own_later
  matches_making_own =
      let units = h.units in
      let outside = h.outside in
      record {
        injected = injected_making h t number described valid starts;
        store = record { represented = represented_making h t number described valid starts };
        types = h.types;
        units = record {
          frames = λ unit u e.
              let f = matches_frame-grown {before = s.variables} {later = s.variables} {memory = memory} {after = with_variable t number memory.frames memory} unit u (grown_same_frames t injection memory number) refl (λ j. refl) (units.frames unit u e) in
              record { slots = f.slots; is = f.is; count = f.count; matches = f.matches; described = f.described };
          typed = λ unit j c v is is_declared. of_type-more s.allocations (new_allocation h t number described valid starts) c (units.typed unit j c v is is_declared);
        };
        outside = record { output = is_in-longer injection longer 2 2 (record { rest = next_item t memory ∷ []; is = refl }) outside.output; file = is_of-longer injection longer 2 type.Text (record { rest = next_item t memory ∷ []; is = refl }) outside.file; lives = output_lives h t number described valid starts };
        counts = counts_making h t number described valid starts;
        depth = subst (λ cs. suc (length below) ≤ length (with_own k (suc (length s.allocations)) cs)) (sym calls) (omega (arith, h.depth, ap length frames, ap length calls));
      }

  -- its number is above those of the standard files
  new_number : 2 < suc (length s.allocations)
  new_number =
      let outside = h.outside in
      let injected = h.injected in
      let w : 1 < length injection = mapped_within (λ m. m.segment) injection 1 2 outside.output in
      omega (arith, w, injected.made)

  module _ {declared : Declarations} where
    -- the slot has its place, and the others have theirs
    pub own_making : MatchesOwn declared injection s memory → k < length frame.slots
        → ((v : UnitVariable) → slice_get (variables_up declared 0) k ≡ Some v → HasOwnType declared v (bare_of t))
        → MatchesOwn declared longer own_state own_later
    own_making own within declared_so j v is = elim (ℕ_discrete k j) [ yes e ↦ same e | no e ↦ other e (own j v is) ]
      where
        place : Place
        place = new_place memory number

        n : Component
        n = whole (suc (length s.allocations))

        bound_to : (i : ℕ) (o : Option Component) → bound_own k n call.variables i ≡ o → own_variable 0 i own_state ≡ o
        bound_to i o e = ap (λ cs. own_in (with_own k (suc (length s.allocations)) cs) 0 i) calls ∙ e

        same : k ≡ j → OwnSlot declared longer own_state own_later j v
        same e =
            let old = slice_get-some frame.slots k within in
            subst (λ i. OwnSlot declared longer own_state own_later i v) e
            (record {
              slot = Some place;
              is = slice_get-set-same frame.slots k (Some place) old.0 old.1;
              matches = subst (λ o. MatchesSlot longer own_later.types o (Some place)) (sym (bound_to k (Some n) (bound_own-same k n call.variables))) (new_spot h t number described valid starts);
              described = λ p u p_is has_type.
                  let its : bare_of t ≡ u = one_type_of v (declared_so v (subst (λ i. slice_get (variables_up declared 0) i ≡ Some v) (sym e) is)) has_type in
                  let number_is : number ≡ p.type_number = ap (λ (q : Place). q.type_number) (same_Some place p p_is) in
                  subst (λ i. IsLike memory.types i u) number_is (subst (λ w. IsLike memory.types number w) its (t, refl, described));
            })

        other : (k ≡ j → ⊥) → OwnSlot declared injection s memory j v → OwnSlot declared longer own_state own_later j v
        other e before =
            let in_frame : slice_get frame.slots j ≡ Some before.slot = sym (ap (λ cs. own_slot (record memory.frames { calls = cs }) j) frames) ∙ before.is in
            let variable : own_variable 0 j s ≡ own_variable 0 j own_state = ap (λ cs. own_in cs 0 j) calls ∙ sym (bound_to j (call.variables j) (bound_own-other k n call.variables j e)) in
            record {
              slot = before.slot;
              is = slice_get-set-other frame.slots k j (Some place) e ∙ in_frame;
              matches = subst (λ o. MatchesSlot longer own_later.types o before.slot) variable (slot-grown (own_variable 0 j s) before.slot (grown_same_frames t injection memory number) before.matches);
              described = before.described;
            }

    -- what the routine knows holds again
    pub in_activation_making : {untouched : Slots} {first : Injection} {start : MachineMemory} → MatchesOwn declared longer own_state own_later → MatchesAround declared injection s memory
        → Grown untouched first start injection memory → StillRuns start.frames memory.frames → AreMade injection call.made frame.made
        → InActivation declared untouched first start longer own_state own_later
    in_activation_making {untouched = untouched} own around grown runs made =
        let injected = h.injected in
        let spot = new_spot h t number described valid starts in
        record {
          grown = grown_trans grown grown_making_own;
          runs = still_runs-trans runs runs_on;
          frame = record frame { slots = slice_set frame.slots k (Some (new_place memory number)); made = frame.made ++ length memory.segments ∷ [] };
          below = below;
          frames = refl;
          call = record call { variables = bound_own k (whole (suc (length s.allocations))) call.variables; made = call.made ++ suc (length s.allocations) ∷ [] };
          others = others;
          calls = ap (λ cs. with_own k (suc (length s.allocations)) cs) calls;
          own = own;
          around = λ up level is. level-same {untouched = untouched} frame (record frame { slots = slice_set frame.slots k (Some (new_place memory number)); made = frame.made ++ length memory.segments ∷ [] }) below up frames refl refl
              (ap (λ cs. slice_get (named_in (with_own k (suc (length s.allocations)) cs)) (suc up)) calls ∙ sym (ap (λ cs. slice_get (named_in cs) (suc up)) calls)) grown_making_own (around up level is);
          made = are_made-more longer (suc (length s.allocations)) (length memory.segments) spot.is_in new_number call.made frame.made (are_made-longer injection longer (record { rest = next_item t memory ∷ []; is = refl }) call.made frame.made made);
        }
      where
        runs_on : StillRuns memory.frames own_later.frames
        runs_on = record { turn = refl; routine = refl; unit = refl; calls = subst (λ cs. IsStillCall cs own_later.frames.calls) (sym frames) (refl, refl, refl, refl) }
