-- `Bind` of the variable of a `with`: in the activation of a routine, or in the frame of a unit, the variable of a slot is the
-- one whose place is on top.
use Rattle.std.proofs.Common.{◌≡◌, ℕ, pos, suc, ◌+◌, ◌≤◌, ◌<◌, inl, inr, IsTrue, List, [], ◌∷◌, length, Option, Some, None, slice_get, slice_set, refl, sym, ap, ◌∙◌, subst, arith, option_map}
use Rattle.ep_simulation.proofs.matching.Likes.{like_one}
use Rattle.std.proofs.lemmas.Bool.{lt-ltb}
use Rattle.std.proofs.lemmas.Option.{same_Some, slice_get_within}
use native.Mathlib.Decide.{ℕ_discrete}
use Rattle.ep_simulation.specs.Activations.{InActivation}
use Rattle.ep_simulation.specs.Follows.{Facts, Lasts, Bare, Inside, IsSameCall, SameRoutine}
use Rattle.ep_object.specs.Frames.{slots_over}
use Rattle.ep_simulation.specs.Layouts.{Layout}
use Rattle.ep_simulation.specs.Matching.{MachineMemory, at, Injection, IsSpot, IsOfType, Slots, own_slot, slot_of_frame, slot_in, MatchesSlot, MatchesFrame, HasType, HasOwnType, Matches, Grown, IsLike}
use Rattle.ep_object.specs.Operands.{Operand}
use Rattle.ep_object.specs.Operands as operand
use Rattle.ep_object.specs.Placing.{HasDistinctNames}
use Rattle.ep_object.specs.Runs.{outcome}
use Rattle.ep_object.specs.State.{Frame, Running}
use Rattle.ep_object.specs.declared.code.Image.{Image}
use Rattle.ep_object.specs.declared.code.ImageUnit.{ImageUnit}
use Rattle.ep_object.specs.declared.op.TheConstants as op
use Rattle.ep_object.specs.declared.state.Place.{Place}
use Rattle.ep_simulation.proofs.public.following.Fragments.{Does}
use Rattle.ep_object.proofs.public.Elements.{slice_get-set-same, slice_get-set-other, length-set}
use Rattle.ep_simulation.proofs.public.matching.MoreMemory.{grown_refl, same_call-refl}
use Rattle.ep_simulation.proofs.matching.NewVariables.{bound-same, bound-other, same_name}
use Rattle.ep_simulation.proofs.public.matching.Standing.{slice_get-some, one_type_of}
use Rattle.ep_simulation.proofs.matching.Words.{type_is-along}
use Rattle.ep_simulation.proofs.public.rows.ArgumentRows.{with_innermost, with_slot, grown_innermost, bind_outcome, knows_bound}
use Rattle.ep_simulation.proofs.public.rows.MakeRow.{RunsInUnit}
use Rattle.ep_simulation.proofs.public.rows.Rows.{instr, outcome_at}
use Rattle.ep_meaning.proofs.public.Bares.{bare_along}
use Rattle.ep_values.specs.Events.{Trace}
use Rattle.ep_meaning.specs.Steps.{Component, allocation_at, type_in, type_along, own_bound_in, with_bound, with_own_bound}
use Rattle.ep_meaning.specs.Steps as meaning
use Rattle.ep_meaning.specs.Valid.{Declarations, variables_up}
use Rattle.ep_values.specs.TypeValues.{TypeValue, bare_of}
use Rattle.ep_typed.specs.declared.unit.UnitVariable.{UnitVariable}

-- ---- in the activation of a routine

-- `Bind` in a slot of the innermost call, which is not among those that are untouched
pub own_binds : {untouched kept : Slots} {first : Injection} {start : MachineMemory} (declared : Declarations) (layout : Layout) (G : Image) (place line k : ℕ) (below : List Operand) (v : UnitVariable) (t : TypeValue)
    → slice_get G.instructions place ≡ Some (instr op.BIND (pos k) 0 line)
    → slice_get (variables_up declared 0) k ≡ Some v
    → ((w : UnitVariable) → slice_get (variables_up declared 0) k ≡ Some w → HasOwnType declared w t)
    → (IsTrue (untouched.own k) → ⊥)
    → (injection : Injection) (memory : MachineMemory) (s : meaning.State) → Matches layout G injection s memory → InActivation declared kept first start injection s memory
    → (c : Component) (p : Place) → IsSpot injection memory.types c p → IsLike memory.types p.type_number t
    → Does layout G (InActivation declared kept first start) (at place (operand.Place p ∷ below) memory s.trace) 0 (place + 1) (Inside untouched injection memory (Bare below tt)) (with_own_bound k c s)
own_binds {untouched = untouched} {kept = kept} {first = first} {start = start} declared layout G place line k below v t has is_declared declared_so free injection memory s matches known c p spot described =
    record {
      injection = injection;
      memory = later;
      operands = below;
      does = bind_outcome declared layout G kept first start place line k below injection memory frame others known.frames p s.trace has within;
      matches = let h = matches in record { injected = h.injected; store = h.store; types = h.types; units = h.units; outside = h.outside; counts = h.counts; depth = subst (λ cs. suc (length others) ≤ length (own_bound_in k c cs)) (sym known.calls) (omega (arith, h.depth, ap length known.calls, ap length known.frames)) };
      here = knows_bound declared layout G kept first start place line k below injection memory frame others known.frames s c p t known within spot described declared_so;
      post = record { grown = grown_innermost injection memory (with_slot k p frame) others; routine = still; operands_are = refl };
    }
  where
    frame : Frame
    frame = known.frame

    others : List Frame
    others = known.below

    later : MachineMemory
    later = with_innermost (with_slot k p frame) others memory

    -- the variable has a slot in the frame
    within : k < length frame.slots
    within =
        let own = known.own k v is_declared in
        slice_get_within frame.slots k own.slot (sym (ap (λ cs. slot_of_frame (slots_over cs None) k) known.frames) ∙ own.is)

    -- no other slot of the call changes
    others_stay : (j : ℕ) → IsTrue (untouched.own j) → own_slot later.frames j ≡ own_slot memory.frames j
    others_stay j is_kept =
        slice_get-set-other frame.slots k j (Some p) (λ e. free (subst (λ i. IsTrue (untouched.own i)) (sym e) is_kept))
        ∙ sym (ap (λ cs. slot_of_frame (slots_over cs None) j) known.frames)

    still : SameRoutine untouched memory.frames later.frames
    still = record { turn = refl; routine = refl; unit = refl; calls = subst (λ cs. IsSameCall cs later.frames.calls) (sym known.frames) (refl, refl, refl, refl, refl, refl); slots = others_stay }

-- ---- in the frame of a unit

module _ {layout : Layout} {G : Image} {injection : Injection} {s : meaning.State} {memory : MachineMemory} (h : Matches layout G injection s memory) (c : Component) (p : Place) (spot : IsSpot injection memory.types c p) (t : TypeValue) (described : IsLike memory.types p.type_number t) (x : ImageUnit) (k : ℕ) (is_unit : slice_get G.units memory.frames.unit ≡ Some x) (within : k < x.slots) (declared_so : (v : UnitVariable) → layout.variables x.name k ≡ Some v → HasType layout x.name v t) where
  -- the frame of the unit
  frame : MatchesFrame layout injection s.variables memory.frames.units memory.types memory.frames.unit x
  frame = let units = h.units in units.frames memory.frames.unit x is_unit

  abbrev new_slots : List (Option Place)
  new_slots = slice_set frame.slots k (Some p)

  abbrev later : MachineMemory
  later = record memory { frames = record memory.frames { units = slice_set memory.frames.units memory.frames.unit new_slots } }

  abbrev later_state : meaning.State
  later_state = with_bound x.name k c s

  there_now : slice_get new_slots k ≡ Some (Some p)
  there_now = let old = slice_get-some frame.slots k (omega (arith, within, frame.count)) in slice_get-set-same frame.slots k (Some p) old.0 old.1

  -- the slot has the place, and the others have theirs
  slot_binding : (j : ℕ) (v : UnitVariable) (slot : Option Place) → layout.variables x.name j ≡ Some v → slice_get new_slots j ≡ Some slot
      → MatchesSlot injection memory.types (later_state.variables x.name j) slot
  slot_binding j v slot is_declared q = elim (ℕ_discrete k j) [ yes e ↦ same e | no e ↦ other e ]
    where
      same : k ≡ j → MatchesSlot injection memory.types (later_state.variables x.name j) slot
      same e =
          let slot_is : Some p ≡ slot = same_Some (Some p) slot (sym there_now ∙ subst (λ i. slice_get new_slots i ≡ Some slot) (sym e) q) in
          subst (λ i. MatchesSlot injection memory.types (later_state.variables x.name i) slot) e
          (subst (λ o. MatchesSlot injection memory.types (later_state.variables x.name k) o) slot_is
          (subst (λ o. MatchesSlot injection memory.types o (Some p)) (sym (bound-same x.name k c s.variables)) spot))

      other : (k ≡ j → ⊥) → MatchesSlot injection memory.types (later_state.variables x.name j) slot
      other e =
          let before : slice_get frame.slots j ≡ Some slot = sym (slice_get-set-other frame.slots k j (Some p) e) ∙ q in
          subst (λ o. MatchesSlot injection memory.types o slot) (sym (bound-other x.name k c s.variables x.name j (λ a. e))) (frame.matches j v slot is_declared before)

  -- the type of the place describes the declaration's, and those of the others theirs
  described_binding : (j : ℕ) (v : UnitVariable) (q : Place) (u : TypeValue) → layout.variables x.name j ≡ Some v → slice_get new_slots j ≡ Some (Some q)
      → HasType layout x.name v u → IsLike memory.types q.type_number u
  described_binding j v q u is_declared is has_type = elim (ℕ_discrete k j) [ yes e ↦ same e | no e ↦ frame.described j v q u is_declared (sym (slice_get-set-other frame.slots k j (Some p) e) ∙ is) has_type ]
    where
      same : k ≡ j → IsLike memory.types q.type_number u
      same e =
          let place_is : Some p ≡ Some q = same_Some (Some p) (Some q) (sym there_now ∙ subst (λ i. slice_get new_slots i ≡ Some (Some q)) (sym e) is) in
          let its_type : t ≡ u = one_type_of v (declared_so v (subst (λ i. layout.variables x.name i ≡ Some v) (sym e) is_declared)) has_type in
          subst (λ (y : Place). IsLike memory.types y.type_number u) (same_Some p q place_is) (subst (λ w. IsLike memory.types p.type_number w) its_type described)

  frame_binding : MatchesFrame layout injection later_state.variables later.frames.units memory.types memory.frames.unit x
  frame_binding =
      record {
        slots = new_slots;
        is = slice_get-set-same memory.frames.units memory.frames.unit new_slots frame.slots frame.is;
        count = length-set frame.slots k (Some p) ∙ frame.count;
        matches = slot_binding;
        described = described_binding;
      }

  -- the variable is of the type
  its_type : option_map bare_of (type_along (type_in (allocation_at s.allocations c.allocation)) c.path) ≡ Some t
  its_type =
      let injected = h.injected in
      let its : spot.type_value ≡ t = like_one memory.types p.type_number spot.type_value t spot.described described in
      sym (bare_along (type_in (allocation_at s.allocations c.allocation)) c.path) ∙ (ap (λ o. type_along o c.path) (injected.typed c.allocation spot.root spot.is_of) ∙ type_is-along spot.root c.path (record { offset = p.offset; type_value = spot.type_value }) spot.leads ∙ ap Some its)

  module _ (distinct : HasDistinctNames G) where
    -- the frames of other units stay what they are
    frames_binding : (unit : ℕ) (u : ImageUnit) → slice_get G.units unit ≡ Some u → MatchesFrame layout injection later_state.variables later.frames.units memory.types unit u
    frames_binding unit u there = elim (ℕ_discrete memory.frames.unit unit) [ yes e ↦ same e | no e ↦ other e ]
      where
        same : memory.frames.unit ≡ unit → MatchesFrame layout injection later_state.variables later.frames.units memory.types unit u
        same e =
            let is_x : x ≡ u = same_Some x u (sym is_unit ∙ subst (λ i. slice_get G.units i ≡ Some u) (sym e) there) in
            subst (λ i. MatchesFrame layout injection later_state.variables later.frames.units memory.types i u) e (subst (λ y. MatchesFrame layout injection later_state.variables later.frames.units memory.types memory.frames.unit y) is_x frame_binding)

        other : (memory.frames.unit ≡ unit → ⊥) → MatchesFrame layout injection later_state.variables later.frames.units memory.types unit u
        other e =
            let units = h.units in
            let f : MatchesFrame layout injection s.variables memory.frames.units memory.types unit u = units.frames unit u there in
            record {
              slots = f.slots;
              is = slice_get-set-other memory.frames.units memory.frames.unit unit new_slots e ∙ f.is;
              count = f.count;
              matches = λ j v slot is_declared q. subst (λ o. MatchesSlot injection memory.types o slot) (sym (bound-other x.name k c s.variables u.name j (λ a b. e (distinct memory.frames.unit unit x u is_unit there a)))) (f.matches j v slot is_declared q);
              described = f.described;
            }

    -- the variable that is bound has the type of its declaration, and the others keep theirs
    typed_binding : (unit : List ℕ) (j : ℕ) (b : Component) (v : UnitVariable) → later_state.variables unit j ≡ Some b → layout.variables unit j ≡ Some v
        → IsOfType s.allocations b (HasType layout unit v)
    typed_binding unit j b v is is_declared = elim (same_name x.name unit) [ inl a ↦ elim (ℕ_discrete k j) [ yes q ↦ same a q | no q ↦ other (λ y z. q z) ] | inr a ↦ other (λ y z. a y) ]
      where
        same : x.name ≡ unit → k ≡ j → IsOfType s.allocations b (HasType layout unit v)
        same a q =
            let here : later_state.variables x.name k ≡ Some b = subst (λ u. later_state.variables u k ≡ Some b) (sym a) (subst (λ i. later_state.variables unit i ≡ Some b) (sym q) is) in
            let b_is : c ≡ b = same_Some c b (sym (bound-same x.name k c s.variables) ∙ here) in
            let has_type : HasType layout unit v t = subst (λ u. HasType layout u v t) a (declared_so v (subst (λ u. layout.variables u k ≡ Some v) (sym a) (subst (λ i. layout.variables unit i ≡ Some v) (sym q) is_declared))) in
            subst (λ i. IsOfType s.allocations i (HasType layout unit v)) b_is (record { type_value = t; is = its_type; holds = has_type })

        other : (x.name ≡ unit → k ≡ j → ⊥) → IsOfType s.allocations b (HasType layout unit v)
        other different =
            let units = h.units in
            units.typed unit j b v (sym (bound-other x.name k c s.variables unit j different) ∙ is) is_declared

    -- the machine goes on matching
    matches_binding : Matches layout G injection later_state later
    matches_binding =
        record {
          injected = h.injected;
          store = h.store;
          types = h.types;
          units = record { frames = frames_binding; typed = typed_binding };
          outside = h.outside;
          counts = h.counts;
          depth = h.depth;
        }

-- `Bind` of a place in a slot of the unit's frame
bind_in_unit : (G : Image) (place line k : ℕ) (below : List Operand) (slots : List (Option Place)) (memory : MachineMemory) (trace : Trace) (p : Place)
    → slice_get G.instructions place ≡ Some (instr op.BIND (pos k) 0 line)
    → memory.frames.calls ≡ [] → slice_get memory.frames.units memory.frames.unit ≡ Some slots → k < length slots
    → outcome G (at place (operand.Place p ∷ below) memory trace) ≡ record { weight = 0; to = Running 0 (at (place + 1) below (record memory { frames = record memory.frames { units = slice_set memory.frames.units memory.frames.unit (slice_set slots k (Some p)) } }) trace) }
bind_in_unit G place line k below slots memory trace p has alone is within =
    outcome_at G (instr op.BIND (pos k) 0 line) place (operand.Place p ∷ below) memory trace has ∙ rw (alone, is, lt-ltb k (length slots) within) refl

-- `Bind` in a slot of the unit's frame, which is not among those that are untouched
pub unit_binds : {untouched : Slots} {Here : Facts} (layout : Layout) (G : Image) (place line k : ℕ) (below : List Operand) (t : TypeValue) (x : ImageUnit)
    → slice_get G.instructions place ≡ Some (instr op.BIND (pos k) 0 line)
    → HasDistinctNames G
    → ((v : UnitVariable) → layout.variables x.name k ≡ Some v → HasType layout x.name v t)
    → (injection : Injection) (memory : MachineMemory) (s : meaning.State)
    → RunsInUnit G memory.frames x → k < x.slots → (IsTrue (untouched.of_units memory.frames.unit k) → ⊥) → Lasts untouched Here
    → Matches layout G injection s memory → Here injection s memory
    → (c : Component) (p : Place) → IsSpot injection memory.types c p → IsLike memory.types p.type_number t
    → Does layout G Here (at place (operand.Place p ∷ below) memory s.trace) 0 (place + 1) (Inside untouched injection memory (Bare below tt)) (with_bound x.name k c s)
unit_binds {untouched = untouched} layout G place line k below t x has distinct declared_so injection memory s home within free lasts matches known c p spot described =
    record {
      injection = injection;
      memory = after;
      operands = below;
      does = bind_in_unit G place line k below its.slots memory s.trace p has home.calls its.is (omega (arith, within, its.count));
      matches = matches_binding matches c p spot t described x k home.unit within declared_so distinct;
      here = lasts.by injection injection s (with_bound x.name k c s) memory after (record { grown = grows; routine = still; own = λ j. refl; calls = refl }) known;
      post = record { grown = grows; routine = still; operands_are = refl };
    }
  where
    its : MatchesFrame layout injection s.variables memory.frames.units memory.types memory.frames.unit x
    its = frame matches c p spot t described x k home.unit within declared_so

    after : MachineMemory
    after = later matches c p spot t described x k home.unit within declared_so

    -- the slots that are kept are what they were
    stay : (unit j : ℕ) → IsTrue (untouched.of_units unit j) → slot_in after.frames unit j ≡ slot_in memory.frames unit j
    stay unit j is_kept = elim (ℕ_discrete memory.frames.unit unit) [ yes e ↦ own e | no e ↦ ap (λ o. slot_of_frame o j) (slice_get-set-other memory.frames.units memory.frames.unit unit (slice_set its.slots k (Some p)) e) ]
      where
        own : memory.frames.unit ≡ unit → slot_in after.frames unit j ≡ slot_in memory.frames unit j
        own e =
            let different : (k ≡ j → ⊥) = λ q. free (subst (λ i. IsTrue (untouched.of_units i k)) (sym e) (subst (λ i. IsTrue (untouched.of_units unit i)) (sym q) is_kept)) in
            subst (λ u. slot_in after.frames u j ≡ slot_in memory.frames u j) e
            (ap (λ o. slot_of_frame o j) (slice_get-set-same memory.frames.units memory.frames.unit (slice_set its.slots k (Some p)) its.slots its.is) ∙ (slice_get-set-other its.slots k j (Some p) different ∙ sym (ap (λ o. slot_of_frame o j) its.is)))

    grows : Grown untouched injection memory injection after
    grows =
        let g = grown_refl {untouched = untouched} injection memory in
        record { larger = g.larger; types = g.types; segments = g.segments; hidden = g.hidden; others = g.others; allocated = g.allocated; slots = stay; typed = g.typed; ended = g.ended }

    still : SameRoutine untouched memory.frames after.frames
    still = record { turn = refl; routine = refl; unit = refl; calls = same_call-refl memory.frames.calls; slots = λ j kept. refl }
