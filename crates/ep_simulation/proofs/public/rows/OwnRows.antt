-- What the rows on a routine's own variables lead to, where the machine matches: `Slot`, and `Make` in its activation.
use Rattle.std.proofs.Common.{leb, cond, ◌≡◌, ℕ, pos, suc, ◌+◌, ◌<◌, ◌⊎◌, inl, inr, Bool, true, false, List, [], ◌∷◌, length, length-append, Option, Some, None, slice_get, refl, sym, ap, ◌∙◌, subst, arith}
use Rattle.ep_simulation.proofs.matching.Starting.{begun_words}
use Rattle.ep_simulation.specs.Starts.{AreStarts}
use Rattle.std.proofs.lemmas.Bool.Decides.{nat_tests}
use Rattle.std.proofs.lemmas.Bool.{lt-ltb}
use Rattle.std.proofs.lemmas.Option.{slice_get_within}
use Rattle.ep_simulation.specs.Activations.{OwnSlot, LevelMatches, InActivation}
use Rattle.ep_simulation.specs.Follows.{GivesUp, Facts, IsStillCall, StillRuns, Inside, PlaceOnTop}
use Rattle.ep_simulation.specs.Layouts.{Layout}
use Rattle.ep_simulation.specs.Matching.{MachineMemory, at, Injection, IsSpot, Grown, Describes, Slots, own_slot, slot_of_frame, MatchesSlot, HasOwnType, Matches, IsLike}
use Rattle.ep_object.specs.Operands.{Operand, Word}
use Rattle.ep_object.specs.Operands as operand
use Rattle.ep_object.specs.Frames.{slots_over, slots_up}
use Rattle.ep_object.specs.Runs.{outcome, unit_in}
use Rattle.ep_object.specs.State.{Frame, Running, Stopped, Error, live_limit}
use Rattle.ep_object.specs.declared.code.Image.{Image}
use Rattle.ep_object.specs.declared.state.Place.{Place}
use Rattle.ep_simulation.proofs.public.following.Bind.{gives_up}
use Rattle.ep_simulation.proofs.public.following.Choices.{Reads, Misses, Finds}
use Rattle.ep_simulation.proofs.public.following.Fragments.{Does}
use Rattle.ep_object.proofs.public.Grows.{is_prefix}
use Rattle.ep_simulation.proofs.matching.Counts.{lost_words, past_limit, live_bounded}
use Rattle.ep_simulation.proofs.public.matching.Awaiting.{arguments_in}
use Rattle.ep_object.proofs.public.Elements.{slice_get-set-same, slice_get-pushed}
use Rattle.ep_simulation.proofs.public.matching.MoreMemory.{inside_here}
use Rattle.ep_simulation.proofs.matching.Levels.{level_up}
use Rattle.ep_simulation.proofs.public.matching.Standing.{slice_get-some}
use Rattle.ep_simulation.proofs.matching.NewSegments.{has_entry, described_within, new_segment, size_is}
use Rattle.ep_simulation.proofs.matching.NewVariables.{next_item, new_place, new_spot, with_variable, with_segment}
use Rattle.ep_simulation.proofs.public.matching.OwnVariables.{with_own_place, grown_making_own, matches_making_own, own_making, in_activation_making}
use Rattle.ep_simulation.proofs.rows.FrameRows.{own_slots, slot_pushes, slot_misses}
use Rattle.ep_simulation.proofs.public.rows.Rows.{instr, in_one, outcome_at}
use Rattle.ep_values.specs.Events.{Trace}
use Rattle.ep_meaning.specs.Steps.{Component, whole, Resources, variable_in, own_variable, counted, made_own}
use Rattle.ep_meaning.specs.Steps as meaning
use Rattle.ep_meaning.specs.Valid.{Declarations, IsTypeValue, Level, variables_up}
use Rattle.ep_typed.specs.declared.unit.UnitVariable.{UnitVariable}
use Rattle.ep_values.specs.TypeValues.{TypeValue, size_of, bare_of}
use Rattle.ep_object.specs.declared.op.TheConstants as op
use Rattle.ep_values.specs.declared.run_error.TheConstants as run_error

-- a slot of the innermost call is one of its frame
pub record InFrame (memory : MachineMemory) (k : ℕ) (slot : Option Place) : Type 0 where
  pub frame : Frame
  pub below : List Frame
  pub frames : memory.frames.calls ≡ frame ∷ below
  pub holds : slice_get frame.slots k ≡ Some slot

pub in_frame : (memory : MachineMemory) (k : ℕ) (slot : Option Place) → own_slot memory.frames k ≡ Some slot → InFrame memory k slot
in_frame memory k slot h = go memory.frames.calls refl h
  where
    go : (calls : List Frame) → memory.frames.calls ≡ calls → slot_of_frame (slots_over calls None) k ≡ Some slot → InFrame memory k slot
    go [] e q = cc
    go (c ∷ calls) e q = record { frame = c; below = calls; frames = e; holds = q }

-- ---- `Slot`

-- `Slot` of a variable of the routine
pub own_reads : {untouched : Slots} {Here : Facts} (declared : Declarations) (layout : Layout) (G : Image) (place line : ℕ) (below : List Operand) (k : ℕ) (v : UnitVariable) (t : TypeValue)
    → slice_get G.instructions place ≡ Some (instr op.SLOT (pos k) 0 line) → HasOwnType declared v t
    → (injection : Injection) (memory : MachineMemory) (s : meaning.State) → Matches layout G injection s memory
    → OwnSlot declared injection s memory k v → Here injection s memory
    → Reads layout G Here (at place below memory s.trace) 1 (unit_in G memory.frames) line (place + 1) (λ n. Inside untouched injection memory (PlaceOnTop t below n)) s (own_variable 0 k s)
own_reads {untouched = untouched} {Here = Here} declared layout G place line below k v t has has_type injection memory s matches own known =
    let f = in_frame memory k own.slot own.is in
    go f.frame f.below f.frames own.slot f.holds (λ p e. own.described p t e has_type) (own_variable 0 k s) refl own.matches
  where
    go : (frame : Frame) (others : List Frame) → memory.frames.calls ≡ frame ∷ others → (slot : Option Place) → slice_get frame.slots k ≡ Some slot
        → ((p : Place) → slot ≡ Some p → IsLike memory.types p.type_number t)
        → (o : Option Component) → own_variable 0 k s ≡ o → MatchesSlot injection memory.types o slot
        → Reads layout G Here (at place below memory s.trace) 1 (unit_in G memory.frames) line (place + 1) (λ n. Inside untouched injection memory (PlaceOnTop t below n)) s (own_variable 0 k s)
    go frame others frames None holds described None is h =
        Misses is (record { fails = slot_misses G place line k 0 below frame.slots memory s.trace has (own_slots memory frame others frames) holds })
    go frame others frames (Some p) holds described None is h = absurd h
    go frame others frames None holds described (Some n) is h = absurd h
    go frame others frames (Some p) holds described (Some n) is h =
        Finds n is (record {
          injection = injection;
          memory = memory;
          operands = operand.Place p ∷ below;
          does = slot_pushes G place line k 0 below frame.slots memory s.trace has (own_slots memory frame others frames) p holds;
          matches = matches;
          here = known;
          post = inside_here (record { place = p; is = refl; spot = h; described = described p refl });
        })

-- `Slot` of a variable of a routine around
pub level_reads : {untouched : Slots} {Here : Facts} (declared : Declarations) (layout : Layout) (G : Image) (place line : ℕ) (below : List Operand) (up k : ℕ) (level : Level) (v : UnitVariable) (t : TypeValue)
    → slice_get G.instructions place ≡ Some (instr op.SLOT (pos k) up line) → HasOwnType declared v t → slice_get level.variables k ≡ Some v
    → (injection : Injection) (memory : MachineMemory) (s : meaning.State) → Matches layout G injection s memory
    → LevelMatches declared.types level injection s.calls memory up → Here injection s memory
    → Reads layout G Here (at place below memory s.trace) 1 (unit_in G memory.frames) line (place + 1) (λ n. Inside untouched injection memory (PlaceOnTop t below n)) s (own_variable up k s)
level_reads {untouched = untouched} {Here = Here} declared layout G place line below up k level v t has has_type its injection memory s matches l known =
    let y = l.holds k v its in
    go y.slot y.is (λ p e. y.described p t e has_type) (l.variables k) (ap (λ o. variable_in o k) l.named) y.matches
  where
    frame : slots_up memory.frames up ≡ Some l.slots
    frame = level_up memory.frames up l.slots l.are

    go : (slot : Option Place) → slice_get l.slots k ≡ Some slot → ((p : Place) → slot ≡ Some p → IsLike memory.types p.type_number t)
        → (o : Option Component) → own_variable up k s ≡ o → MatchesSlot injection memory.types o slot
        → Reads layout G Here (at place below memory s.trace) 1 (unit_in G memory.frames) line (place + 1) (λ n. Inside untouched injection memory (PlaceOnTop t below n)) s (own_variable up k s)
    go None holds described None is h = Misses is (record { fails = slot_misses G place line k up below l.slots memory s.trace has frame holds })
    go (Some p) holds described None is h = absurd h
    go None holds described (Some n) is h = absurd h
    go (Some p) holds described (Some n) is h =
        Finds n is (record {
          injection = injection;
          memory = memory;
          operands = operand.Place p ∷ below;
          does = slot_pushes G place line k up below l.slots memory s.trace has frame p holds;
          matches = matches;
          here = known;
          post = inside_here (record { place = p; is = refl; spot = h; described = described p refl });
        })

-- ---- `Make`

-- the routine still runs since then, and the operands are these
pub record StillBare (before : MachineMemory) (below : List Operand) (injection : Injection) (memory : MachineMemory) (operands : List Operand) : Type 0 where
  pub runs : StillRuns before.frames memory.frames
  pub operands_are : operands ≡ below

-- a variable of the routine of a type has been made, as the newest allocation, and its place is in its slot
pub record MadeOwn (untouched : Slots) (k : ℕ) (t : TypeValue) (injection : Injection) (before : MachineMemory) (below : List Operand)
    (longer : Injection) (after : MachineMemory) (operands : List Operand) : Type 0 where
  pub grown : Grown untouched injection before longer after
  pub runs : StillRuns before.frames after.frames
  pub left_are : arguments_in after.frames.calls ≡ arguments_in before.frames.calls
  pub number : ℕ
  pub place : Place
  pub slot : own_slot after.frames k ≡ Some (Some place)
  pub spot : IsSpot longer after.types (whole (length longer)) place
  pub stands : slice_get after.segments place.segment ≡ Some (Some (new_segment number t))
  pub described : IsLike after.types place.type_number (bare_of t)
  pub operands_are : operands ≡ below

-- what `Make` leads to: one more variable, or an error where too many words would live
make_own_outcome : (G : Image) (place line : ℕ) (below : List Operand) (t : TypeValue) (number k : ℕ) (frame : Frame) (others : List Frame) (memory : MachineMemory) (trace : Trace) (b : Bool)
    → slice_get G.instructions place ≡ Some (instr op.MAKE (pos k) 0 line)
    → memory.frames.calls ≡ frame ∷ others
    → Describes memory.types number t → AreStarts t → k < length frame.slots
    → leb (memory.live + (size_of t + 1)) live_limit ≡ b
    → outcome G (at place (Word (pos number) ∷ below) memory trace) ≡ cond b (record { weight = size_of t; to = Running 0 (at (place + 1) below (with_variable t number (with_own_place number k frame others memory) memory) trace) }) (in_one (Stopped (Error run_error.STORAGE_LIMIT (unit_in G memory.frames) line) trace))
make_own_outcome G place line below t number k frame others memory trace true has frames described starts within fits =
    let entry = has_entry memory.types number t described in
    outcome_at G (instr op.MAKE (pos k) 0 line) place (Word (pos number) ∷ below) memory trace has ∙ rw (frames, lt-ltb number (length memory.types) (described_within memory.types number t described), entry.is, lt-ltb k (length frame.slots) within, begun_words t, size_is t starts, fits) refl
make_own_outcome G place line below t number k frame others memory trace false has frames described starts within fits =
    let entry = has_entry memory.types number t described in
    outcome_at G (instr op.MAKE (pos k) 0 line) place (Word (pos number) ∷ below) memory trace has ∙ rw (frames, lt-ltb number (length memory.types) (described_within memory.types number t described), entry.is, lt-ltb k (length frame.slots) within, begun_words t, size_is t starts, fits) refl

-- `Make` of a type in a slot of the routine's activation, over the number of the type
pub make_own_does : {untouched : Slots} {first : Injection} {start : MachineMemory} (declared : Declarations) (layout : Layout) (G : Image) (place line : ℕ) (below : List Operand) (t : TypeValue) (number k : ℕ) (v : UnitVariable)
    → slice_get G.instructions place ≡ Some (instr op.MAKE (pos k) 0 line)
    → IsTypeValue t → AreStarts t
    → slice_get (variables_up declared 0) k ≡ Some v
    → ((w : UnitVariable) → slice_get (variables_up declared 0) k ≡ Some w → HasOwnType declared w (bare_of t))
    → (injection : Injection) (memory : MachineMemory) (s : meaning.State)
    → Describes memory.types number t
    → Matches layout G injection s memory → InActivation declared untouched first start injection s memory
    → Does layout G (InActivation declared untouched first start) (at place (Word (pos number) ∷ below) memory s.trace) (size_of t) (place + 1) (MadeOwn untouched k t injection memory below) (made_own k t (counted t s)) ⊎ GivesUp G (at place (Word (pos number) ∷ below) memory s.trace) 0 1 (counted t s)
make_own_does {untouched = untouched} {first = first} {start = start} declared layout G place line below t number k v has valid starts is_declared declared_so injection memory s described matches known = go (leb (memory.live + (size_of t + 1)) live_limit) refl
  where
    frame : Frame
    frame = known.frame

    others : List Frame
    others = known.below

    -- the variable has a slot in the frame
    within : k < length frame.slots
    within =
        let own = known.own k v is_declared in
        slice_get_within frame.slots k own.slot (sym (ap (λ cs. slot_of_frame (slots_over cs None) k) known.frames) ∙ own.is)

    old : (x : Option Place) × (slice_get frame.slots k ≡ Some x)
    old = slice_get-some frame.slots k within

    newest : suc (length s.allocations) ≡ length (with_segment t injection memory)
    newest = let injected = matches.injected in omega (arith, injected.made, length-append injection (next_item t memory ∷ []))

    later : MachineMemory
    later = with_variable t number (with_own_place number k frame others memory) memory

    again : InActivation declared untouched first start (with_segment t injection memory) (made_own k t (counted t s)) later
    again =
        in_activation_making matches t number described valid starts k frame others known.frames known.call known.others known.calls
        (own_making matches t number described valid starts k frame others known.frames known.call known.others known.calls known.own within declared_so) known.around known.grown known.runs known.made

    still : StillRuns memory.frames later.frames
    still = record { turn = refl; routine = refl; unit = refl; calls = subst (λ cs. IsStillCall cs later.frames.calls) (sym known.frames) (refl, refl, refl, refl) }

    leads : (b : Bool) → leb (memory.live + (size_of t + 1)) live_limit ≡ b
        → outcome G (at place (Word (pos number) ∷ below) memory s.trace) ≡ cond b (record { weight = size_of t; to = Running 0 (at (place + 1) below later s.trace) }) (in_one (Stopped (Error run_error.STORAGE_LIMIT (unit_in G memory.frames) line) s.trace))
    leads b e = make_own_outcome G place line below t number k frame others memory s.trace b has known.frames described starts within e

    go : (b : Bool) → leb (memory.live + (size_of t + 1)) live_limit ≡ b
        → Does layout G (InActivation declared untouched first start) (at place (Word (pos number) ∷ below) memory s.trace) (size_of t) (place + 1) (MadeOwn untouched k t injection memory below) (made_own k t (counted t s)) ⊎ GivesUp G (at place (Word (pos number) ∷ below) memory s.trace) 0 1 (counted t s)
    go true e =
        inl (record {
          injection = with_segment t injection memory;
          memory = later;
          operands = below;
          does = leads true e;
          matches = matches_making_own matches t number described valid starts k frame others known.frames known.call known.others known.calls;
          here = again;
          post = record {
            grown = grown_making_own matches t number described valid starts k frame others known.frames known.call known.others known.calls;
            runs = still;
            left_are = sym (ap arguments_in known.frames);
            number = number;
            place = new_place memory number;
            slot = slice_get-set-same frame.slots k (Some (new_place memory number)) old.0 old.1;
            spot = subst (λ j. IsSpot (with_segment t injection memory) later.types (whole j) (new_place memory number)) newest (new_spot matches t number described valid starts);
            stands = slice_get-pushed memory.segments (Some (new_segment number t));
            described = (t, refl, described);
            operands_are = refl;
          };
        })
    go false e =
        let many : live_limit < memory.live + (size_of t + 1) = grind (arith, nat_tests) in
        let counted_here : Resources = record s.resources { allocated = s.resources.allocated + (size_of t + 1) } in
        inr (gives_up (leads false e) (inl refl) (is_prefix s.trace) (lost_words counted_here (past_limit (memory.live + (size_of t + 1)) counted_here many (omega (arith, live_bounded matches.counts)))))
