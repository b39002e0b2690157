-- What `New`, `Deref` and `Dispose` lead to over a variable without a name, where the machine matches.
use Rattle.std.proofs.Common.{leb, cond, ◌≡◌, ℕ, pos, zero, suc, ◌+◌, ◌-◌, ◌<◌, ◌⊎◌, inl, inr, Bool, true, false, List, [], ◌∷◌, length, Some, None, slice_get, slice_set, refl, sym, ap, ◌∙◌, subst, arith}
use Rattle.std.specs.Prelude.{int_lt, option_map}
use Rattle.std.proofs.lemmas.Bool.Decides.{nat_tests}
use Rattle.std.proofs.lemmas.Bool.{lt-ltb}
use Rattle.std.proofs.lemmas.Option.{slice_get_within}
use Rattle.ep_object.specs.Calls.{words_in, words_of}
use Rattle.ep_simulation.specs.Follows.{Facts, GivesUp, Inside, Lasts}
use Rattle.ep_simulation.specs.Layouts.{Layout}
use Rattle.ep_simulation.specs.Matching.{Describes, Injection, IsIn, IsOf, Mapped, Matches, MachineMemory, Slots, at}
use Rattle.ep_object.specs.Operands.{Operand, Word}
use Rattle.ep_object.specs.Operands as operand
use Rattle.ep_object.specs.Pointers.{whole as place_of_whole}
use Rattle.ep_object.specs.Runs.{outcome, unit_in}
use Rattle.ep_simulation.specs.Starts.{AreStarts}
use Rattle.ep_object.specs.State.{Error, Running, Stopped, live_limit, undefined}
use Rattle.ep_object.specs.declared.code.Image.{Image}
use Rattle.ep_object.specs.declared.op.TheConstants as op
use Rattle.ep_object.specs.declared.state.Segment.{Segment}
use Rattle.ep_object.proofs.public.Grows.{is_prefix}
use Rattle.ep_simulation.proofs.public.following.Bind.{gives_up}
use Rattle.ep_simulation.proofs.public.following.Fragments.{Does}
use Rattle.ep_simulation.proofs.matching.Changes.{matches_frame-grown}
use Rattle.ep_simulation.proofs.public.matching.Standing.{mapped_within}
use Rattle.ep_simulation.proofs.matching.Counts.{live_bounded, lost_words, past_limit}
use Rattle.ep_object.proofs.public.Elements.{slice_get-pushed}
use Rattle.ep_simulation.proofs.matching.Endings.{ends_both, without}
use Rattle.ep_simulation.proofs.public.matching.MoreMemory.{is_in-longer, is_of-longer, same_routine-refl}
use Rattle.ep_simulation.proofs.matching.NewSegments.{described_within, has_entry, new_segment, size_is}
use Rattle.ep_simulation.proofs.matching.NewVariables.{counts_making, grown_making, grown_same_frames, injected_making, new_allocation, next_item, of_type-more, output_lives, represented_making, with_segment, with_variable}
use Rattle.ep_simulation.proofs.matching.Starting.{begun_words}
use Rattle.ep_simulation.proofs.public.rows.Rows.{in_one, instr, outcome_at}
use Rattle.ep_values.specs.Events.{Trace}
use Rattle.ep_meaning.specs.Nameless.{made_nameless, with_depth}
use Rattle.ep_meaning.specs.Steps.{Resources, counted, with_all_ended}
use Rattle.ep_meaning.specs.Steps as meaning
use Rattle.ep_values.specs.TypeValues as type
use Rattle.ep_values.specs.TypeValues.{TypeValue, bare_of, size_of}
use Rattle.ep_meaning.specs.Valid.{IsTypeValue}
use Rattle.ep_values.specs.declared.run_error.TheConstants as run_error

-- the number of a segment is on top, in which the variable without a name with this number is, of the type; it is no file
pub record NamelessOnTop (t : TypeValue) (below : List Operand) (n : ℕ) (injection : Injection) (memory : MachineMemory)
    (operands : List Operand) : Type 0 where
  pub segment : ℕ
  pub is : operands ≡ Word (pos segment) ∷ below
  pub is_in : IsIn injection n segment
  pub is_of : IsOf injection n (bare_of t)
  pub above : 2 < segment
  pub numbered : 2 < n
  pub content : Segment
  pub lives : slice_get memory.segments segment ≡ Some (Some content)
  pub described : Describes memory.types content.type_number t

-- ---- `New`

-- what it leads to: one more variable, or an error where too many words would live
new_outcome : (G : Image) (place line : ℕ) (below : List Operand) (t : TypeValue) (number : ℕ) (memory : MachineMemory) (trace : Trace) (b : Bool)
    → slice_get G.instructions place ≡ Some (instr op.NEW (pos 0) 0 line)
    → Describes memory.types number t → AreStarts t
    → leb (memory.live + (size_of t + 1)) live_limit ≡ b
    → outcome G (at place (Word (pos number) ∷ below) memory trace) ≡ cond b (record { weight = size_of t; to = Running 0 (at (place + 1) (Word (pos (length memory.segments)) ∷ below) (with_variable t number memory.frames memory) trace) }) (in_one (Stopped (Error run_error.STORAGE_LIMIT (unit_in G memory.frames) line) trace))
new_outcome G place line below t number memory trace true has described starts fits =
    let entry = has_entry memory.types number t described in
    outcome_at G (instr op.NEW (pos 0) 0 line) place (Word (pos number) ∷ below) memory trace has ∙ rw (lt-ltb number (length memory.types) (described_within memory.types number t described), entry.is, begun_words t, size_is t starts, fits) refl
new_outcome G place line below t number memory trace false has described starts fits =
    let entry = has_entry memory.types number t described in
    outcome_at G (instr op.NEW (pos 0) 0 line) place (Word (pos number) ∷ below) memory trace has ∙ rw (lt-ltb number (length memory.types) (described_within memory.types number t described), entry.is, begun_words t, size_is t starts, fits) refl

module _ {layout : Layout} {G : Image} {injection : Injection} {s : meaning.State} {memory : MachineMemory} (h : Matches layout G injection s memory) (t : TypeValue) (number : ℕ) (described : Describes memory.types number t) (valid : IsTypeValue t) (starts : AreStarts t) where
  abbrev longer : Injection
  longer = with_segment t injection memory

  abbrev later : MachineMemory
  later = with_variable t number memory.frames memory

  -- the machine goes on matching
  pub matches_nameless : Matches layout G longer (made_nameless t (counted t s)) later
  matches_nameless =
      let units = h.units in
      let outside = h.outside in
      record {
        injected = injected_making h t number described valid starts;
        store = record { represented = represented_making h t number described valid starts };
        types = h.types;
        units = record {
          frames = λ unit u e.
              let f = matches_frame-grown {before = s.variables} {later = s.variables} {memory = memory} {after = later} unit u (grown_same_frames t injection memory number) refl (λ j. refl) (units.frames unit u e) in
              record { slots = f.slots; is = f.is; count = f.count; matches = f.matches; described = f.described };
          typed = λ unit j c v is is_declared. of_type-more s.allocations (new_allocation h t number described valid starts) c (units.typed unit j c v is is_declared);
        };
        outside = record { output = is_in-longer injection longer 2 2 (record { rest = next_item t memory ∷ []; is = refl }) outside.output; file = is_of-longer injection longer 2 type.Text (record { rest = next_item t memory ∷ []; is = refl }) outside.file; lives = output_lives h t number described valid starts };
        counts = counts_making h t number described valid starts;
        depth = h.depth;
      }

  -- its number is above those of the standard files, and so is its segment's
  new_number : 2 < suc (length s.allocations)
  new_number =
      let outside = h.outside in
      let injected = h.injected in
      let w : 1 < length injection = mapped_within (λ m. m.segment) injection 1 2 outside.output in
      omega (arith, w, injected.made)

  new_segment_above : 2 < length memory.segments
  new_segment_above =
      let outside = h.outside in
      let injected = h.injected in
      let w = injected.within 2 2 outside.output in
      omega (arith, w)

  -- what is on top then
  new_top : (below : List Operand) → NamelessOnTop t below (suc (length s.allocations)) longer later (Word (pos (length memory.segments)) ∷ below)
  new_top below =
      let injected = h.injected in
      record {
        segment = length memory.segments;
        is = refl;
        is_in = subst (λ n. IsIn longer (suc n) (length memory.segments)) injected.made (ap (λ o. option_map (λ (m : Mapped). m.segment) o) (slice_get-pushed injection (next_item t memory)));
        is_of = subst (λ n. IsOf longer (suc n) (bare_of t)) injected.made (ap (λ o. option_map (λ (m : Mapped). m.type_value) o) (slice_get-pushed injection (next_item t memory)));
        above = new_segment_above;
        numbered = new_number;
        content = new_segment number t;
        lives = slice_get-pushed memory.segments (Some (new_segment number t));
        described = described;
      }

  -- `New` over the number of the type
  pub new_does : {untouched : Slots} {Here : Facts} (place line : ℕ) (below : List Operand)
      → slice_get G.instructions place ≡ Some (instr op.NEW (pos 0) 0 line)
      → Lasts untouched Here → Here injection s memory
      → Does layout G Here (at place (Word (pos number) ∷ below) memory s.trace) (size_of t) (place + 1) (Inside untouched injection memory (NamelessOnTop t below (suc (length s.allocations)))) (made_nameless t (counted t s))
      ⊎ GivesUp G (at place (Word (pos number) ∷ below) memory s.trace) 0 1 (counted t s)
  new_does {untouched = untouched} {Here = Here} place line below has lasts known = go (leb (memory.live + (size_of t + 1)) live_limit) refl
    where
      go : (b : Bool) → leb (memory.live + (size_of t + 1)) live_limit ≡ b
          → Does layout G Here (at place (Word (pos number) ∷ below) memory s.trace) (size_of t) (place + 1) (Inside untouched injection memory (NamelessOnTop t below (suc (length s.allocations)))) (made_nameless t (counted t s))
          ⊎ GivesUp G (at place (Word (pos number) ∷ below) memory s.trace) 0 1 (counted t s)
      go true e =
          inl (record {
            injection = longer;
            memory = later;
            operands = Word (pos (length memory.segments)) ∷ below;
            does = new_outcome G place line below t number memory s.trace true has described starts e;
            matches = matches_nameless;
            here = lasts.by injection longer s (made_nameless t (counted t s)) memory later (record { grown = grown_making t injection memory number memory.frames (λ unit j kept. refl); routine = same_routine-refl memory.frames; own = λ j. refl; calls = refl }) known;
            post = record { grown = grown_making t injection memory number memory.frames (λ unit j kept. refl); routine = same_routine-refl memory.frames; operands_are = new_top below };
          })
      go false e =
          let many : live_limit < memory.live + (size_of t + 1) = grind (arith, nat_tests) in
          let counted_here : Resources = record s.resources { allocated = s.resources.allocated + (size_of t + 1) } in
          inr (gives_up (new_outcome G place line below t number memory s.trace false has described starts e) (inl refl) (is_prefix s.trace) (lost_words counted_here (past_limit (memory.live + (size_of t + 1)) counted_here many (omega (arith, live_bounded h.counts)))))

-- ---- `Deref`

-- a number of a segment is defined, and none is nil
defined : (n : ℕ) → int_lt undefined (pos n) ≡ true
defined n = refl

-- the place of all of a segment that lives
pub deref_pushes : (G : Image) (place line : ℕ) (below : List Operand) (segment : ℕ) (x : Segment) → slice_get G.instructions place ≡ Some (instr op.DEREF (pos 0) 0 line) → 2 < segment
    → (memory : MachineMemory) (trace : Trace) → slice_get memory.segments segment ≡ Some (Some x)
    → outcome G (at place (Word (pos segment) ∷ below) memory trace) ≡ in_one (Running 0 (at (place + 1) (operand.Place (place_of_whole segment x) ∷ below) memory trace))
deref_pushes G place line below zero x has above memory trace lives = absurd (omega (arith, above))
deref_pushes G place line below (suc segment) x has above memory trace lives =
    let within : suc segment < length memory.segments = slice_get_within memory.segments (suc segment) (Some x) lives in
    outcome_at G (instr op.DEREF (pos 0) 0 line) place (Word (pos (suc segment)) ∷ below) memory trace has ∙ rw (lt-ltb (suc segment) (length memory.segments) within, lives) refl

-- ---- `Dispose`

pub dispose_outcome : (G : Image) (place line : ℕ) (below : List Operand) (segment : ℕ) (x : Segment) → slice_get G.instructions place ≡ Some (instr op.DISPOSE (pos 0) 0 line) → 2 < segment
    → (memory : MachineMemory) (trace : Trace) → slice_get memory.segments segment ≡ Some (Some x)
    → outcome G (at place (Word (pos segment) ∷ below) memory trace) ≡ in_one (Running 0 (at (place + 1) below (record memory { segments = slice_set memory.segments segment None; live = memory.live - (length x.words + 1) }) trace))
dispose_outcome G place line below zero x has above memory trace lives = absurd (omega (arith, above))
dispose_outcome G place line below (suc segment) x has above memory trace lives =
    let within : suc segment < length memory.segments = slice_get_within memory.segments (suc segment) (Some x) lives in
    outcome_at G (instr op.DISPOSE (pos 0) 0 line) place (Word (pos (suc segment)) ∷ below) memory trace has ∙ rw (lt-ltb (suc segment) (length memory.segments) within, lives) refl

-- whether room is lost by the depth plays no part in matching
pub matches_depth : {layout : Layout} {G : Image} {injection : Injection} {s : meaning.State} {memory : MachineMemory} → Matches layout G injection s memory → Matches layout G injection (with_depth s) memory
matches_depth h =
    let c = h.counts in
    record { injected = h.injected; store = h.store; types = h.types; units = h.units; outside = h.outside; counts = record { words = c.words; hidden = c.hidden; number = c.number }; depth = h.depth }

-- The variable ends, whose segment lives and is on top.
pub dispose_does : {untouched : Slots} {Here : Facts} (layout : Layout) (G : Image) (place line : ℕ) (below : List Operand) (n segment : ℕ) (x : Segment)
    → slice_get G.instructions place ≡ Some (instr op.DISPOSE (pos 0) 0 line) → 2 < n → 2 < segment
    → (injection : Injection) (memory : MachineMemory) (s : meaning.State) → IsIn injection n segment → slice_get memory.segments segment ≡ Some (Some x)
    → Lasts untouched Here → Matches layout G injection s memory → Here injection s memory
    → Does layout G Here (at place (Word (pos segment) ∷ below) memory s.trace) 0 (place + 1) (Inside untouched injection memory (λ longer after operands. operands ≡ below)) (with_all_ended (n ∷ []) s)
dispose_does {untouched = untouched} layout G place line below n segment x has numbered above injection memory s is_in lives lasts matches known =
    let ends = ends_both (n ∷ []) (segment ∷ []) s memory (is_in, numbered, tt) matches in
    let grown = ends.grown untouched in
    let words : words_of (segment ∷ []) memory.segments ≡ length x.words + 1 = ap (λ o. words_in o + 0) lives ∙ omega arith in
    record {
      injection = injection;
      memory = without (segment ∷ []) memory;
      operands = below;
      does = dispose_outcome G place line below segment x has above memory s.trace lives ∙ ap (λ k. in_one (Running 0 (at (place + 1) below (record memory { segments = slice_set memory.segments segment None; live = memory.live - k }) s.trace))) (sym words);
      matches = ends.matches;
      here = lasts.by injection injection s (with_all_ended (n ∷ []) s) memory (without (segment ∷ []) memory) (record { grown = grown; routine = same_routine-refl memory.frames; own = λ j. refl; calls = refl }) known;
      post = record { grown = grown; routine = same_routine-refl memory.frames; operands_are = refl };
    }
