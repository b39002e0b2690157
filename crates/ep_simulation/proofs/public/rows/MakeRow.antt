-- What `Make` leads to: the machine goes on matching, or ends for want of storage where room was lost.
use Rattle.std.proofs.Common.{leb, cond, ◌≡◌, ℕ, pos, ◌+◌, ◌<◌, ◌⊎◌, inl, inr, Bool, true, false, IsTrue, List, [], ◌∷◌, length, Option, Some, slice_get, slice_set, refl, sym, ap, ◌∙◌, subst, arith}
use Rattle.std.proofs.lemmas.Bool.Decides.{nat_tests}
use Rattle.std.proofs.lemmas.Bool.{lt-ltb}
use native.Mathlib.Decide.{ℕ_discrete}
use Rattle.ep_simulation.specs.Follows.{GivesUp, Facts, Lasts, Bare, Inside}
use Rattle.ep_simulation.specs.Layouts.{Layout}
use Rattle.ep_simulation.specs.Matching.{MachineMemory, at, Injection, Describes, Slots, slot_of_frame, slot_in, MatchesFrame, HasType, Matches}
use Rattle.ep_object.specs.Operands.{Operand, Word}
use Rattle.ep_object.specs.Placing.{HasDistinctNames}
use Rattle.ep_object.specs.Runs.{outcome, unit_in}
use Rattle.ep_object.specs.State.{Frames, Running, Stopped, Error, live_limit}
use Rattle.ep_object.specs.declared.code.Image.{Image}
use Rattle.ep_object.specs.declared.code.ImageUnit.{ImageUnit}
use Rattle.ep_object.specs.declared.state.Place.{Place}
use Rattle.ep_simulation.proofs.public.following.Bind.{gives_up}
use Rattle.ep_object.proofs.public.Elements.{slice_get-set-same, slice_get-set-other}
use Rattle.ep_simulation.proofs.public.following.Fragments.{Does}
use Rattle.ep_object.proofs.public.Grows.{is_prefix}
use Rattle.ep_simulation.proofs.public.matching.MoreMemory.{same_call-refl}
use Rattle.ep_simulation.proofs.matching.Counts.{lost_words, past_limit, live_bounded}
use Rattle.ep_simulation.proofs.public.rows.Rows.{instr, in_one, outcome_at}
use Rattle.ep_values.specs.Events.{Trace}
use Rattle.ep_meaning.specs.Steps.{Resources, counted, made}
use Rattle.ep_meaning.specs.Steps as meaning
use Rattle.ep_values.specs.TypeValues.{TypeValue, bare_of, size_of}
use Rattle.ep_meaning.specs.Valid.{IsTypeValue}
use Rattle.ep_typed.specs.declared.unit.UnitVariable.{UnitVariable}
use Rattle.ep_object.specs.declared.op.TheConstants as op
use Rattle.ep_values.specs.declared.run_error.TheConstants as run_error
use Rattle.ep_simulation.proofs.matching.NewSegments.{has_entry, described_within, size_is}
use Rattle.ep_simulation.proofs.matching.Starting.{begun_words}
use Rattle.ep_simulation.specs.Starts.{AreStarts}
use Rattle.ep_simulation.proofs.matching.NewVariables.{new_place, with_variable, with_place, with_segment, grown_making, frame_here, matches_making}

-- ---- the row

-- no call is under way, and the routine runs in the frame of this unit
pub record RunsInUnit (G : Image) (frames : Frames) (x : ImageUnit) : Type 0 where
  pub calls : frames.calls ≡ []
  pub unit : slice_get G.units frames.unit ≡ Some x

-- what `Make` leads to: one more variable, or an error where too many words would live
make_outcome : (G : Image) (place line : ℕ) (below : List Operand) (t : TypeValue) (number k : ℕ) (slots : List (Option Place)) (memory : MachineMemory) (trace : Trace) (b : Bool)
    → slice_get G.instructions place ≡ Some (instr op.MAKE (pos k) 0 line)
    → memory.frames.calls ≡ [] → slice_get memory.frames.units memory.frames.unit ≡ Some slots
    → Describes memory.types number t → AreStarts t → k < length slots
    → leb (memory.live + (size_of t + 1)) live_limit ≡ b
    → outcome G (at place (Word (pos number) ∷ below) memory trace) ≡ cond b (record { weight = size_of t; to = Running 0 (at (place + 1) below (with_variable t number (with_place number k slots memory) memory) trace) }) (in_one (Stopped (Error run_error.STORAGE_LIMIT (unit_in G memory.frames) line) trace))
make_outcome G place line below t number k slots memory trace true has alone frame described starts within fits =
    let entry = has_entry memory.types number t described in
    outcome_at G (instr op.MAKE (pos k) 0 line) place (Word (pos number) ∷ below) memory trace has ∙ rw (alone, frame, lt-ltb number (length memory.types) (described_within memory.types number t described), entry.is, lt-ltb k (length slots) within, begun_words t, size_is t starts, fits) refl
make_outcome G place line below t number k slots memory trace false has alone frame described starts within fits =
    let entry = has_entry memory.types number t described in
    outcome_at G (instr op.MAKE (pos k) 0 line) place (Word (pos number) ∷ below) memory trace has ∙ rw (alone, frame, lt-ltb number (length memory.types) (described_within memory.types number t described), entry.is, lt-ltb k (length slots) within, begun_words t, size_is t starts, fits) refl

-- `Make` of a type in a slot of the unit's frame, over the number of the type
pub make_does : {untouched : Slots} {Here : Facts} (layout : Layout) (G : Image) (place line : ℕ) (below : List Operand) (t : TypeValue) (number k : ℕ) (x : ImageUnit)
    → slice_get G.instructions place ≡ Some (instr op.MAKE (pos k) 0 line)
    → HasDistinctNames G → IsTypeValue t → AreStarts t
    → ((v : UnitVariable) → layout.variables x.name k ≡ Some v → HasType layout x.name v (bare_of t))
    → (injection : Injection) (memory : MachineMemory) (s : meaning.State)
    → RunsInUnit G memory.frames x → k < x.slots
    → (IsTrue (untouched.of_units memory.frames.unit k) → ⊥)
    → Describes memory.types number t → Lasts untouched Here
    → Matches layout G injection s memory → Here injection s memory
    → Does layout G Here (at place (Word (pos number) ∷ below) memory s.trace) (size_of t) (place + 1) (Inside untouched injection memory (Bare below tt)) (made x.name k t (counted t s)) ⊎ GivesUp G (at place (Word (pos number) ∷ below) memory s.trace) 0 1 (counted t s)
make_does {untouched = untouched} {Here = Here} layout G place line below t number k x has distinct valid starts declared_so injection memory s home within free described lasts matches known = go (leb (memory.live + (size_of t + 1)) live_limit) refl
  where
    frame : MatchesFrame layout (with_segment t injection memory) s.variables memory.frames.units memory.types memory.frames.unit x
    frame = frame_here matches t number described valid starts x k home.unit

    -- the slots that are kept are what they were
    kept : (unit j : ℕ) → IsTrue (untouched.of_units unit j)
        → slot_in (with_place number k frame.slots memory) unit j ≡ slot_in memory.frames unit j
    kept unit j is_kept = elim (ℕ_discrete memory.frames.unit unit) [ yes e ↦ own e | no e ↦ other e ]
      where
        new_slots_here : slice_get (slice_set memory.frames.units memory.frames.unit (slice_set frame.slots k (Some (new_place memory number)))) memory.frames.unit ≡ Some (slice_set frame.slots k (Some (new_place memory number)))
        new_slots_here = slice_get-set-same memory.frames.units memory.frames.unit (slice_set frame.slots k (Some (new_place memory number))) frame.slots frame.is

        own : memory.frames.unit ≡ unit
            → slot_in (with_place number k frame.slots memory) unit j ≡ slot_in memory.frames unit j
        own e =
            let different : (k ≡ j → ⊥) = λ q. free (subst (λ i. IsTrue (untouched.of_units i k)) (sym e) (subst (λ i. IsTrue (untouched.of_units unit i)) (sym q) is_kept)) in
            subst (λ u. slot_in (with_place number k frame.slots memory) u j ≡ slot_in memory.frames u j) e
            (ap (λ o. slot_of_frame o j) new_slots_here ∙ (slice_get-set-other frame.slots k j (Some (new_place memory number)) different ∙ sym (ap (λ o. slot_of_frame o j) frame.is)))

        other : (memory.frames.unit ≡ unit → ⊥)
            → slot_in (with_place number k frame.slots memory) unit j ≡ slot_in memory.frames unit j
        other e = ap (λ o. slot_of_frame o j) (slice_get-set-other memory.frames.units memory.frames.unit unit (slice_set frame.slots k (Some (new_place memory number))) e)

    leads : (b : Bool) → leb (memory.live + (size_of t + 1)) live_limit ≡ b
        → outcome G (at place (Word (pos number) ∷ below) memory s.trace) ≡ cond b (record { weight = size_of t; to = Running 0 (at (place + 1) below (with_variable t number (with_place number k frame.slots memory) memory) s.trace) }) (in_one (Stopped (Error run_error.STORAGE_LIMIT (unit_in G memory.frames) line) s.trace))
    leads b e = make_outcome G place line below t number k frame.slots memory s.trace b has home.calls frame.is described starts (omega (arith, within, frame.count)) e

    go : (b : Bool) → leb (memory.live + (size_of t + 1)) live_limit ≡ b
        → Does layout G Here (at place (Word (pos number) ∷ below) memory s.trace) (size_of t) (place + 1) (Inside untouched injection memory (Bare below tt)) (made x.name k t (counted t s)) ⊎ GivesUp G (at place (Word (pos number) ∷ below) memory s.trace) 0 1 (counted t s)
    go true e =
        inl (record {
          injection = with_segment t injection memory;
          memory = with_variable t number (with_place number k frame.slots memory) memory;
          operands = below;
          does = leads true e;
          matches = matches_making matches t number described valid starts x k home.unit within declared_so distinct;
          here = lasts.by injection (with_segment t injection memory) s (made x.name k t (counted t s)) memory (with_variable t number (with_place number k frame.slots memory) memory) (record { grown = grown_making t injection memory number (with_place number k frame.slots memory) kept; routine = record { turn = refl; routine = refl; unit = refl; calls = same_call-refl memory.frames.calls; slots = λ j kept. refl }; own = λ j. refl; calls = refl }) known;
          post = record { grown = grown_making t injection memory number (with_place number k frame.slots memory) kept; routine = record { turn = refl; routine = refl; unit = refl; calls = same_call-refl memory.frames.calls; slots = λ j kept. refl }; operands_are = refl };
        })
    go false e =
        let many : live_limit < memory.live + (size_of t + 1) = grind (arith, nat_tests) in
        let counted_here : Resources = record s.resources { allocated = s.resources.allocated + (size_of t + 1) } in
        inr (gives_up (leads false e) (inl refl) (is_prefix s.trace) (lost_words counted_here (past_limit (memory.live + (size_of t + 1)) counted_here many (omega (arith, live_bounded matches.counts)))))
