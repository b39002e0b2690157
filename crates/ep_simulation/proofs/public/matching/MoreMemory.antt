-- Memory grows while a routine runs.
use Rattle.std.proofs.Common.{◌≡◌, ℕ, zero, suc, ◌+◌, ◌≤◌, ◌<◌, ◌⊎◌, inl, inr, List, [], ◌∷◌, ◌++◌, length, Option, Some, None, option_map, slice_get, refl, sym, ap, ◌∙◌, subst, arith}
use Rattle.std.proofs.lemmas.Option.{slice_get_within}
use Rattle.ep_simulation.specs.Follows.{Facts, IsStillCall, IsSameCall, IsNotLeft, StillRuns, HasGrown, Lasts, Since, SameRoutine, Inside, Operands}
use Rattle.ep_meaning.specs.Steps.{Component}
use Rattle.ep_meaning.specs.Steps as meaning
use Rattle.ep_object.specs.Frames.{routine_over}
use Rattle.ep_simulation.specs.Matching.{MachineMemory, Injection, IsIn, IsOf, IsSpot, AreBare, AreEntries, Describes, IsBare, IsKindOf, IsLike, Slots, every_slot, AreAmong, Grown}
use Rattle.ep_object.specs.Operands.{Operand}
use Rattle.ep_object.specs.Routines.{unit_of}
use Rattle.ep_object.specs.Runs.{name_of, unit_in}
use Rattle.ep_simulation.specs.Starts.{words_kept}
use Rattle.ep_object.specs.State.{Frame, Frames, TypeTable, bare_number, text_entry}
use Rattle.ep_object.specs.Types.{ordinal_entry, array_entry, record_entry, set_entry}
use Rattle.ep_object.specs.declared.code.Image.{Image}
use Rattle.ep_object.specs.declared.state.TypeKind.{TypeKind}
use Rattle.ep_object.specs.declared.state.Place.{Place}
use Rattle.ep_object.specs.declared.state.RecordPart.{RecordPart}
use Rattle.ep_object.specs.declared.state.Segment.{Segment}
use Rattle.ep_object.specs.declared.state.TypeEntry.{TypeEntry}
use Rattle.ep_object.proofs.public.Grows.{is_prefix, prefix_then}
use Rattle.ep_outside.specs.Known.{IsPrefix}
use Rattle.ep_values.specs.TypeValues.{ComponentTypes, TypeValue, size_of}
use Rattle.ep_values.specs.TypeValues as type

-- an element of a front is the same one of the whole
pub slice_get-prefix : {A : Type 0} (xs ys : List A) (i : ℕ) (x : A) → IsPrefix xs ys → slice_get xs i ≡ Some x
    → slice_get ys i ≡ Some x
slice_get-prefix {A = A} xs ys i x p h = subst (λ l. slice_get l i ≡ Some x) (sym p.is) (go xs i h)
  where
    go : (l : List A) (i : ℕ) → slice_get l i ≡ Some x → slice_get (l ++ p.rest) i ≡ Some x
    go [] i h = cc
    go (y ∷ l) zero h = h
    go (y ∷ l) (suc i) h = go l i h

-- and so is what is told of it
pub mapped-prefix : {A B : Type 0} (f : A → B) (xs ys : List A) (i : ℕ) (y : B) → IsPrefix xs ys
    → option_map f (slice_get xs i) ≡ Some y → option_map f (slice_get ys i) ≡ Some y
mapped-prefix {A = A} f xs ys i y p h = go (slice_get xs i) refl h
  where
    go : (o : Option A) → slice_get xs i ≡ o → option_map f o ≡ Some y → option_map f (slice_get ys i) ≡ Some y
    go None e k = cc
    go (Some x) e k = ap (option_map f) (slice_get-prefix xs ys i x p e) ∙ k

-- allocations stay where they are
pub is_in-longer : (injection longer : Injection) (n segment : ℕ) → IsPrefix injection longer
    → IsIn injection n segment → IsIn longer n segment
is_in-longer injection longer zero segment p h = h
is_in-longer injection longer (suc n) segment p h = mapped-prefix (λ m. m.segment) injection longer n segment p h

-- and keep their types
pub is_of-longer : (injection longer : Injection) (n : ℕ) (t : TypeValue) → IsPrefix injection longer
    → IsOf injection n t → IsOf longer n t
is_of-longer injection longer zero t p h = h
is_of-longer injection longer (suc n) t p h = mapped-prefix (λ m. m.type_value) injection longer n t p h

-- slots are among themselves
pub among_same : {some : Slots} → AreAmong some some
among_same = record { of_units = λ unit k h. h; own = λ k h. h }

-- a number is before another one or not
pub before_or_not : (a b : ℕ) → (a ≤ b) ⊎ (b < a)
before_or_not a b = grind arith

-- memory has grown from itself
pub grown_refl : {untouched : Slots} (injection : Injection) (memory : MachineMemory)
    → Grown untouched injection memory injection memory
grown_refl injection memory =
    record {
      larger = is_prefix injection;
      types = is_prefix memory.types;
      segments = omega arith;
      hidden = λ segment le h. h;
      others = λ segment le h. refl;
      allocated = λ segment y le h. absurd (let w : segment < length memory.segments = slice_get_within memory.segments segment (Some y) h in omega (arith, w, le));
      slots = λ unit k kept. refl;
      typed = λ segment x y p q. same_type segment x y (sym p ∙ q);
      ended = λ segment y le h. (y, h);
    }
  where
    same_type : (segment : ℕ) (x y : Segment)
        → ◌≡◌ {A = Option (Option Segment)} (Some (Some x)) (Some (Some y)) → y.type_number ≡ x.type_number
    same_type segment x y h =
        let e : y ≡ x = cc in ap (λ (z : Segment). z.type_number) e

-- what has grown from what has grown
pub grown_trans : {untouched : Slots} {injection longer last : Injection} {memory after final : MachineMemory}
    → Grown untouched injection memory longer after → Grown untouched longer after last final
    → Grown untouched injection memory last final
grown_trans {longer = longer} {last = last} {memory = memory} {after = after} {final = final} p q =
    record {
      larger = prefix_then p.larger q.larger;
      types = prefix_then p.types q.types;
      segments = omega (arith, p.segments, q.segments);
      hidden = λ segment le h. q.hidden segment (omega (arith, p.segments)) (p.hidden segment le h);
      others = λ segment le h. q.others segment (omega (arith, p.segments)) (p.hidden segment le h) ∙ p.others segment le h;
      allocated = λ segment z le hz. allocated segment z le hz (before_or_not (length after.segments) segment);
      slots = λ unit k kept. q.slots unit k kept ∙ p.slots unit k kept;
      typed = λ segment x z hx hz.
          let w : segment < length memory.segments = slice_get_within memory.segments segment (Some x) hx in
          let y = q.ended segment z (omega (arith, p.segments)) hz in
          q.typed segment y.0 z y.1 hz ∙ p.typed segment x y.0 hx y.1;
      ended = λ segment z le hz.
          let y = q.ended segment z (omega (arith, p.segments)) hz in
          p.ended segment y.0 le y.1;
    }
  where
    -- a new segment that lives is that of an allocation, which was made in the first part or in the second
    allocated : (segment : ℕ) (z : Segment) → length memory.segments ≤ segment
        → slice_get final.segments segment ≡ Some (Some z)
        → (length after.segments ≤ segment) ⊎ (segment < length after.segments)
        → (n : ℕ) × IsIn last n segment
    allocated segment z le hz (inl new) = q.allocated segment z new hz
    allocated segment z le hz (inr old) =
        let y = q.ended segment z (omega (arith, old)) hz in
        let n = p.allocated segment y.0 le y.1 in (n.0, is_in-longer longer last n.0 segment q.larger n.1)

mutual
  -- a bare form stays one in a longer table
  pub bare-longer : (types longer : TypeTable) (n : ℕ) (t : TypeValue) → IsPrefix types longer
      → IsBare types n t → IsBare longer n t
  bare-longer types longer n (type.Ordinal low high) p h = slice_get-prefix types longer n (ordinal_entry low high) p h
  bare-longer types longer n type.Text p h = slice_get-prefix types longer n text_entry p h
  bare-longer types longer n (type.Array low high of) p h =
      (h.0, slice_get-prefix types longer n (array_entry low high h.0 (size_of (type.Array low high of))) p h.1, bare-longer types longer h.0 of p h.2)
  bare-longer types longer n (type.Record ts) p h =
      (h.0, slice_get-prefix types longer n (record_entry h.0 (size_of (type.Record ts))) p h.1, each_bare-longer types longer 0 h.0 ts p h.2)
  bare-longer types longer n (type.Set low high) p h = slice_get-prefix types longer n (set_entry low high) p h
  bare-longer types longer n (type.Initial of start) p h = bare-longer types longer n of p h

  pub each_bare-longer : (types longer : TypeTable) (before : ℕ) (parts : List RecordPart) (ts : ComponentTypes) → IsPrefix types longer
      → AreBare types before parts ts → AreBare longer before parts ts
  each_bare-longer types longer before [] type.no_component p h = tt
  each_bare-longer types longer before [] (type.next_component t ts) p h = absurd h
  each_bare-longer types longer before (q ∷ qs) type.no_component p h = absurd h
  each_bare-longer types longer before (q ∷ qs) (type.next_component t ts) p h =
      (h.0, bare-longer types longer q.type_number t p h.1, each_bare-longer types longer (before + size_of t) qs ts p h.2)

-- the entry of a type value
abbrev pub entry_as : TypeValue → TypeKind → Option ℕ → TypeEntry
entry_as t kind bare = record { kind = kind; size = size_of t; start = words_kept t; bare = bare }

mutual
  -- a kind stays that of a type value
  pub kind-longer : (types longer : TypeTable) (t : TypeValue) (k : TypeKind) → IsPrefix types longer → IsKindOf types t k → IsKindOf longer t k
  kind-longer types longer (type.Ordinal low high) k p h = h
  kind-longer types longer type.Text k p h = h
  kind-longer types longer (type.Array low high of) k p h =
      let e = h.2 in
      (h.0, h.1, record { kind = e.kind; bare = e.bare; stands = slice_get-prefix types longer h.0 (entry_as of e.kind e.bare) p e.stands; is_kind = kind-longer types longer of e.kind p e.is_kind; form = bare-longer types longer (bare_number h.0 e.bare) of p e.form; other = e.other })
  kind-longer types longer (type.Record ts) k p h = (h.0, h.1, entries-longer types longer 0 h.0 ts p h.2)
  kind-longer types longer (type.Set low high) k p h = h
  kind-longer types longer (type.Initial of start) k p h = kind-longer types longer of k p h

  pub entries-longer : (types longer : TypeTable) (before : ℕ) (parts : List RecordPart) (ts : ComponentTypes) → IsPrefix types longer
      → AreEntries types before parts ts → AreEntries longer before parts ts
  entries-longer types longer before [] type.no_component p h = tt
  entries-longer types longer before [] (type.next_component t ts) p h = absurd h
  entries-longer types longer before (q ∷ qs) type.no_component p h = absurd h
  entries-longer types longer before (q ∷ qs) (type.next_component t ts) p h =
      let e = h.1 in
      (h.0, record { kind = e.kind; bare = e.bare; stands = slice_get-prefix types longer q.type_number (entry_as t e.kind e.bare) p e.stands; is_kind = kind-longer types longer t e.kind p e.is_kind; form = bare-longer types longer (bare_number q.type_number e.bare) t p e.form; other = e.other }, entries-longer types longer (before + size_of t) qs ts p h.2)

-- a number keeps its type in a longer table
pub described-longer : (types longer : TypeTable) (n : ℕ) (t : TypeValue) → IsPrefix types longer
    → Describes types n t → Describes longer n t
described-longer types longer n t p e =
    record { kind = e.kind; bare = e.bare; stands = slice_get-prefix types longer n (entry_as t e.kind e.bare) p e.stands; is_kind = kind-longer types longer t e.kind p e.is_kind; form = bare-longer types longer (bare_number n e.bare) t p e.form; other = e.other }

-- and so does one that tells it but for initial states
pub like-longer : (types longer : TypeTable) (n : ℕ) (t : TypeValue) → IsPrefix types longer
    → IsLike types n t → IsLike longer n t
like-longer types longer n t p h = (h.0, h.1, described-longer types longer n h.0 p h.2)

-- a type stays what it is
pub describes-grown : {untouched : Slots} {injection longer : Injection} {memory after : MachineMemory} (n : ℕ) (type_value : TypeValue)
    → Grown untouched injection memory longer after → IsLike memory.types n type_value
    → IsLike after.types n type_value
describes-grown {memory = memory} {after = after} n t g h = like-longer memory.types after.types n t g.types h

-- the place of a variable stays its place
pub is_spot-grown : {untouched : Slots} {injection longer : Injection} {memory after : MachineMemory} {v : Component} {place : Place}
    → Grown untouched injection memory longer after → IsSpot injection memory.types v place
    → IsSpot longer after.types v place
is_spot-grown {injection = injection} {longer = longer} {v = v} {place = place} g h =
    record {
      is_in = is_in-longer injection longer v.allocation place.segment g.larger h.is_in;
      root = h.root;
      is_of = is_of-longer injection longer v.allocation h.root g.larger h.is_of;
      type_value = h.type_value;
      leads = h.leads;
      described = describes-grown place.type_number h.type_value g h.described;
    }

-- the innermost call is the same as itself
pub same_call-refl : (calls : List Frame) → IsSameCall calls calls
same_call-refl [] = tt
same_call-refl (c ∷ calls) = (refl, refl, refl, refl, refl, refl)

-- and the same as one that is the same
same_call-trans : (a b c : List Frame) → IsSameCall a b → IsSameCall b c → IsSameCall a c
same_call-trans [] [] [] p q = tt
same_call-trans [] [] (z ∷ c) p q = q
same_call-trans [] (y ∷ b) c p q = absurd p
same_call-trans (x ∷ a) [] c p q = absurd p
same_call-trans (x ∷ a) (y ∷ b) [] p q = q
same_call-trans (x ∷ a) (y ∷ b) (z ∷ c) (p, r, s, t, u, v) (p2, r2, s2, t2, u2, v2) = (p2 ∙ p, r2 ∙ r, s2 ∙ s, t2 ∙ t, u2 ∙ u, v2 ∙ v)

-- the same call is still the same one
still_same : (a b : List Frame) → IsSameCall a b → IsStillCall a b
still_same [] [] p = tt
still_same [] (y ∷ b) p = p
still_same (x ∷ a) [] p = p
still_same (x ∷ a) (y ∷ b) (p, r, s, t, u, v) = (p, r, s, t)

-- and so is one that is still that one
still_trans : (a b c : List Frame) → IsStillCall a b → IsStillCall b c → IsStillCall a c
still_trans [] [] [] p q = tt
still_trans [] [] (z ∷ c) p q = q
still_trans [] (y ∷ b) c p q = absurd p
still_trans (x ∷ a) [] c p q = absurd p
still_trans (x ∷ a) (y ∷ b) [] p q = q
still_trans (x ∷ a) (y ∷ b) (z ∷ c) (p, r, s, t) (p2, r2, s2, t2) = (p2 ∙ p, r2 ∙ r, s2 ∙ s, t2 ∙ t)

-- where there is no call there is none
pub no_calls : (a b : List Frame) → IsSameCall a b → a ≡ [] → b ≡ []
no_calls [] [] p e = refl
no_calls [] (y ∷ b) p e = absurd p
no_calls (x ∷ a) b p e = cc

-- both have the same routine
same_call-routine : (a b : List Frame) (r : ℕ) → IsStillCall a b → routine_over b r ≡ routine_over a r
same_call-routine [] [] r p = refl
same_call-routine [] (y ∷ b) r p = absurd p
same_call-routine (x ∷ a) [] r p = absurd p
same_call-routine (x ∷ a) (y ∷ b) r p = p.0

-- the routine is the same as itself
pub same_routine-refl : {untouched : Slots} (frames : Frames) → SameRoutine untouched frames frames
same_routine-refl frames = record { turn = refl; routine = refl; unit = refl; calls = same_call-refl frames.calls; slots = λ k kept. refl }

-- and the same as one that is the same
pub same_routine-trans : {untouched : Slots} {a b c : Frames} → SameRoutine untouched a b → SameRoutine untouched b c → SameRoutine untouched a c
same_routine-trans {a = a} {b = b} {c = c} p q = record { turn = q.turn ∙ p.turn; routine = q.routine ∙ p.routine; unit = q.unit ∙ p.unit; calls = same_call-trans a.calls b.calls c.calls p.calls q.calls; slots = λ k kept. q.slots k kept ∙ p.slots k kept }

-- a routine that is the same still runs
pub still_routine : {untouched : Slots} {a b : Frames} → SameRoutine untouched a b → StillRuns a b
still_routine {a = a} {b = b} p = record { turn = p.turn; routine = p.routine; unit = p.unit; calls = still_same a.calls b.calls p.calls }

-- a routine that still runs is not left
pub not_left-still : {a b : Frames} → StillRuns a b → IsNotLeft a b
not_left-still {b = b} p = record { over = []; own = b.calls; is = refl; runs = record { turn = p.turn; routine = p.routine; unit = p.unit; calls = p.calls } }

pub not_left-same : {untouched : Slots} {a b : Frames} → SameRoutine untouched a b → IsNotLeft a b
not_left-same p = not_left-still (still_routine p)

-- a routine that has just been entered is not left
pub not_left-here : (frames : Frames) → IsNotLeft frames frames
not_left-here frames = not_left-same (same_routine-refl {untouched = every_slot} frames)

-- and what still runs then still runs
pub still_runs-trans : {a b c : Frames} → StillRuns a b → StillRuns b c → StillRuns a c
still_runs-trans {a = a} {b = b} {c = c} p q = record { turn = q.turn ∙ p.turn; routine = q.routine ∙ p.routine; unit = q.unit ∙ p.unit; calls = still_trans a.calls b.calls c.calls p.calls q.calls }

-- a routine is not left while it still runs, or after that while it is not left
pub not_left-later : {a b c : Frames} → StillRuns a b → IsNotLeft b c → IsNotLeft a c
not_left-later {a = a} {b = b} p q =
    let r = q.runs in
    record {
      over = q.over;
      own = q.own;
      is = q.is;
      runs = record {
        turn = r.turn ∙ p.turn;
        routine = r.routine ∙ p.routine;
        unit = r.unit ∙ p.unit;
        calls = still_trans a.calls b.calls q.own p.calls r.calls;
      };
    }

-- while a routine still runs, errors tell the same unit
pub unit_in-still : (G : Image) {before after : Frames} → StillRuns before after → unit_in G after ≡ unit_in G before
unit_in-still G {before = before} {after = after} h = ap (λ r. name_of (unit_of G (slice_get G.routines r))) (same_call-routine before.calls after.calls after.routine h.calls ∙ ap (routine_over before.calls) h.routine)

pub unit_in-same : (G : Image) {untouched : Slots} {before after : Frames} → SameRoutine untouched before after
    → unit_in G after ≡ unit_in G before
unit_in-same G h = unit_in-still G (still_routine h)

-- where nothing has grown yet
pub inside_here : {untouched : Slots} {injection : Injection} {memory : MachineMemory} {Then : Operands} {operands : List Operand}
    → Then injection memory operands → Inside untouched injection memory Then injection memory operands
inside_here {injection = injection} {memory = memory} h = record { grown = grown_refl injection memory; routine = same_routine-refl memory.frames; operands_are = h }

-- what is inside of a later memory is inside of an earlier one
pub inside_later : {untouched : Slots} {injection longer last : Injection} {memory after final : MachineMemory} {Then : Operands} {operands : List Operand}
    → Grown untouched injection memory longer after → SameRoutine untouched memory.frames after.frames
    → Inside untouched longer after Then last final operands
    → Inside untouched injection memory Then last final operands
inside_later g r h = record { grown = grown_trans g h.grown; routine = same_routine-trans r h.routine; operands_are = h.operands_are }

-- memory has grown so since now
pub since_here : {untouched : Slots} (injection : Injection) (s : meaning.State) (memory : MachineMemory)
    → HasGrown untouched injection s memory injection s memory
since_here injection s memory = record { grown = grown_refl injection memory; routine = same_routine-refl memory.frames; own = λ k. refl; calls = refl }

-- and that lasts
pub since_lasts : {untouched : Slots} {injection : Injection} {s : meaning.State} {memory : MachineMemory}
    → Lasts untouched (Since untouched injection s memory)
since_lasts = record { by = λ longer last t u after final more h. record { grown = grown_trans h.grown more.grown; routine = same_routine-trans h.routine more.routine; own = λ k. more.own k ∙ h.own k; calls = more.calls ∙ h.calls } }

-- Whatever lasts and held then holds where memory has grown so since.
pub since_holds : {untouched : Slots} {Here : Facts} {injection longer : Injection} {s t : meaning.State} {memory after : MachineMemory}
    → Lasts untouched Here → Here injection s memory → Since untouched injection s memory longer t after
    → Here longer t after
since_holds {injection = injection} {longer = longer} {s = s} {t = t} {memory = memory} {after = after} lasts held since = lasts.by injection longer s t memory after since held
