-- A variable is made: the machine goes on matching with one more segment.
use Rattle.std.proofs.Common.{length-append, ◌≡◌, ℕ, zero, suc, ◌+◌, ◌≤◌, ◌<◌, ◌⊎◌, inl, inr, Bool, true, false, ◌&&◌, IsTrue, List, [], ◌∷◌, ◌++◌, length, Option, Some, None, option_map, slice_get, slice_set, refl, sym, ap, ◌∙◌, subst, arith}
use Rattle.std.specs.Prelude.{nat_le, if◌then◌else◌}
use Rattle.std.specs.Str.{bytes_eq}
use Rattle.std.proofs.lemmas.Bool.Decides.{nat_tests}
use Rattle.std.proofs.lemmas.Option.{slice_get_within, same_Some}
use Rattle.std.proofs.lemmas.Slice.Eq.{bytes_eq-Decides}
use native.Mathlib.Decide.{ℕ_discrete}
use Rattle.ep_simulation.specs.Layouts.{Layout}
use Rattle.ep_simulation.specs.Matching.{MachineMemory, Mapped, Injection, IsIn, IsOf, IsSpot, IsOfType, Describes, IsHidden, IsLike, Slots, every_slot, slot_in, MatchesSlot, MatchesInjection, MatchesFrame, MatchesCounts, hidden_words, IsRepresented, HasType, Matches, Grown}
use Rattle.ep_simulation.specs.Starts.{AreStarts, start_words}
use Rattle.ep_object.specs.Placing.{HasDistinctNames}
use Rattle.ep_object.specs.State.{Frames}
use Rattle.ep_object.specs.declared.code.Image.{Image}
use Rattle.ep_object.specs.declared.code.ImageUnit.{ImageUnit}
use Rattle.ep_object.specs.declared.state.Place.{Place}
use Rattle.ep_object.specs.declared.state.Segment.{Segment}
use Rattle.ep_simulation.proofs.matching.Changes.{matches_frame-grown, of_type-same}
use Rattle.ep_object.proofs.public.Elements.{slice_get-push, slice_get-pushed, mapped-push, slice_get-set-same, slice_get-set-other, length-set}
use Rattle.ep_simulation.proofs.public.matching.MoreMemory.{slice_get-prefix, is_in-longer, is_of-longer}
use Rattle.ep_object.proofs.public.Grows.{is_prefix}
use Rattle.ep_simulation.proofs.matching.HiddenWords.{hidden_words-pushed}
use Rattle.ep_simulation.proofs.matching.NewSegments.{fresh_holds, new_segment}
use Rattle.ep_simulation.proofs.matching.Starting.{starts_length}
use Rattle.ep_simulation.proofs.public.matching.Standing.{slice_get-some, mapped_within, both, one_type_of, represented-same, represented-longer, living_represented, allocated}
use Rattle.ep_values.specs.Values.{start_of}
use Rattle.ep_meaning.specs.Steps.{Component, whole, type_along, Allocation, allocation_at, type_in, ended_in, bound, counted, made}
use Rattle.ep_meaning.specs.Steps as meaning
use Rattle.ep_meaning.specs.Valid.{IsTypeValue}
use Rattle.ep_values.specs.TypeValues as type
use Rattle.ep_values.specs.TypeValues.{TypeValue, bare_of, size_of}
use Rattle.ep_typed.specs.declared.unit.UnitVariable.{UnitVariable}

-- ---- what is bound

-- two names are the same or not
pub same_name : (a b : List ℕ) → (a ≡ b) ⊎ (a ≡ b → ⊥)
same_name a b = go (bytes_eq a b) refl
  where
    go : (t : Bool) → bytes_eq a b ≡ t → (a ≡ b) ⊎ (a ≡ b → ⊥)
    go true e = inl ((bytes_eq-Decides a b).0 e)
    go false e = inr (λ q. let t = (bytes_eq-Decides a b).1 q in cc)

module _ (unit : List ℕ) (number : ℕ) (n : Component) (variables : List ℕ → ℕ → Option Component) where
  -- the variable that is bound is that one
  pub bound-same : bound unit number n variables unit number ≡ Some n
  bound-same =
      let name : bytes_eq unit unit ≡ true = (bytes_eq-Decides unit unit).1 refl in
      let self : nat_le number number ≡ true = grind (arith, nat_tests) in
      rw (name, self) refl

  -- a variable of another name or of another number stays what it is
  pub bound-other : (u : List ℕ) (k : ℕ) → (unit ≡ u → number ≡ k → ⊥)
      → bound unit number n variables u k ≡ variables u k
  bound-other u k other = by_name (bytes_eq unit u) refl
    where
      by_number : (number ≡ k → ⊥) → (b : Bool) → (nat_le number k && nat_le k number) ≡ b
          → (if b then Some n else variables u k) ≡ variables u k
      by_number different true e =
          let p = both (nat_le number k) (nat_le k number) e in
          let same : number ≡ k = let x = p.0 in let y = p.1 in grind (arith, nat_tests) in
          absurd (different same)
      by_number different false e = refl

      by_name : (b : Bool) → bytes_eq unit u ≡ b
          → (if b && (nat_le number k && nat_le k number) then Some n else variables u k) ≡ variables u k
      by_name true e = by_number (other ((bytes_eq-Decides unit u).0 e)) (nat_le number k && nat_le k number) refl
      by_name false e = refl

-- ---- a list with one more element

-- the elements before it are the same
slice_get-before : {A : Type 0} (xs : List A) (x : A) (i : ℕ) → i < length xs
    → slice_get (xs ++ x ∷ []) i ≡ slice_get xs i
slice_get-before xs x i h = let y = slice_get-some xs i h in slice_get-prefix xs (xs ++ x ∷ []) i y.0 (record { rest = x ∷ []; is = refl }) y.1 ∙ sym y.1

-- an allocation keeps its type
pub type_more : (allocations : List Allocation) (a : Allocation) (n : ℕ) (t : TypeValue)
    → type_in (allocation_at allocations n) ≡ Some t → type_in (allocation_at (allocations ++ a ∷ []) n) ≡ Some t
type_more allocations a zero t is = is
type_more allocations a (suc n) t is = go (slice_get allocations n) refl
  where
    go : (o : Option Allocation) → slice_get allocations n ≡ o
        → type_in (slice_get (allocations ++ a ∷ []) n) ≡ Some t
    go None e = let none : ◌≡◌ {A = Option TypeValue} None (Some t) = sym (ap type_in e) ∙ is in cc
    go (Some b) e = ap type_in (slice_get-prefix allocations (allocations ++ a ∷ []) n b (record { rest = a ∷ []; is = refl }) e) ∙ sym (ap type_in e) ∙ is

-- but for initial states too
pub bare_more : (allocations : List Allocation) (a : Allocation) (n : ℕ) (u : TypeValue)
    → option_map bare_of (type_in (allocation_at allocations n)) ≡ Some u → option_map bare_of (type_in (allocation_at (allocations ++ a ∷ []) n)) ≡ Some u
bare_more allocations a n u is = go (type_in (allocation_at allocations n)) refl is
  where
    go : (o : Option TypeValue) → type_in (allocation_at allocations n) ≡ o → option_map bare_of o ≡ Some u
        → option_map bare_of (type_in (allocation_at (allocations ++ a ∷ []) n)) ≡ Some u
    go None e f = cc
    go (Some t) e f = ap (option_map bare_of) (type_more allocations a n t e) ∙ f

-- a variable keeps its type
pub of_type-more : {Holds : TypeValue → Type 0} (allocations : List Allocation) (a : Allocation) (c : Component)
    → IsOfType allocations c Holds → IsOfType (allocations ++ a ∷ []) c Holds
of_type-more {Holds = Holds} allocations a c h = go (type_in (allocation_at allocations c.allocation)) refl c.path h.is
  where
    kept : (t : TypeValue) → type_in (allocation_at allocations c.allocation) ≡ Some t
        → IsOfType (allocations ++ a ∷ []) c Holds
    kept t e = of_type-same c (type_more allocations a c.allocation t e ∙ sym e) h

    go : (o : Option TypeValue) → type_in (allocation_at allocations c.allocation) ≡ o → (path : List ℕ)
        → option_map bare_of (type_along (type_in (allocation_at allocations c.allocation)) path) ≡ Some h.type_value → IsOfType (allocations ++ a ∷ []) c Holds
    go (Some t) e path is = kept t e
    go None e [] is = let none : ◌≡◌ {A = Option TypeValue} None (Some h.type_value) = sym (ap (option_map bare_of) e) ∙ is in absurd cc
    go None e (k ∷ path) is = let none : ◌≡◌ {A = Option TypeValue} None (Some h.type_value) = sym (ap (λ o. option_map bare_of (type_along o (k ∷ path))) e) ∙ is in absurd cc

-- ---- the memory with one more variable

-- its place
abbrev pub new_place : MachineMemory → ℕ → Place
new_place memory number = record { segment = length memory.segments; offset = 0; type_number = number }

-- one more variable of a type, which has this number, with these frames
abbrev pub with_variable : TypeValue → ℕ → Frames → MachineMemory → MachineMemory
with_variable t number frames memory = record memory { frames = frames; segments = memory.segments ++ Some (new_segment number t) ∷ []; live = memory.live + (size_of t + 1) }

-- the frames with its place in a slot of the unit's frame
abbrev pub with_place : ℕ → ℕ → List (Option Place) → MachineMemory → Frames
with_place number k slots memory = record memory.frames { units = slice_set memory.frames.units memory.frames.unit (slice_set slots k (Some (new_place memory number))) }

-- where an allocation of the type is that is made next
abbrev pub next_item : TypeValue → MachineMemory → Mapped
next_item t memory = record { segment = length memory.segments; type_value = bare_of t }

-- the injection with it
abbrev pub with_segment : TypeValue → Injection → MachineMemory → Injection
with_segment t injection memory = injection ++ next_item t memory ∷ []

-- an allocation is one that was there, or the new one
abbrev pub IsOldOrNew : Injection → MachineMemory → ℕ → ℕ → Type 0
IsOldOrNew injection memory n segment = IsIn injection n segment ⊎ ((n ≡ suc (length injection)) × (segment ≡ length memory.segments))

is_in-either : (t : TypeValue) (injection : Injection) (memory : MachineMemory) (n segment : ℕ)
    → IsIn (with_segment t injection memory) n segment → IsOldOrNew injection memory n segment
is_in-either t injection memory zero segment h = absurd h
is_in-either t injection memory (suc n) segment h = elim (mapped-push (λ m. m.segment) injection (next_item t memory) segment n h) [ inl p ↦ inl p | inr p ↦ inr (ap suc p.0, p.1) ]

-- and so is its type
is_of-either : (t : TypeValue) (injection : Injection) (memory : MachineMemory) (n : ℕ) (u : TypeValue)
    → IsOf (with_segment t injection memory) n u → IsOf injection n u ⊎ ((n ≡ suc (length injection)) × (u ≡ bare_of t))
is_of-either t injection memory zero u h = absurd h
is_of-either t injection memory (suc n) u h = elim (mapped-push (λ m. m.type_value) injection (next_item t memory) u n h) [ inl p ↦ inl p | inr p ↦ inr (ap suc p.0, p.1) ]

-- no allocation has a number above those that were made
is_in-within : (injection : Injection) (n segment : ℕ) → IsIn injection n segment → n ≤ length injection
is_in-within injection zero segment h = absurd h
is_in-within injection (suc n) segment h = let w : n < length injection = mapped_within (λ m. m.segment) injection n segment h in omega arith

-- memory grows by the new segment
pub grown_making : {untouched : Slots} (t : TypeValue) (injection : Injection) (memory : MachineMemory) (number : ℕ) (frames : Frames)
    → ((unit k : ℕ) → IsTrue (untouched.of_units unit k) → slot_in frames unit k ≡ slot_in memory.frames unit k)
    → Grown untouched injection memory (with_segment t injection memory) (with_variable t number frames memory)
grown_making t injection memory number frames kept =
    record {
      larger = record { rest = next_item t memory ∷ []; is = refl };
      types = is_prefix memory.types;
      segments = omega (arith, length-append memory.segments (Some (new_segment number t) ∷ []));
      hidden = λ segment le hidden n is_in. stays_hidden segment le hidden n (is_in-either t injection memory n segment is_in);
      others = λ segment le hidden. slice_get-before memory.segments (Some (new_segment number t)) segment le;
      allocated = λ segment y le q. new_allocated segment le (slice_get_within (memory.segments ++ Some (new_segment number t) ∷ []) segment (Some y) q);
      slots = kept;
      typed = λ segment x y p q. same_type segment x y p (sym (slice_get-before memory.segments (Some (new_segment number t)) segment (slice_get_within memory.segments segment (Some x) p)) ∙ q);
      ended = λ segment y le q. (y, sym (slice_get-before memory.segments (Some (new_segment number t)) segment le) ∙ q);
    }
  where
    -- the only new segment is that of the new allocation
    new_allocated : (segment : ℕ) → length memory.segments ≤ segment
        → segment < length (memory.segments ++ Some (new_segment number t) ∷ [])
        → (n : ℕ) × IsIn (with_segment t injection memory) n segment
    new_allocated segment le less =
        let same : length memory.segments ≡ segment = omega (arith, le, less, length-append memory.segments (Some (new_segment number t) ∷ [])) in
        (suc (length injection), ap (option_map (λ (m : Mapped). m.segment)) (slice_get-pushed injection (next_item t memory)) ∙ ap Some same)

    stays_hidden : (segment : ℕ) → suc segment ≤ length memory.segments → IsHidden injection segment → (n : ℕ)
        → IsOldOrNew injection memory n segment → ⊥
    stays_hidden segment le hidden n (inl h) = hidden n h
    stays_hidden segment le hidden n (inr h) = absurd (omega (arith, h.1))

    same_type : (segment : ℕ) (x y : Segment) → slice_get memory.segments segment ≡ Some (Some x)
        → slice_get memory.segments segment ≡ Some (Some y) → y.type_number ≡ x.type_number
    same_type segment x y p q =
        let e : ◌≡◌ {A = Option (Option Segment)} (Some (Some x)) (Some (Some y)) = sym p ∙ q in
        let z : y ≡ x = cc in ap (λ (s : Segment). s.type_number) z

-- the same where the frames stay what they are
pub grown_same_frames : (t : TypeValue) (injection : Injection) (memory : MachineMemory) (number : ℕ)
    → Grown every_slot injection memory (with_segment t injection memory) (with_variable t number memory.frames memory)
grown_same_frames t injection memory number = grown_making t injection memory number memory.frames (λ unit k kept. refl)

module _ {layout : Layout} {G : Image} {injection : Injection} {s : meaning.State} {memory : MachineMemory} (h : Matches layout G injection s memory) (t : TypeValue) (number : ℕ) (described : Describes memory.types number t) (valid : IsTypeValue t) (starts : AreStarts t) where
  -- the allocation of the new variable
  abbrev pub new_allocation : Allocation
  new_allocation = record { type_value = t; value = start_of t; ended = false }

  abbrev pub its_segment : Option Segment
  its_segment = Some (new_segment number t)

  -- as many allocations as items of the injection
  made_same : length injection ≡ length s.allocations
  made_same = let injected = h.injected in injected.made

  -- the new segment represents the new allocation, and those before are as they were
  pub represented_making : (n segment : ℕ) (a : Allocation) → IsIn (with_segment t injection memory) n segment
      → allocation_at (s.allocations ++ new_allocation ∷ []) n ≡ Some a
      → IsRepresented (with_segment t injection memory) (memory.segments ++ its_segment ∷ []) memory.types segment a
  represented_making zero segment a is_in is = absurd is_in
  represented_making (suc n) segment a is_in is = go (is_in-either t injection memory (suc n) segment is_in) (slice_get-push s.allocations new_allocation a n is)
    where
      go : IsOldOrNew injection memory (suc n) segment
          → (slice_get s.allocations n ≡ Some a) ⊎ ((n ≡ length s.allocations) × (a ≡ new_allocation))
          → IsRepresented (with_segment t injection memory) (memory.segments ++ its_segment ∷ []) memory.types segment a
      go (inl old) (inl before) =
          let store = h.store in
          let injected = h.injected in
          represented-longer injection (with_segment t injection memory) (memory.segments ++ its_segment ∷ []) memory.types segment a (record { rest = next_item t memory ∷ []; is = refl })
          (represented-same injection memory.segments (memory.segments ++ its_segment ∷ []) memory.types segment a (slice_get-before memory.segments its_segment segment (injected.within (suc n) segment old)) (store.represented (suc n) segment a old before))
      go (inl old) (inr last) = absurd (omega (arith, is_in-within injection (suc n) segment old, last.0, made_same))
      go (inr new) (inl before) = absurd (omega (arith, slice_get_within s.allocations n a before, new.0, made_same))
      go (inr new) (inr last) =
          subst (λ j. IsRepresented (with_segment t injection memory) (memory.segments ++ its_segment ∷ []) memory.types j a) (sym new.1)
          (subst (λ b. IsRepresented (with_segment t injection memory) (memory.segments ++ its_segment ∷ []) memory.types (length memory.segments) b) (sym last.1)
          (living_represented (with_segment t injection memory) (memory.segments ++ its_segment ∷ []) memory.types (length memory.segments) new_allocation refl (record {
            type_number = number;
            words = start_words t;
            stands = slice_get-pushed memory.segments its_segment;
            described = described;
            sized = starts_length t starts;
            holds = fresh_holds (with_segment t injection memory) t valid starts;
          })))

  -- no two allocations are in one segment
  apart_making : (m n segment : ℕ) → IsOldOrNew injection memory m segment
      → IsOldOrNew injection memory n segment → m ≡ n
  apart_making m n segment (inl p) (inl q) = let injected = h.injected in injected.apart m n segment p q
  apart_making m n segment (inl p) (inr q) = absurd (let injected = h.injected in omega (arith, injected.within m segment p, q.1))
  apart_making m n segment (inr p) (inl q) = absurd (let injected = h.injected in omega (arith, injected.within n segment q, p.1))
  apart_making m n segment (inr p) (inr q) = p.0 ∙ sym q.0

  -- its place is that of the new variable
  pub new_spot : IsSpot (with_segment t injection memory) memory.types (whole (suc (length s.allocations))) (new_place memory number)
  new_spot =
      record {
        is_in = subst (λ j. option_map (λ (m : Mapped). m.segment) (slice_get (with_segment t injection memory) j) ≡ Some (length memory.segments)) made_same (ap (option_map (λ (m : Mapped). m.segment)) (slice_get-pushed injection (next_item t memory)));
        root = bare_of t;
        is_of = subst (λ j. option_map (λ (m : Mapped). m.type_value) (slice_get (with_segment t injection memory) j) ≡ Some (bare_of t)) made_same (ap (option_map (λ (m : Mapped). m.type_value)) (slice_get-pushed injection (next_item t memory)));
        type_value = bare_of t;
        leads = refl;
        described = (t, refl, described);
      }

  -- `output` lives as before
  pub output_lives : ended_in (allocation_at (s.allocations ++ new_allocation ∷ []) 2) ≡ false
  output_lives =
      let outside = h.outside in
      let a = allocated injection s 2 2 made_same outside.output in
      ap ended_in (slice_get-prefix s.allocations (s.allocations ++ new_allocation ∷ []) 1 a.0 (record { rest = new_allocation ∷ []; is = refl }) a.1) ∙ (sym (ap ended_in a.1) ∙ outside.lives)

  within_making : (n segment : ℕ) → IsOldOrNew injection memory n segment
      → suc segment ≤ length (memory.segments ++ its_segment ∷ [])
  within_making n segment (inl p) = let injected = h.injected in omega (arith, injected.within n segment p, length-append memory.segments (its_segment ∷ []))
  within_making n segment (inr p) = omega (arith, p.1, length-append memory.segments (its_segment ∷ []))

  -- the new allocation has the new segment
  pub injected_making : MatchesInjection (with_segment t injection memory) (s.allocations ++ new_allocation ∷ []) (memory.segments ++ its_segment ∷ [])
  injected_making =
      record {
        made = omega (arith, made_same, length-append injection (next_item t memory ∷ []), length-append s.allocations (new_allocation ∷ []));
        apart = λ m n segment p q. apart_making m n segment (is_in-either t injection memory m segment p) (is_in-either t injection memory n segment q);
        within = λ n segment p. within_making n segment (is_in-either t injection memory n segment p);
        typed = λ n u p. typed_as n u (is_of-either t injection memory n u p);
      }
    where
      typed_as : (n : ℕ) (u : TypeValue) → IsOf injection n u ⊎ ((n ≡ suc (length injection)) × (u ≡ bare_of t))
          → option_map bare_of (type_in (allocation_at (s.allocations ++ new_allocation ∷ []) n)) ≡ Some u
      typed_as n u (inl old) = let injected = h.injected in bare_more s.allocations new_allocation n u (injected.typed n u old)
      typed_as n u (inr new) =
          let newest : n ≡ suc (length s.allocations) = new.0 ∙ ap suc made_same in
          ap (λ i. option_map bare_of (type_in (allocation_at (s.allocations ++ new_allocation ∷ []) i))) newest ∙ (ap (λ o. option_map bare_of (type_in o)) (slice_get-pushed s.allocations new_allocation) ∙ ap Some (sym new.1))

  -- its words are counted on both sides
  pub counts_making : MatchesCounts (with_segment t injection memory) (counted t s).resources (memory.segments ++ its_segment ∷ []) memory.types (memory.live + (size_of t + 1))
  counts_making =
      let counts = h.counts in
      let same : hidden_words (with_segment t injection memory) (memory.segments ++ its_segment ∷ []) ≡ hidden_words injection memory.segments = hidden_words-pushed injection memory.segments (new_segment number t) (bare_of t) in
      record { words = omega (arith, counts.words, same); hidden = omega (arith, counts.hidden, same); number = counts.number }

  module _ (x : ImageUnit) (k : ℕ) (is_unit : slice_get G.units memory.frames.unit ≡ Some x) where
    -- the frame in which the variable is made, where memory has grown
    pub frame_here : MatchesFrame layout (with_segment t injection memory) s.variables memory.frames.units memory.types memory.frames.unit x
    frame_here = let units = h.units in matches_frame-grown {before = s.variables} {after = with_variable t number memory.frames memory} memory.frames.unit x (grown_same_frames t injection memory number) refl (λ j. refl) (units.frames memory.frames.unit x is_unit)

    abbrev pub new_slots : List (Option Place)
    new_slots = slice_set frame_here.slots k (Some (new_place memory number))

    abbrev pub later : MachineMemory
    later = with_variable t number (with_place number k frame_here.slots memory) memory

    abbrev pub later_state : meaning.State
    later_state = made x.name k t (counted t s)

    module _ (within : k < x.slots) (declared_so : (v : UnitVariable) → layout.variables x.name k ≡ Some v → HasType layout x.name v (bare_of t)) where
      -- the slot has the place of the new variable, and the others have theirs
      slot_making : (j : ℕ) (v : UnitVariable) (slot : Option Place) → layout.variables x.name j ≡ Some v
          → slice_get new_slots j ≡ Some slot
          → MatchesSlot (with_segment t injection memory) later.types (later_state.variables x.name j) slot
      slot_making number_at v slot is_declared q = elim (ℕ_discrete k number_at) [ yes e ↦ same number_at slot q e | no e ↦ other number_at slot is_declared q e ]
        where
          same : (j : ℕ) (slot : Option Place) → slice_get new_slots j ≡ Some slot → k ≡ j
              → MatchesSlot (with_segment t injection memory) later.types (later_state.variables x.name j) slot
          same j slot q e =
              let old = slice_get-some frame_here.slots k (omega (arith, within, frame_here.count)) in
              let now = slice_get-set-same frame_here.slots k (Some (new_place memory number)) old.0 old.1 in
              let here : slice_get new_slots k ≡ Some slot = subst (λ i. slice_get new_slots i ≡ Some slot) (sym e) q in
              let slot_is : Some (new_place memory number) ≡ slot = same_Some (Some (new_place memory number)) slot (sym now ∙ here) in
              let bound_here = bound-same x.name k (whole (suc (length s.allocations))) s.variables in
              subst (λ i. MatchesSlot (with_segment t injection memory) later.types (later_state.variables x.name i) slot) e
              (subst (λ o. MatchesSlot (with_segment t injection memory) later.types (later_state.variables x.name k) o) slot_is
              (subst (λ o. MatchesSlot (with_segment t injection memory) later.types o (Some (new_place memory number))) (sym bound_here) new_spot))

          other : (j : ℕ) (slot : Option Place) → layout.variables x.name j ≡ Some v
              → slice_get new_slots j ≡ Some slot → (k ≡ j → ⊥)
              → MatchesSlot (with_segment t injection memory) later.types (later_state.variables x.name j) slot
          other j slot is_declared q e =
              let before : slice_get frame_here.slots j ≡ Some slot = sym (slice_get-set-other frame_here.slots k j (Some (new_place memory number)) e) ∙ q in
              subst (λ o. MatchesSlot (with_segment t injection memory) later.types o slot) (sym (bound-other x.name k (whole (suc (length s.allocations))) s.variables x.name j (λ p. e))) (frame_here.matches j v slot is_declared before)

      -- the type of the new place describes the declaration's, and those of the others theirs
      described_making : (j : ℕ) (v : UnitVariable) (place : Place) (u : TypeValue)
          → layout.variables x.name j ≡ Some v → slice_get new_slots j ≡ Some (Some place)
          → HasType layout x.name v u → IsLike memory.types place.type_number u
      described_making j v place u is_declared q has_type = elim (ℕ_discrete k j) [ yes e ↦ same e | no e ↦ frame_here.described j v place u is_declared (sym (slice_get-set-other frame_here.slots k j (Some (new_place memory number)) e) ∙ q) has_type ]
        where
          same : k ≡ j → IsLike memory.types place.type_number u
          same e =
              let old = slice_get-some frame_here.slots k (omega (arith, within, frame_here.count)) in
              let now = slice_get-set-same frame_here.slots k (Some (new_place memory number)) old.0 old.1 in
              let here : slice_get new_slots k ≡ Some (Some place) = subst (λ i. slice_get new_slots i ≡ Some (Some place)) (sym e) q in
              let place_is : Some (new_place memory number) ≡ Some place = same_Some (Some (new_place memory number)) (Some place) (sym now ∙ here) in
              let number_is : number ≡ place.type_number = ap (λ (p : Place). p.type_number) (same_Some (new_place memory number) place place_is) in
              let its_type : bare_of t ≡ u = one_type_of v (declared_so v (subst (λ i. layout.variables x.name i ≡ Some v) (sym e) is_declared)) has_type in
              subst (λ n. IsLike memory.types n u) number_is (subst (λ w. IsLike memory.types number w) its_type (t, refl, described))

      -- the frame has the place of the new variable, and those of the others
      frame_making : MatchesFrame layout (with_segment t injection memory) later_state.variables later.frames.units later.types memory.frames.unit x
      frame_making =
          record {
            slots = new_slots;
            is = slice_get-set-same memory.frames.units memory.frames.unit new_slots frame_here.slots frame_here.is;
            count = length-set frame_here.slots k (Some (new_place memory number)) ∙ frame_here.count;
            matches = slot_making;
            described = described_making;
          }

      module _ (distinct : HasDistinctNames G) where
        -- the frames of other units stay what they are
        frames_making : (unit : ℕ) (u : ImageUnit) → slice_get G.units unit ≡ Some u
            → MatchesFrame layout (with_segment t injection memory) later_state.variables later.frames.units later.types unit u
        frames_making unit u there = elim (ℕ_discrete memory.frames.unit unit) [ yes e ↦ same e | no e ↦ other e ]
          where
            same : memory.frames.unit ≡ unit
                → MatchesFrame layout (with_segment t injection memory) later_state.variables later.frames.units later.types unit u
            same e =
                let is_x : x ≡ u = same_Some x u (sym is_unit ∙ subst (λ i. slice_get G.units i ≡ Some u) (sym e) there) in
                subst (λ i. MatchesFrame layout (with_segment t injection memory) later_state.variables later.frames.units later.types i u) e (subst (λ v. MatchesFrame layout (with_segment t injection memory) later_state.variables later.frames.units later.types memory.frames.unit v) is_x frame_making)

            other : (memory.frames.unit ≡ unit → ⊥)
                → MatchesFrame layout (with_segment t injection memory) later_state.variables later.frames.units later.types unit u
            other e =
                let units = h.units in
                let f : MatchesFrame layout (with_segment t injection memory) later_state.variables memory.frames.units later.types unit u =
                matches_frame-grown {before = s.variables} {after = with_variable t number memory.frames memory} unit u (grown_same_frames t injection memory number) refl (λ j. bound-other x.name k (whole (suc (length s.allocations))) s.variables u.name j (λ p q. e (distinct memory.frames.unit unit x u is_unit there p))) (units.frames unit u there) in
                record {
                  slots = f.slots;
                  is = slice_get-set-other memory.frames.units memory.frames.unit unit new_slots e ∙ f.is;
                  count = f.count;
                  matches = f.matches;
                  described = f.described;
                }

        -- the new variable has the type of its declaration, and the others keep theirs
        typed_making : (unit : List ℕ) (j : ℕ) (c : Component) (v : UnitVariable) → later_state.variables unit j ≡ Some c
            → layout.variables unit j ≡ Some v → IsOfType later_state.allocations c (HasType layout unit v)
        typed_making unit j c v is is_declared = elim (same_name x.name unit) [ inl p ↦ elim (ℕ_discrete k j) [ yes q ↦ same p q | no q ↦ other (λ a b. q b) ] | inr p ↦ other (λ a b. p a) ]
          where
            same : x.name ≡ unit → k ≡ j → IsOfType later_state.allocations c (HasType layout unit v)
            same p q =
                let here : later_state.variables x.name k ≡ Some c = subst (λ u. later_state.variables u k ≡ Some c) (sym p) (subst (λ i. later_state.variables unit i ≡ Some c) (sym q) is) in
                let c_is : whole (suc (length s.allocations)) ≡ c = same_Some (whole (suc (length s.allocations))) c (sym (bound-same x.name k (whole (suc (length s.allocations))) s.variables) ∙ here) in
                let has_type : HasType layout unit v (bare_of t) = subst (λ u. HasType layout u v (bare_of t)) p (declared_so v (subst (λ u. layout.variables u k ≡ Some v) (sym p) (subst (λ i. layout.variables unit i ≡ Some v) (sym q) is_declared))) in
                subst (λ i. IsOfType later_state.allocations i (HasType layout unit v)) c_is (record { type_value = bare_of t; is = ap (λ o. option_map bare_of (type_in o)) (slice_get-pushed s.allocations new_allocation); holds = has_type })

            other : (x.name ≡ unit → k ≡ j → ⊥) → IsOfType later_state.allocations c (HasType layout unit v)
            other different =
                let before : s.variables unit j ≡ Some c = sym (bound-other x.name k (whole (suc (length s.allocations))) s.variables unit j different) ∙ is in
                let units = h.units in of_type-more s.allocations new_allocation c (units.typed unit j c v before is_declared)

        -- the machine goes on matching
        pub matches_making : Matches layout G (with_segment t injection memory) later_state later
        matches_making =
            record {
              injected = injected_making;
              store = record { represented = represented_making };
              types = h.types;
              units = record { frames = frames_making; typed = typed_making };
              outside = let outside = h.outside in record { output = is_in-longer injection (with_segment t injection memory) 2 2 (record { rest = next_item t memory ∷ []; is = refl }) outside.output; file = is_of-longer injection (with_segment t injection memory) 2 type.Text (record { rest = next_item t memory ∷ []; is = refl }) outside.file; lives = output_lives };
              counts = counts_making;
              depth = h.depth;
            }
