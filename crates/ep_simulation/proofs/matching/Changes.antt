-- The machine goes on matching where a value is assigned or events are added.
use Rattle.std.proofs.Common.{◌≡◌, ℕ, ℤ, zero, suc, false, ◌<◌, ◌≤◌, ◌⊎◌, inl, inr, List, length, Option, Some, None, slice_get, slice_set, refl, sym, ap, ◌∙◌, subst, arith, option_map}
use Rattle.std.proofs.lemmas.Option.{same_Some, slice_get_within}
use Rattle.ep_simulation.specs.Layouts.{Layout}
use Rattle.ep_simulation.specs.Matching.{IsOfType, MachineMemory, Injection, IsIn, MatchesSlot, MatchesInjection, MatchesFrame, MatchesUnits, MatchesCounts, hidden_words, HasAt, Represents, IsRepresented, Matches, Slots, every_slot, Grown}
use Rattle.ep_object.specs.declared.code.Image.{Image}
use Rattle.ep_object.specs.declared.code.ImageUnit.{ImageUnit}
use Rattle.ep_object.specs.declared.state.Place.{Place}
use Rattle.ep_object.specs.declared.state.Segment.{Segment}
use Rattle.ep_object.proofs.public.Elements.{length-set, slice_get-set-same, slice_get-set-other}
use Rattle.ep_simulation.proofs.public.matching.MoreMemory.{is_spot-grown, describes-grown}
use Rattle.ep_simulation.proofs.public.matching.Standing.{represented-same, living_represented}
use Rattle.ep_object.proofs.public.Grows.{is_prefix}
use Rattle.ep_simulation.proofs.matching.HiddenWords.{hidden_words-set, hidden_words-grown}
use Rattle.ep_meaning.specs.Calls.{entered, back_in}
use Rattle.ep_values.specs.Events.{Trace}
use Rattle.ep_meaning.specs.Steps.{Component, Call, Allocation, type_along, allocation_at, assigned_at, assigned, type_in, type_at, ended_in, has_ended, with_events}
use Rattle.ep_values.specs.Values.{Value, value_with}
use Rattle.ep_meaning.specs.Steps as meaning
use Rattle.ep_values.specs.TypeValues.{TypeValue, bare_of}

-- two numbers are the same or not
pub same_or_not : (m n : ℕ) → (m ≡ n) ⊎ (m ≡ n → ⊥)
same_or_not zero zero = inl refl
same_or_not zero (suc n) = inr (λ e. absurd (omega arith))
same_or_not (suc m) zero = inr (λ e. absurd (omega arith))
same_or_not (suc m) (suc n) = elim (same_or_not m n) [ inl e ↦ inl (ap suc e) | inr h ↦ inr (λ e. h (omega arith)) ]

-- ---- frames in a memory that grows

-- a slot goes on matching
pub slot-grown : {untouched : Slots} {injection longer : Injection} {memory after : MachineMemory} (o : Option Component) (slot : Option Place)
    → Grown untouched injection memory longer after → MatchesSlot injection memory.types o slot
    → MatchesSlot longer after.types o slot
slot-grown None None g h = tt
slot-grown None (Some p) g h = h
slot-grown (Some n) None g h = h
slot-grown (Some n) (Some p) g h = is_spot-grown g h

-- a frame that stays what it is goes on matching
pub matches_frame-grown : {untouched : Slots} {layout : Layout} {injection longer : Injection} {before later : List ℕ → ℕ → Option Component} {memory after : MachineMemory} (unit : ℕ) (u : ImageUnit)
    → Grown untouched injection memory longer after → after.frames ≡ memory.frames
    → ((k : ℕ) → later u.name k ≡ before u.name k)
    → MatchesFrame layout injection before memory.frames.units memory.types unit u
    → MatchesFrame layout longer later after.frames.units after.types unit u
matches_frame-grown {longer = longer} {before = before} {after = after} unit u g same variables h =
    record {
      slots = h.slots;
      is = ap (λ f. slice_get f.units unit) same ∙ h.is;
      count = h.count;
      matches = λ k v slot is_declared e. subst (λ o. MatchesSlot longer after.types o slot) (sym (variables k)) (slot-grown (before u.name k) slot g (h.matches k v slot is_declared e));
      described = λ k v place t is_declared e has_type. describes-grown place.type_number t g (h.described k v place t is_declared e has_type);
    }

-- a variable keeps its type where its allocation does
pub of_type-same : {allocations others : List Allocation} {Holds : TypeValue → Type 0} (c : Component)
    → type_in (allocation_at others c.allocation) ≡ type_in (allocation_at allocations c.allocation)
    → IsOfType allocations c Holds → IsOfType others c Holds
of_type-same c same h = record { type_value = h.type_value; is = ap (λ o. option_map bare_of (type_along o c.path)) same ∙ h.is; holds = h.holds }

-- the units go on matching where memory grows, frames and variables stay, and no allocation changes its type
pub matches_units-grown : {untouched : Slots} {layout : Layout} {G : Image} {injection longer : Injection} {allocations others : List Allocation} {variables : List ℕ → ℕ → Option Component} {memory after : MachineMemory}
    → Grown untouched injection memory longer after → after.frames ≡ memory.frames
    → ((n : ℕ) → type_in (allocation_at others n) ≡ type_in (allocation_at allocations n))
    → MatchesUnits layout G injection allocations variables memory.frames.units memory.types
    → MatchesUnits layout G longer others variables after.frames.units after.types
matches_units-grown {layout = layout} {variables = variables} g same types h =
    record {
      frames = λ unit u e. matches_frame-grown {before = variables} unit u g same (λ k. refl) (h.frames unit u e);
      typed = λ unit k c v p q. of_type-same c (types c.allocation) (h.typed unit k c v p q);
    }

-- ---- events

-- events are no part of what is matched
pub matches_events : {layout : Layout} {G : Image} {injection : Injection} {s : meaning.State} {memory : MachineMemory} (events : Trace)
    → Matches layout G injection s memory → Matches layout G injection (with_events events s) memory
matches_events events h =
    record { injected = h.injected; store = h.store; types = h.types; units = h.units; outside = h.outside; counts = h.counts; depth = h.depth }

-- ---- a value that is assigned

-- the allocation that a value is assigned to, and the others
assigned_same : (allocations : List Allocation) (n : ℕ) (path : List ℕ) (value : Value) (a : Allocation)
    → allocation_at allocations n ≡ Some a
    → allocation_at (assigned_at n path value allocations) n ≡ Some (record a { value = value_with a.value path value })
assigned_same allocations zero path value a h = cc
assigned_same allocations (suc n) path value a h = rw h (slice_get-set-same allocations n (record a { value = value_with a.value path value }) a h)

-- the others stay what they are
assigned_other : (allocations : List Allocation) (n m : ℕ) (path : List ℕ) (value : Value) (a : Allocation)
    → allocation_at allocations n ≡ Some a → (n ≡ m → ⊥)
    → allocation_at (assigned_at n path value allocations) m ≡ allocation_at allocations m
assigned_other allocations zero m path value a h other = refl
assigned_other allocations (suc n) zero path value a h other = refl
assigned_other allocations (suc n) (suc m) path value a h other = rw h (slice_get-set-other allocations n m (record a { value = value_with a.value path value }) (λ e. other (ap suc e)))

-- and as many as before
assigned_length : (allocations : List Allocation) (n : ℕ) (path : List ℕ) (value : Value) (a : Allocation)
    → allocation_at allocations n ≡ Some a → length (assigned_at n path value allocations) ≡ length allocations
assigned_length allocations zero path value a h = refl
assigned_length allocations (suc n) path value a h = rw h (length-set allocations n (record a { value = value_with a.value path value }))

-- the memory with the words of one segment replaced
abbrev pub storing : MachineMemory → ℕ → ℕ → List ℤ → MachineMemory
storing memory segment type_number words = record memory { segments = slice_set memory.segments segment (Some (record { type_number = type_number; words = words })) }

-- one allocation is in one segment
pub is_in-same : (injection : Injection) (n x y : ℕ) → IsIn injection n x → IsIn injection n y → x ≡ y
is_in-same injection zero x y p q = absurd p
is_in-same injection (suc n) x y p q = same_Some x y (sym p ∙ q)

module _ {layout : Layout} {G : Image} {injection : Injection} {s : meaning.State} {memory : MachineMemory} (h : Matches layout G injection s memory) (n segment : ℕ) (a : Allocation) (is_in : IsIn injection n segment) (is : allocation_at s.allocations n ≡ Some a) (living : a.ended ≡ false) (r : Represents injection memory.segments memory.types segment a) (words : List ℤ) where
  -- no other segment changes, and this one keeps its type
  pub grown_storing : {untouched : Slots}
      → Grown untouched injection memory injection (storing memory segment r.type_number words)
  grown_storing =
      record {
        larger = is_prefix injection;
        types = is_prefix memory.types;
        segments = omega (arith, length-set memory.segments segment (Some new));
        hidden = λ k le hidden. hidden;
        allocated = λ k y le q. absurd (let w : k < length (slice_set memory.segments segment (Some new)) = slice_get_within (slice_set memory.segments segment (Some new)) k (Some y) q in omega (arith, w, le, length-set memory.segments segment (Some new)));
        slots = λ unit k kept. refl;
        others = λ k le hidden. slice_get-set-other memory.segments segment k (Some new) (λ e. hidden n (subst (λ j. IsIn injection n j) e is_in));
        typed = λ k x y p q. typed_at k x y p q (same_or_not segment k);
        ended = λ k y le q. ended_at k y q (same_or_not segment k);
      }
    where
      new : Segment
      new = record { type_number = r.type_number; words = words }

      old : Segment
      old = record { type_number = r.type_number; words = r.words }

      number : (x y : Segment) → ◌≡◌ {A = Option (Option Segment)} (Some (Some x)) (Some (Some y))
          → x.type_number ≡ y.type_number
      number x y e =
          let z : x ≡ y = cc in ap (λ (s : Segment). s.type_number) z

      typed_at : (k : ℕ) (x y : Segment) → slice_get memory.segments k ≡ Some (Some x)
          → slice_get (slice_set memory.segments segment (Some new)) k ≡ Some (Some y)
          → (segment ≡ k) ⊎ (segment ≡ k → ⊥) → y.type_number ≡ x.type_number
      typed_at k x y p q (inl e) =
          let now : slice_get (slice_set memory.segments segment (Some new)) k ≡ Some (Some new) = subst (λ j. slice_get (slice_set memory.segments segment (Some new)) j ≡ Some (Some new)) e (slice_get-set-same memory.segments segment (Some new) (Some old) r.stands) in
          let before : slice_get memory.segments k ≡ Some (Some old) = subst (λ j. slice_get memory.segments j ≡ Some (Some old)) e r.stands in
          number y new (sym q ∙ now) ∙ number old x (sym before ∙ p)
      typed_at k x y p q (inr other) = number y x (sym q ∙ (slice_get-set-other memory.segments segment k (Some new) other ∙ p))

      ended_at : (k : ℕ) (y : Segment)
          → slice_get (slice_set memory.segments segment (Some new)) k ≡ Some (Some y)
          → (segment ≡ k) ⊎ (segment ≡ k → ⊥) → (x : Segment) × (slice_get memory.segments k ≡ Some (Some x))
      ended_at k y q (inl e) = (old, subst (λ j. slice_get memory.segments j ≡ Some (Some old)) e r.stands)
      ended_at k y q (inr other) = (y, sym (slice_get-set-other memory.segments segment k (Some new) other) ∙ q)

  -- a value is assigned to a component of it, and as many words as before hold what it has then: it is represented, and all else as before
  pub matches_assigned : (path : List ℕ) (value : Value) → length words ≡ length r.words
      → HasAt injection a.type_value (value_with a.value path value) (slice_get words) 0
      → Matches layout G injection (assigned (record { allocation = n; path = path }) value s) (storing memory segment r.type_number words)
  matches_assigned path value as_many holds =
      record {
        injected = injected;
        store = record { represented = λ m k b p q. represented_at m k b p q (same_or_not n m) };
        types = h.types;
        units = matches_units-grown grown_whole refl (λ m. type_at_assigned m (same_or_not n m)) h.units;
        outside = let outside = h.outside in record { output = outside.output; file = outside.file; lives = ended_assigned 2 (same_or_not n 2) ∙ outside.lives };
        counts = counts;
        depth = h.depth;
      }
    where
      new : Segment
      new = record { type_number = r.type_number; words = words }

      old : Segment
      old = record { type_number = r.type_number; words = r.words }

      grown_whole : Grown every_slot injection memory injection (storing memory segment r.type_number words)
      grown_whole = grown_storing

      type_at_assigned : (m : ℕ) → (n ≡ m) ⊎ (n ≡ m → ⊥)
          → type_in (allocation_at (assigned_at n path value s.allocations) m) ≡ type_in (allocation_at s.allocations m)
      type_at_assigned m (inl e) =
          let now : allocation_at (assigned_at n path value s.allocations) n ≡ Some (record a { value = value_with a.value path value }) = assigned_same s.allocations n path value a is in
          subst (λ j. type_in (allocation_at (assigned_at n path value s.allocations) j) ≡ type_in (allocation_at s.allocations j)) e (ap type_in now ∙ sym (ap type_in is))
      type_at_assigned m (inr other) = ap type_in (assigned_other s.allocations n m path value a is other)

      injected : MatchesInjection injection (assigned_at n path value s.allocations) (slice_set memory.segments segment (Some new))
      injected =
          let old_injected = h.injected in
          record {
            made = old_injected.made ∙ sym (assigned_length s.allocations n path value a is);
            apart = old_injected.apart;
            within = λ m k p. let w = old_injected.within m k p in omega (arith, w, length-set memory.segments segment (Some new));
            typed = λ m t p. ap (option_map bare_of) (type_at_assigned m (same_or_not n m)) ∙ old_injected.typed m t p;
          }

      counts : MatchesCounts injection s.resources (slice_set memory.segments segment (Some new)) memory.types memory.live
      counts =
          let c = h.counts in
          let same : hidden_words injection (slice_set memory.segments segment (Some new)) ≡ hidden_words injection memory.segments = hidden_words-set injection memory.segments segment old new as_many r.stands in
          record { words = omega (arith, c.words, same); hidden = omega (arith, c.hidden, same); number = c.number }

      represented_at : (m k : ℕ) (b : Allocation) → IsIn injection m k
          → allocation_at (assigned_at n path value s.allocations) m ≡ Some b → (n ≡ m) ⊎ (n ≡ m → ⊥)
          → IsRepresented injection (slice_set memory.segments segment (Some new)) memory.types k b
      represented_at m k b p q (inl e) =
          let there : IsIn injection n k = subst (λ j. IsIn injection j k) (sym e) p in
          let seg : segment ≡ k = is_in-same injection n segment k is_in there in
          let b_is : record a { value = value_with a.value path value } ≡ b = same_Some (record a { value = value_with a.value path value }) b (sym (assigned_same s.allocations n path value a is) ∙ subst (λ j. allocation_at (assigned_at n path value s.allocations) j ≡ Some b) (sym e) q) in
          subst (λ j. IsRepresented injection (slice_set memory.segments segment (Some new)) memory.types j b) seg (subst (λ x. IsRepresented injection (slice_set memory.segments segment (Some new)) memory.types segment x) b_is (living_represented injection (slice_set memory.segments segment (Some new)) memory.types segment (record a { value = value_with a.value path value }) living (record { type_number = r.type_number; words = words; stands = slice_get-set-same memory.segments segment (Some new) (Some old) r.stands; described = r.described; sized = as_many ∙ r.sized; holds = holds })))
      represented_at m k b p q (inr other) =
          let store = h.store in
          let injected = h.injected in
          let before : IsRepresented injection memory.segments memory.types k b = store.represented m k b p (sym (assigned_other s.allocations n m path value a is other) ∙ q) in
          let apart : (segment ≡ k → ⊥) = λ e. other (injected.apart n m k (subst (λ j. IsIn injection n j) e is_in) p) in
          represented-same injection memory.segments (slice_set memory.segments segment (Some new)) memory.types k b (slice_get-set-other memory.segments segment k (Some new) apart) before

      ended_assigned : (m : ℕ) → (n ≡ m) ⊎ (n ≡ m → ⊥)
          → has_ended m (assigned (record { allocation = n; path = path }) value s) ≡ has_ended m s
      ended_assigned m (inl e) =
          let now : allocation_at (assigned_at n path value s.allocations) n ≡ Some (record a { value = value_with a.value path value }) = assigned_same s.allocations n path value a is in
          subst (λ j. has_ended j (assigned (record { allocation = n; path = path }) value s) ≡ has_ended j s) e (ap ended_in now ∙ sym (ap ended_in is))
      ended_assigned m (inr other) = ap ended_in (assigned_other s.allocations n m path value a is other)

-- ---- calls

-- a call that is under way is no part of what is matched, and so many words are set aside for it
pub matches_entered : {layout : Layout} {G : Image} {injection : Injection} {s : meaning.State} {memory : MachineMemory} (words levels : ℕ) (x : Call)
    → Matches layout G injection s memory → Matches layout G injection (entered words levels x s) memory
matches_entered words levels x h =
    let counts = h.counts in
    record { injected = h.injected; store = h.store; types = h.types; units = h.units; outside = h.outside; counts = record { words = counts.words; hidden = omega (arith, counts.hidden); number = counts.number }; depth = omega (arith, h.depth) }

-- What was set aside for a call is given back where memory has grown since it began.
pub matches_left : {untouched : Slots} {layout : Layout} {G : Image} {injection longer : Injection} {before t : meaning.State} {memory after : MachineMemory}
    → Grown untouched injection memory longer after → Matches layout G injection before memory
    → length after.frames.calls ≤ length before.calls
    → Matches layout G longer t after → Matches layout G longer (back_in before t) after
matches_left g old fewer h =
    let counts = h.counts in
    let first = old.counts in
    record { injected = h.injected; store = h.store; types = h.types; units = h.units; outside = h.outside; counts = record { words = counts.words; hidden = omega (arith, first.hidden, hidden_words-grown g); number = counts.number }; depth = fewer }
