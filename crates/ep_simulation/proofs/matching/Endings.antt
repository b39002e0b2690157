-- Allocations end on both sides: the machine goes on matching.
use Rattle.std.proofs.Common.{◌≡◌, ℕ, zero, suc, ◌+◌, ◌-◌, ◌<◌, ◌⊎◌, inl, inr, Bool, true, false, List, [], ◌∷◌, length, Option, Some, None, slice_get, slice_set, refl, sym, ap, ◌∙◌, subst, arith, option_map}
use Rattle.ep_values.specs.TypeValues.{bare_of}
use Rattle.std.proofs.lemmas.Option.{same_Some, slice_get_within}
use Rattle.ep_simulation.specs.Activations.{AreMade}
use Rattle.ep_object.specs.Calls.{ended, words_in, words_of}
use Rattle.ep_simulation.specs.Layouts.{Layout}
use Rattle.ep_simulation.specs.Matching.{MachineMemory, Injection, IsIn, MatchesInjection, MatchesCounts, hidden_words, IsRepresentedWhere, IsRepresented, Matches, Slots, every_slot, Grown}
use Rattle.ep_object.specs.State.{Segments}
use Rattle.ep_object.specs.declared.code.Image.{Image}
use Rattle.ep_object.specs.declared.state.Segment.{Segment}
use Rattle.ep_object.proofs.public.Grows.{is_prefix}
use Rattle.ep_simulation.proofs.matching.Changes.{is_in-same, matches_units-grown, same_or_not}
use Rattle.ep_object.proofs.public.Elements.{length-set, slice_get-set-same, slice_get-set-other}
use Rattle.ep_simulation.proofs.public.matching.MoreMemory.{grown_refl, grown_trans}
use Rattle.ep_simulation.proofs.matching.HiddenWords.{hidden_words-ended}
use Rattle.ep_simulation.proofs.public.matching.Standing.{allocated, represented-same}
use Rattle.ep_meaning.specs.Steps.{Allocation, allocation_at, with_ended, living_words, type_in, type_at, ended_in, has_ended, with_all_ended}
use Rattle.ep_meaning.specs.Steps as meaning

-- ---- the allocation that ends, and the others

ended_same : (allocations : List Allocation) (n : ℕ) (a : Allocation) → allocation_at allocations n ≡ Some a
    → allocation_at (with_ended n allocations) n ≡ Some (record a { ended = true })
ended_same allocations zero a h = cc
ended_same allocations (suc n) a h = rw h (slice_get-set-same allocations n (record a { ended = true }) a h)

ended_other : (allocations : List Allocation) (n m : ℕ) (a : Allocation) → allocation_at allocations n ≡ Some a
    → (n ≡ m → ⊥) → allocation_at (with_ended n allocations) m ≡ allocation_at allocations m
ended_other allocations zero m a h other = refl
ended_other allocations (suc n) zero a h other = refl
ended_other allocations (suc n) (suc m) a h other = rw h (slice_get-set-other allocations n m (record a { ended = true }) (λ e. other (ap suc e)))

ended_length : (allocations : List Allocation) (n : ℕ) (a : Allocation) → allocation_at allocations n ≡ Some a
    → length (with_ended n allocations) ≡ length allocations
ended_length allocations zero a h = refl
ended_length allocations (suc n) a h = rw h (length-set allocations n (record a { ended = true }))

-- ---- the words of a segment that ends

-- what stands there, and as many words as are given back
record Old (segments : Segments) (segment words : ℕ) : Type 0 where
  content : Option Segment
  stands : slice_get segments segment ≡ Some content
  same : words_in (slice_get segments segment) ≡ words

module _ {layout : Layout} {G : Image} {injection : Injection} {s : meaning.State} {memory : MachineMemory} (h : Matches layout G injection s memory) (n segment : ℕ) (is_in : IsIn injection n segment) where
  -- the memory without the segment
  abbrev pub ended_memory : MachineMemory
  ended_memory = record memory { segments = slice_set memory.segments segment None; live = memory.live - words_in (slice_get memory.segments segment) }

  abbrev pub ended_state : meaning.State
  ended_state =
      record s {
        allocations = with_ended n s.allocations;
        resources = record s.resources { allocated = s.resources.allocated - living_words (allocation_at s.allocations n) };
      }

  its : (a : Allocation) × (allocation_at s.allocations n ≡ Some a)
  its = let injected = h.injected in allocated injection s n segment injected.made is_in

  old : Old memory.segments segment (living_words (allocation_at s.allocations n))
  old = let store = h.store in go (its.0).ended refl (store.represented n segment its.0 is_in its.1)
    where
      go : (b : Bool) → (its.0).ended ≡ b → IsRepresentedWhere b injection memory.segments memory.types segment its.0
          → Old memory.segments segment (living_words (allocation_at s.allocations n))
      go true e stands = record { content = None; stands = stands; same = ap words_in stands ∙ sym (rw (its.1, e) refl) }
      go false e r =
          record {
            content = Some (record { type_number = r.type_number; words = r.words });
            stands = r.stands;
            same = ap words_in r.stands ∙ ap (λ i. i + 1) r.sized ∙ sym (rw (its.1, e) refl);
          }

  gone : slice_get (slice_set memory.segments segment None) segment ≡ Some None
  gone = slice_get-set-same memory.segments segment None old.content old.stands

  -- no other segment changes
  pub grown_ending : {untouched : Slots} → Grown untouched injection memory injection ended_memory
  grown_ending =
      record {
        larger = is_prefix injection;
        types = is_prefix memory.types;
        segments = omega (arith, length-set memory.segments segment None);
        hidden = λ k le hidden. hidden;
        allocated = λ k y le q. absurd (let w : k < length (slice_set memory.segments segment None) = slice_get_within (slice_set memory.segments segment None) k (Some y) q in omega (arith, w, le, length-set memory.segments segment None));
        slots = λ unit k kept. refl;
        others = λ k le hidden. slice_get-set-other memory.segments segment k None (λ e. hidden n (subst (λ j. IsIn injection n j) e is_in));
        typed = λ k x y p q. number x y (sym p ∙ before k y q (same_or_not segment k));
        ended = λ k y le q. (y, before k y q (same_or_not segment k));
      }
    where
      number : (x y : Segment) → ◌≡◌ {A = Option (Option Segment)} (Some (Some x)) (Some (Some y)) → y.type_number ≡ x.type_number
      number x y e =
          let z : y ≡ x = cc in ap (λ (s : Segment). s.type_number) z

      before : (k : ℕ) (y : Segment) → slice_get (slice_set memory.segments segment None) k ≡ Some (Some y)
          → (segment ≡ k) ⊎ (segment ≡ k → ⊥) → slice_get memory.segments k ≡ Some (Some y)
      before k y q (inl e) =
          let now : slice_get (slice_set memory.segments segment None) k ≡ Some None = subst (λ j. slice_get (slice_set memory.segments segment None) j ≡ Some None) e gone in
          let none : ◌≡◌ {A = Option (Option Segment)} (Some None) (Some (Some y)) = sym now ∙ q in
          absurd cc
      before k y q (inr other) = sym (slice_get-set-other memory.segments segment k None other) ∙ q

  -- the allocation has ended, and all else is as before
  pub matches_ending : 2 < n → Matches layout G injection ended_state ended_memory
  matches_ending own =
      record {
        injected = injected;
        store = record { represented = λ m k b p q. represented_at m k b p q (same_or_not n m) };
        types = h.types;
        units = matches_units-grown {memory = memory} {after = ended_memory} (grown_ending {untouched = every_slot}) refl (λ m. type_ended m (same_or_not n m)) h.units;
        outside = let outside = h.outside in record { output = outside.output; file = outside.file; lives = ap ended_in (ended_other s.allocations n 2 its.0 its.1 (λ e. absurd (omega (arith, own, e)))) ∙ outside.lives };
        counts = counts;
        depth = h.depth;
      }
    where
      type_ended : (m : ℕ) → (n ≡ m) ⊎ (n ≡ m → ⊥)
          → type_in (allocation_at (with_ended n s.allocations) m) ≡ type_in (allocation_at s.allocations m)
      type_ended m (inl e) = subst (λ j. type_in (allocation_at (with_ended n s.allocations) j) ≡ type_in (allocation_at s.allocations j)) e (ap type_in (ended_same s.allocations n its.0 its.1) ∙ sym (ap type_in its.1))
      type_ended m (inr other) = ap type_in (ended_other s.allocations n m its.0 its.1 other)

      injected : MatchesInjection injection (with_ended n s.allocations) (slice_set memory.segments segment None)
      injected =
          let before = h.injected in
          record {
            made = before.made ∙ sym (ended_length s.allocations n its.0 its.1);
            apart = before.apart;
            within = λ m k p. let w = before.within m k p in omega (arith, w, length-set memory.segments segment None);
            typed = λ m t p. ap (option_map bare_of) (type_ended m (same_or_not n m)) ∙ before.typed m t p;
          }

      counts : MatchesCounts injection ended_state.resources (slice_set memory.segments segment None) memory.types ended_memory.live
      counts =
          let c = h.counts in
          let same : hidden_words injection (slice_set memory.segments segment None) ≡ hidden_words injection memory.segments = hidden_words-ended injection memory.segments n segment is_in in
          record { words = omega (arith, c.words, same, old.same); hidden = omega (arith, c.hidden, same); number = c.number }

      represented_at : (m k : ℕ) (b : Allocation) → IsIn injection m k → allocation_at (with_ended n s.allocations) m ≡ Some b
          → (n ≡ m) ⊎ (n ≡ m → ⊥) → IsRepresented injection (slice_set memory.segments segment None) memory.types k b
      represented_at m k b p q (inl e) =
          let there : IsIn injection n k = subst (λ j. IsIn injection j k) (sym e) p in
          let at : segment ≡ k = is_in-same injection n segment k is_in there in
          let b_is : record its.0 { ended = true } ≡ b = same_Some (record its.0 { ended = true }) b (sym (ended_same s.allocations n its.0 its.1) ∙ subst (λ j. allocation_at (with_ended n s.allocations) j ≡ Some b) (sym e) q) in
          subst (λ j. IsRepresented injection (slice_set memory.segments segment None) memory.types j b) at (subst (λ x. IsRepresented injection (slice_set memory.segments segment None) memory.types segment x) b_is gone)
      represented_at m k b p q (inr other) =
          let store = h.store in
          let injected = h.injected in
          let before : IsRepresented injection memory.segments memory.types k b = store.represented m k b p (sym (ended_other s.allocations n m its.0 its.1 other) ∙ q) in
          let apart : (segment ≡ k → ⊥) = λ e. other (injected.apart n m k (subst (λ j. IsIn injection n j) e is_in) p) in
          represented-same injection memory.segments (slice_set memory.segments segment None) memory.types k b (slice_get-set-other memory.segments segment k None apart) before

-- ---- all that was made in a call

-- the memory without these segments
abbrev pub without : List ℕ → MachineMemory → MachineMemory
without segments memory = record memory { segments = ended segments memory.segments; live = memory.live - words_of segments memory.segments }

-- They end on both sides. Memory has grown by it, and the machine matches.
pub record EndsBoth (layout : Layout) (G : Image) (injection : Injection) (ns segments : List ℕ) (s : meaning.State)
    (memory : MachineMemory) : Type 0 where
  pub grown : (untouched : Slots) → Grown untouched injection memory injection (without segments memory)
  pub matches : Matches layout G injection (with_all_ended ns s) (without segments memory)

pub ends_both : {layout : Layout} {G : Image} {injection : Injection} (ns segments : List ℕ) (s : meaning.State) (memory : MachineMemory)
    → AreMade injection ns segments → Matches layout G injection s memory → EndsBoth layout G injection ns segments s memory
ends_both {injection = injection} [] [] s memory made h =
    let c = h.counts in
    record {
      grown = λ untouched. let g = grown_refl {untouched = untouched} injection memory in record { larger = g.larger; types = g.types; segments = g.segments; hidden = g.hidden; others = g.others; allocated = g.allocated; slots = g.slots; typed = g.typed; ended = g.ended };
      matches = record { injected = h.injected; store = h.store; types = h.types; units = h.units; outside = h.outside; counts = record { words = omega (arith, c.words); hidden = c.hidden; number = c.number }; depth = h.depth };
    }
ends_both [] (segment ∷ segments) s memory made h = absurd made
ends_both (n ∷ ns) [] s memory made h = absurd made
ends_both {injection = injection} (n ∷ ns) (segment ∷ segments) s memory (is_in, own, rest) h =
    let later = ends_both ns segments (ended_state h n segment is_in) (ended_memory h n segment is_in) rest (matches_ending h n segment is_in own) in
    let m = later.matches in
    let c = m.counts in
    record {
      grown = λ untouched.
          let g = grown_trans {untouched = untouched} (grown_ending h n segment is_in) (later.grown untouched) in
          record { larger = g.larger; types = g.types; segments = g.segments; hidden = g.hidden; others = g.others; allocated = g.allocated; slots = g.slots; typed = g.typed; ended = g.ended };
      matches = record { injected = m.injected; store = m.store; types = m.types; units = m.units; outside = m.outside; counts = record { words = omega (arith, c.words); hidden = c.hidden; number = c.number }; depth = m.depth };
    }
