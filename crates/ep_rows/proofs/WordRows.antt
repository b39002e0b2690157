-- The rows on variables, by their kinds.
use Rattle.std.proofs.Common.{◌≡◌, ℕ, ℤ, Bool, true, false, if◌then◌else◌, MatchBool, List, [], ◌∷◌, Option, Some, None, IfSome, MatchOption, option_map, slice_get, refl, ap, ◌∙◌}
use Rattle.std.proofs.lemmas.Bool.{lt-ltb}
use Rattle.std.proofs.lemmas.Option.{slice_get_within}
use Rattle.ep_frames.specs.Members.{set_of}
use Rattle.ep_frames.specs.declared.members.Members.{Members}
use Rattle.ep_memory.specs.Stores.{Store, cell_in, living, segment_at, with_word_at}
use Rattle.ep_memory.specs.declared.answers.Cell.TheVariants as cell
use Rattle.ep_object.specs.Effects.{Continues, Work, having, having_weighed, light, provided}
use Rattle.ep_object.specs.Operands.{Operand, Word, Place, Text, Value, Set, word_on_place}
use Rattle.ep_object.specs.Places.{is_within, is_word_kind, kind_of, load_by, load_of, load_row, set_loaded, store_by, store_of, store_row, words_at}
use Rattle.ep_object.specs.Sets.{set_size}
use Rattle.ep_object.specs.State.{Segments, TypeTable, bare_number}
use Rattle.ep_object.specs.declared.state.TypeKind.{TypeKind}
use Rattle.ep_object.specs.declared.state.TypeKind.TheVariants as kind
use Rattle.ep_object.specs.declared.state.Place.{Place as PlaceOf}
use Rattle.ep_object.specs.declared.state.Segment.{Segment}
use Rattle.ep_object.specs.declared.state.TypeEntry.{TypeEntry}
use Rattle.ep_rows.specs.Values.{set_stored_at, set_stored_by, word_stored}

-- a variable of one word gives it in one tick
pub word_loads : (k : TypeKind) (size n : ℕ) (segments : Segments) (p : PlaceOf) (st : List Operand) → is_word_kind k ≡ true → load_by k size n segments p st ≡ light (load_of segments p st)
word_loads (kind.Ord lo hi) size n segments p st h = refl
word_loads kind.Pointer size n segments p st h = refl
word_loads kind.Text size n segments p st h = cc
word_loads (kind.Array lo hi c) size n segments p st h = cc
word_loads (kind.Record ps) size n segments p st h = cc
word_loads (kind.Set lo hi) size n segments p st h = cc

-- so does one that takes it
stored_by_kind : (k : TypeKind) (bare : ℕ) (segments : Segments) (w : ℤ) (p : PlaceOf) (st : List Operand) → store_by k bare (Word w) segments p st ≡ light (provided (is_word_kind k) (store_of k segments p w st))
stored_by_kind (kind.Ord lo hi) bare segments w p st = refl
stored_by_kind kind.Pointer bare segments w p st = refl
stored_by_kind kind.Text bare segments w p st = refl
stored_by_kind (kind.Array lo hi c) bare segments w p st = refl
stored_by_kind (kind.Record ps) bare segments w p st = refl
stored_by_kind (kind.Set lo hi) bare segments w p st = refl

by_entry : (types : TypeTable) (n : ℕ) (segments : Segments) (w : ℤ) (p : PlaceOf) (st : List Operand)
    → having_weighed (slice_get types n) (λ e. store_by e.kind (bare_number n e.bare) (Word w) segments p st) ≡ light (having (kind_of types n) (λ k. provided (is_word_kind k) (store_of k segments p w st)))
by_entry types n segments w p st = go (slice_get types n) refl
  where
    go : (o : Option TypeEntry) → slice_get types n ≡ o
        → having_weighed (slice_get types n) (λ e. store_by e.kind (bare_number n e.bare) (Word w) segments p st) ≡ light (having (kind_of types n) (λ k. provided (is_word_kind k) (store_of k segments p w st)))
    go None is = rw is refl
    go (Some e) is = rw is (stored_by_kind e.kind (bare_number n e.bare) segments w p st)

pub word_stores : (types : TypeTable) (segments : Segments) (w : ℤ) (st : List Operand) → store_row types segments (Word w ∷ st) ≡ light (word_stored types segments w st)
word_stores types segments w [] = refl
word_stores types segments w (Word x ∷ st) = refl
word_stores types segments w (Place p ∷ st) = by_entry types p.type_number segments w p st
word_stores types segments w (Text bytes ∷ st) = refl
word_stores types segments w (Value n ws ∷ st) = refl
word_stores types segments w (Set ms ∷ st) = refl

-- and one that takes a set
set_by_kind : (k : TypeKind) (bare : ℕ) (segments : Segments) (ms : List ℕ) (p : PlaceOf) (st : List Operand) → store_by k bare (Set ms) segments p st ≡ light (set_stored_by k segments ms p st)
set_by_kind (kind.Ord lo hi) bare segments ms p st = refl
set_by_kind kind.Pointer bare segments ms p st = refl
set_by_kind kind.Text bare segments ms p st = refl
set_by_kind (kind.Array lo hi c) bare segments ms p st = refl
set_by_kind (kind.Record ps) bare segments ms p st = refl
set_by_kind (kind.Set lo hi) bare segments ms p st = refl

set_by_entry : (types : TypeTable) (n : ℕ) (segments : Segments) (ms : List ℕ) (p : PlaceOf) (st : List Operand)
    → having_weighed (slice_get types n) (λ e. store_by e.kind (bare_number n e.bare) (Set ms) segments p st) ≡ light (having (kind_of types n) (λ k. set_stored_by k segments ms p st))
set_by_entry types n segments ms p st = go (slice_get types n) refl
  where
    go : (o : Option TypeEntry) → slice_get types n ≡ o
        → having_weighed (slice_get types n) (λ e. store_by e.kind (bare_number n e.bare) (Set ms) segments p st) ≡ light (having (kind_of types n) (λ k. set_stored_by k segments ms p st))
    go None is = rw is refl
    go (Some e) is = rw is (set_by_kind e.kind (bare_number n e.bare) segments ms p st)

pub set_stores : (types : TypeTable) (segments : Segments) (ms : List ℕ) (st : List Operand) → store_row types segments (Set ms ∷ st) ≡ light (set_stored_at types segments ms st)
set_stores types segments ms [] = refl
set_stores types segments ms (Word x ∷ st) = refl
set_stores types segments ms (Place p ∷ st) = set_by_entry types p.type_number segments ms p st
set_stores types segments ms (Text bytes ∷ st) = refl
set_stores types segments ms (Value n ws ∷ st) = refl
set_stores types segments ms (Set ns ∷ st) = refl

-- a variable that has a word takes one that it may have
module _ (kind : TypeKind) (m : Store) (p : PlaceOf) (w x : ℤ) (st : List Operand) (there : cell.Word x ≡ cell_in (segment_at m p.segment) p.offset) (within : is_within kind w ≡ true) where
  pub word_put : store_of kind m.segments p w st ≡ Continues (st, (with_word_at p.segment p.offset w m).segments)
  word_put = by_segment (slice_get m.segments p.segment) refl
    where
      by_word : (s : Segment) (o : Option ℤ) → slice_get m.segments p.segment ≡ Some (Some s) → slice_get s.words p.offset ≡ o → store_of kind m.segments p w st ≡ Continues (st, (with_word_at p.segment p.offset w m).segments)
      by_word s None e f = absurd (gone (rw (e, f) at there))
        where
          gone : cell.Word x ≡ cell.Outside → ⊥
          gone h = cc
      by_word s (Some y) e f = rw (e, f, within, lt-ltb _ _ (slice_get_within s.words p.offset y f)) refl

      by_segment : (o : Option (Option Segment)) → slice_get m.segments p.segment ≡ o → store_of kind m.segments p w st ≡ Continues (st, (with_word_at p.segment p.offset w m).segments)
      by_segment None e = absurd (gone (rw e at there))
        where
          gone : cell.Word x ≡ cell.Gone → ⊥
          gone h = cc
      by_segment (Some None) e = absurd (gone (rw e at there))
        where
          gone : cell.Word x ≡ cell.Gone → ⊥
          gone h = cc
      by_segment (Some (Some s)) e = by_word s (slice_get s.words p.offset) e refl

-- what a variable of a set type gives, in a segment with these words
module _ (types : TypeTable) (segments : Segments) (p : PlaceOf) (lo hi : ℤ) (e : TypeEntry) (words : List ℤ)
    (entry : slice_get types p.type_number ≡ Some e) (type : e.kind ≡ kind.Set lo hi) where
  set_loads : (st : List Operand) (segment : Option (Option Segment)) → slice_get segments p.segment ≡ segment → option_map (λ s. s.words) (living segment) ≡ Some words
      → load_row types segments (Place p ∷ st) ≡ light (having (words_at words p.offset set_size) (λ ws. set_loaded ws st))
  set_loads st None there same = cc
  set_loads st (Some None) there same = cc
  set_loads st (Some (Some s)) there same = let has : s.words ≡ words = cc in rw (entry, type, there, has) refl

  -- its set, where the words tell of one that is defined
  pub set_found : (r : Option Members) → option_map (λ s. s.words) (living (slice_get segments p.segment)) ≡ Some words
      → IfSome r (λ m. (st : List Operand) → having (words_at words p.offset set_size) (λ ws. set_loaded ws st) ≡ Continues (Set (set_of m) ∷ st))
      → IfSome r (λ m. (st : List Operand) → load_row types segments (Place p ∷ st) ≡ light (Continues (Set (set_of m) ∷ st)))
  set_found None same h = tt
  set_found (Some m) same h = λ st. set_loads st (slice_get segments p.segment) refl same ∙ ap light (h st)

-- the value of a variable was put on top, where there was memory
pub value_pushed : (b : Bool) (row : List Operand → Work (List Operand)) (st st2 : List Operand) (x : Operand) → ((st : List Operand) → row st ≡ light (Continues (x ∷ st))) → st2 ≡ (if b then x ∷ st else st) → MatchBool b (row st ≡ light (Continues st2)) (st2 ≡ st)
value_pushed true row st st2 x h e = rw e (h st)
value_pushed false row st st2 x h e = e

-- ---- a word on a place

-- the word and the place that stood on top were taken off
pub both_taken : (r : Option (ℤ × PlaceOf)) (st rest : List Operand) (w : ℤ) (p : PlaceOf) → ◌≡◌ {A = Option (ℤ × PlaceOf)} (Some (w, p)) (option_map (λ x. (x.0, x.1)) (word_on_place st))
    → MatchOption r ((word_on_place st ≡ None) × (rest ≡ st)) (λ x. word_on_place st ≡ Some (x.0, x.1, rest)) → st ≡ Word w ∷ Place p ∷ rest
both_taken None (Word x ∷ Place q ∷ st) rest w p top h = let none : word_on_place (Word x ∷ Place q ∷ st) ≡ None = h.0 in cc
both_taken (Some y) (Word x ∷ Place q ∷ st) rest w p top h =
    let top2 : ◌≡◌ {A = ℤ × PlaceOf} (w, p) (x, q) = cc in
    let all : ◌≡◌ {A = ℤ × PlaceOf × List Operand} (x, q, st) (y.0, y.1, rest) = cc in
    let a : w ≡ x = ap (λ z. z.0) top2 in
    let b : p ≡ q = ap (λ z. z.1) top2 in
    let c : st ≡ rest = ap (λ z. z.2) all in
    rw (a, b, c) refl
both_taken r st rest w p top h = cc
