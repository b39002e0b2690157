-- Components of arrays, for the contract of `component`.
use Rattle.std.proofs.Common.{◌≡◌, ℕ, ℤ, ◌+◌, ◌*◌, List, ◌∷◌, Option, Some, None, IfSome, ◌<◌, Bool, true, false, cond, leb, ltb, length, get_or, slice_get, option_map, refl, rules}
use Rattle.std.proofs.lemmas.Option.{slice_get_read}
use Rattle.ep_memory.specs.Stores.{living}
use Rattle.ep_object.specs.Effects.{Continues}
use Rattle.ep_object.specs.Operands.{Operand, word_on_place, Place as PlaceOf}
use Rattle.ep_object.specs.Places.{index_row, component_of}
use Rattle.ep_object.specs.State.{Segments, TypeTable}
use Rattle.ep_object.specs.declared.state.TypeKind.TheVariants.{Array}
use Rattle.ep_object.specs.declared.state.Place.{Place}
use Rattle.ep_object.specs.declared.state.Segment.{Segment}
use Rattle.ep_object.specs.declared.state.TypeEntry.{TypeEntry}
use Rattle.ep_values.specs.Bounds.{component_at}

-- a test of `get` that was passed
pub found : {X : Type 0} (xs : List X) (i : ℕ) (x : X) → true ≡ ltb i (length xs) → x ≡ get_or xs i x → slice_get xs i ≡ Some x
found xs i x less is =
    let within : i < length xs = search rules in slice_get_read xs (length xs) i x refl within is

-- what Index does where an array stands at a place below an index, in a segment with these words
module _ (types : TypeTable) (segments : Segments) (st : List Operand) (w : ℤ) (p : Place) (rest : List Operand) (lo hi : ℤ) (c : ℕ) (array of : TypeEntry) (words : List ℤ) where
  pub index_is : (segment : Option (Option Segment))
      → word_on_place st ≡ Some (w, p, rest) → slice_get types p.type_number ≡ Some array → array.kind ≡ Array lo hi c
      → slice_get types c ≡ Some of → slice_get segments p.segment ≡ segment → option_map (λ s. s.words) (living segment) ≡ Some words
      → index_row types segments st ≡ component_of (record { type_number = 0; words = words }) p c of.size (component_at lo hi w) rest
  index_is None operands entry kind component there words = cc
  index_is (Some None) operands entry kind component there words = cc
  index_is (Some (Some s)) operands entry kind component there same =
      let has : s.words ≡ words = cc in
      let e : component_of s p c of.size (component_at lo hi w) rest ≡ component_of (record { type_number = 0; words = words }) p c of.size (component_at lo hi w) rest = by_number s (component_at lo hi w) has in
      rw (operands, entry, kind, component, there) e
    where
      by_number : (s : Segment) (k : Option ℕ) → s.words ≡ words → component_of s p c of.size k rest ≡ component_of (record { type_number = 0; words = words }) p c of.size k rest
      by_number s None same = refl
      by_number s (Some k) same = rw same refl

-- the component of a number whose end lies within the words
pub component_there : (words : List ℤ) (p : Place) (c size k offset : ℕ) (st : List Operand)
    → Some offset ≡ cond (leb (p.offset + k * size + size) (length words)) (Some (p.offset + k * size)) None
    → component_of (record { type_number = 0; words = words }) p c size (Some k) st
    ≡ Continues (PlaceOf (record { segment = p.segment; offset = offset; type_number = c }) ∷ st)
component_there words p c size k offset st h = by_test (leb (p.offset + k * size + size) (length words)) refl
  where
    by_test : (b : Bool) → leb (p.offset + k * size + size) (length words) ≡ b
        → component_of (record { type_number = 0; words = words }) p c size (Some k) st
        ≡ Continues (PlaceOf (record { segment = p.segment; offset = offset; type_number = c }) ∷ st)
    by_test true is =
        let same : Some offset ≡ Some (p.offset + k * size) = rw is at h in
        let e : offset ≡ p.offset + k * size = cc in
        rw (is, e) refl
    by_test false is =
        let none : Some offset ≡ None = rw is at h in
        cc

-- what holds of a thing where there is one, by what holds of it besides
pub if_some_then : {A : Type 0} (o : Option A) {P Q : A → Type 0} → ((a : A) → P a → Q a) → IfSome o P → IfSome o Q
if_some_then None f h = tt
if_some_then (Some a) f h = f a h
