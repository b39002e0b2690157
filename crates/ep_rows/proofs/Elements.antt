-- Components of the values of arrays, for the rows on them.
use Rattle.std.proofs.Common.{◌≡◌, ℕ, ℤ, ◌+◌, ◌<◌, List, [], ◌∷◌, Option, Some, length, slice_get, refl, ap, arith}
use Rattle.std.proofs.lemmas.Bool.{lt-leb}
use Rattle.ep_frames.specs.Stacks.{value_top, value_under_word, word_top}
use Rattle.ep_object.specs.Effects.{Breaks, light}
use Rattle.ep_object.specs.Operands.{Operand, Word, Place, Text, Value, Set}
use Rattle.ep_object.specs.Parts.{element_of, part_at, value_element}
use Rattle.ep_object.specs.State.{TypeTable}
use Rattle.ep_object.specs.declared.state.TypeKind.TheVariants.{Array}
use Rattle.ep_object.specs.declared.state.TypeEntry.{TypeEntry}
use Rattle.ep_values.specs.Bounds.{component_at}

-- what is at an index of a value whose type is that of an array with components of this type
pub element_is : (types : TypeTable) (ws : List ℤ) (array c : ℕ) (z lo hi : ℤ) (a of : TypeEntry) (k : Option ℕ) (st : List Operand)
    → slice_get types array ≡ Some a → a.kind ≡ Array lo hi c → slice_get types c ≡ Some of → k ≡ component_at lo hi z
    → value_element types z array ws st ≡ element_of types ws c of.size k st
element_is types ws array c z lo hi a of k st entry kind component number = rw (entry, kind, component, number) refl

-- no component begins behind the last word
pub past : (types : TypeTable) (ws : List ℤ) (offset n : ℕ) (e : TypeEntry) (st : List Operand) → slice_get types n ≡ Some e → length ws < offset
    → part_at types ws offset n st ≡ light Breaks
past types ws offset n e st there less = rw (there, lt-leb (offset + e.size) (length ws) (omega (arith, less))) refl

-- a value below a word on top stands over others
pub under_word : (st : List Operand) (z : ℤ) (n : ℕ) (ws : List ℤ) → Some (n, ws) ≡ value_under_word st → Some z ≡ word_top st
    → (rest : List Operand) × (st ≡ Word z ∷ Value n ws ∷ rest)
under_word [] z n ws e f = cc
under_word (Word w ∷ []) z n ws e f = cc
under_word (Word w ∷ Word v ∷ st) z n ws e f = cc
under_word (Word w ∷ Place p ∷ st) z n ws e f = cc
under_word (Word w ∷ Text bytes ∷ st) z n ws e f = cc
under_word (Word w ∷ Set ms ∷ st) z n ws e f = cc
under_word (Word w ∷ Value m us ∷ st) z n ws e f =
    let pair : ◌≡◌ {A = ℕ × List ℤ} (n, ws) (m, us) = cc in
    let number : n ≡ m = ap (λ p. p.0) pair in
    let words : ws ≡ us = ap (λ p. p.1) pair in
    (st, cc)
under_word (Place p ∷ st) z n ws e f = cc
under_word (Text bytes ∷ st) z n ws e f = cc
under_word (Value m us ∷ st) z n ws e f = cc
under_word (Set ms ∷ st) z n ws e f = cc

-- a value on top
pub on_value : (st : List Operand) (n : ℕ) (ws : List ℤ) → Some (n, ws) ≡ value_top st → (rest : List Operand) × (st ≡ Value n ws ∷ rest)
on_value [] n ws e = cc
on_value (Value m xs ∷ st) n ws e =
    let pair : ◌≡◌ {A = ℕ × List ℤ} (n, ws) (m, xs) = cc in
    let number : n ≡ m = ap (λ p. p.0) pair in
    let words : ws ≡ xs = ap (λ p. p.1) pair in
    (st, cc)
on_value (Word z ∷ st) n ws e = cc
on_value (Place p ∷ st) n ws e = cc
on_value (Text bytes ∷ st) n ws e = cc
on_value (Set ms ∷ st) n ws e = cc
