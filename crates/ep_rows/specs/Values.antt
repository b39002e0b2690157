-- What is loaded and stored of variables of many words, and of words alone.
use Rattle.std.specs.Prelude.{Bool, true, false, ℕ, ℤ, List}
use Rattle.ep_object.specs.Effects.{Effect, Breaks, having, provided}
use Rattle.ep_object.specs.Operands.{Operand, place}
use Rattle.ep_object.specs.Places.{is_word_kind, kind_of, store_of, store_set, words_stored}
use Rattle.ep_object.specs.State.{Segments, TypeTable}
use Rattle.ep_object.specs.declared.state.TypeKind.{TypeKind}
use Rattle.ep_object.specs.declared.state.TypeKind.TheVariants as kind
use Rattle.ep_object.specs.declared.state.Place.{Place}
use Rattle.ep_object.specs.declared.state.Segment.{Segment}

-- a variable whose place is on top takes a word
abbrev pub word_stored : TypeTable → Segments → ℤ → List Operand → Effect (List Operand × Segments)
word_stored types segments w st =
    having (place st)
    (λ p. having (kind_of types p.0.type_number)
    (λ kind. provided (is_word_kind kind) (store_of kind segments p.0 w p.1)))

-- a variable of the kind takes a set
abbrev pub set_stored_by : TypeKind → Segments → List ℕ → Place → List Operand → Effect (List Operand × Segments)
set_stored_by (kind.Set lo hi) segments ms p st = store_set lo hi ms segments p st
set_stored_by _ segments ms p st = Breaks

-- so does one whose place is on top
abbrev pub set_stored_at : TypeTable → Segments → List ℕ → List Operand → Effect (List Operand × Segments)
set_stored_at types segments ms st =
    having (place st) (λ p. having (kind_of types p.0.type_number) (λ k. set_stored_by k segments ms p.0 p.1))

-- whether variables of the kind have any number of words, which are loaded and stored at once
abbrev pub has_many_words : TypeKind → Bool
has_many_words (kind.Ord lo hi) = false
has_many_words kind.Pointer = false
has_many_words kind.Text = false
has_many_words (kind.Array lo hi c) = true
has_many_words (kind.Record ps) = true
has_many_words (kind.Set lo hi) = false

-- a variable in a segment takes the words of a value of this type
abbrev pub words_stored_in : Segments → Place → ℕ → ℕ → List ℤ → List Operand → Segment
    → Effect (List Operand × Segments)
words_stored_in segments p bare n ws st s = words_stored segments p bare n ws s st
