-- What a memory is to contracts, and what each call makes of it.
use Rattle.std.specs.Prelude.{◌≡◌, ◌<◌, ◌≤◌, ℕ, ℤ, ◌+◌, ◌-◌, max, List, [], ◌∷◌, ◌++◌, Option, Some, None, Result, Ok}
use Rattle.std.specs.Prelude.{Err, cond, leb, ltb, length, slice_get, slice_set}
use Rattle.std.specs.List.{sum_by}
use Rattle.ep_object.specs.Places.{words_replaced}
use Rattle.ep_object.specs.State.{Segments, live_limit}
use Rattle.ep_object.specs.declared.state.Segment.{Segment}
use Rattle.ep_memory.specs.declared.answers.Cell.{Cell}
use Rattle.ep_memory.specs.declared.answers.Cell.TheVariants as cell
use Rattle.ep_memory.specs.declared.answers.MakeRefusal.{MakeRefusal}
use Rattle.ep_memory.specs.declared.answers.MakeRefusal.TheVariants.{Full, NoMemory}
use Rattle.ep_memory.specs.declared.answers.Released.{Released}
use Rattle.ep_memory.specs.declared.answers.Released.TheVariants as released
use Rattle.ep_memory.specs.declared.answers.Stored.{Stored}
use Rattle.ep_memory.specs.declared.answers.Stored.TheVariants as stored

-- The segments by number, where 0 numbers none and one that has ended is `None`; how many words are charged besides;
-- and the most words that have lived at once so far.
pub record Store : Type 0 where
  pub segments : Segments
  pub charged : ℕ
  pub peak : ℕ

-- ---- counts

-- the words of a segment, if it lives
abbrev pub size_in : Option Segment → ℕ
size_in None = 0
size_in (Some s) = length s.words

-- how many words a segment counts, if it lives: its words and one more
abbrev pub weight_in : Option Segment → ℕ
weight_in None = 0
weight_in (Some s) = length s.words + 1

-- the words of the segments that live
abbrev pub held : Store → ℕ
held m = sum_by size_in m.segments

-- the live words: what the segments count that live, and what is charged
abbrev pub live : Store → ℕ
live m = sum_by weight_in m.segments + m.charged

-- the number of the next segment, which is one more than were made
abbrev pub next : Store → ℕ
next m = length m.segments

-- ---- segments

-- a segment that there was, if it lives
abbrev pub living : Option (Option Segment) → Option Segment
living None = None
living (Some s) = s

-- the segment of a number, if it lives
abbrev pub segment_at : Store → ℕ → Option Segment
segment_at m n = living (slice_get m.segments n)

-- what stands at an offset of a segment
abbrev pub cell_in : Option Segment → ℕ → Cell
cell_in None offset = cell.Gone
cell_in (Some s) offset = word_in (slice_get s.words offset)
  where
    word_in : Option ℤ → Cell
    word_in None = cell.Outside
    word_in (Some w) = cell.Word w

-- ---- what changes

-- no segment, and no word is charged
abbrev pub empty : Store
empty = record { segments = None ∷ []; charged = 0; peak = 0 }

-- what lives now counts for the peak
abbrev pub reached : Store → Store
reached m = record m { peak = max m.peak (live m) }

-- one segment more, which has the next number
abbrev pub with_segment : Segment → Store → Store
with_segment s m = reached (record m { segments = m.segments ++ Some s ∷ [] })

-- so many more words are charged
abbrev pub with_charged : ℕ → Store → Store
with_charged n m = reached (record m { charged = m.charged + n })

-- so many fewer
abbrev pub given_back : ℕ → Store → Store
given_back n m = record m { charged = m.charged - n }

-- a segment has ended
abbrev pub without : ℕ → Store → Store
without n m = record m { segments = slice_set m.segments n None }

-- a segment has these words
abbrev pub with_words : ℕ → Segment → List ℤ → Store → Store
with_words n s ws m = record m { segments = slice_set m.segments n (Some (record s { words = ws })) }

-- a word stands at an offset of a segment, where there is that offset
abbrev pub with_word_at : ℕ → ℕ → ℤ → Store → Store
with_word_at n offset w m = stored_in (segment_at m n)
  where
    stored_in : Option Segment → Store
    stored_in None = m
    stored_in (Some s) = cond (ltb offset (length s.words)) (with_words n s (slice_set s.words offset w) m) m

-- words stand in a segment from an offset on, where there are so many
abbrev pub with_words_at : ℕ → ℕ → List ℤ → Store → Store
with_words_at n offset ws m = stored_in (segment_at m n)
  where
    stored_in : Option Segment → Store
    stored_in None = m
    stored_in (Some s) =
        cond (leb (offset + length ws) (length s.words)) (with_words n s (words_replaced s.words offset ws) m) m

-- ---- what is answered

-- The segment has the next number; or the words that would live with it pass the limit, and this many they are; or
-- memory is wanting, and they do not pass it.
abbrev pub Makes : Segment → Store → Result ℕ MakeRefusal → Store → Type 0
Makes s old (Ok n) new = (live old + (length s.words + 1) ≤ live_limit) × (n ≡ next old) × (new ≡ with_segment s old)
Makes s old (Err (Full n)) new = (live_limit < n) × (n ≡ live old + (length s.words + 1)) × (new ≡ old)
Makes s old (Err NoMemory) new = (live old + (length s.words + 1) ≤ live_limit) × (new ≡ old)

-- whether so many words are put into a segment from an offset on
abbrev pub put_into : Option Segment → ℕ → ℕ → Stored
put_into None offset count = stored.Gone
put_into (Some s) offset count = cond (leb (offset + count) (length s.words)) stored.Done stored.Outside

-- whether a segment ends
abbrev pub end_of : Option Segment → Released
end_of None = released.Gone
end_of (Some s) = released.Done

-- it holds where no such segment lives
abbrev pub OnGone : Released → Type 0 → Type 0
OnGone released.Gone P = P
OnGone released.Done P = Unit {0}
