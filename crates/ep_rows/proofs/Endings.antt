-- Segments that end, one after another.
use Rattle.std.proofs.Common.{◌≡◌, ℕ, ◌<◌, ◌+◌, ◌-◌, take, get_or, length, add-one, List, [], ◌∷◌, ◌++◌, Option, Some, None, slice_get, slice_set, refl, arith}
use Rattle.std.proofs.Math.Seq.{take-suc}
use Rattle.ep_memory.specs.Stores.{Store, living, segment_at, weight_in}
use Rattle.ep_object.specs.Calls.{ended, words_in, words_of}
use Rattle.ep_object.specs.State.{Segments}
use Rattle.ep_object.specs.declared.state.Segment.{Segment}

weight_of : (o : Option (Option Segment)) → weight_in (living o) ≡ words_in o
weight_of None = refl
weight_of (Some None) = refl
weight_of (Some (Some s)) = refl

-- what a segment counts is what the machine counts of it
pub weight_at : (m : Store) (n : ℕ) → weight_in (segment_at m n) ≡ words_in (slice_get m.segments n)
weight_at m n = weight_of (slice_get m.segments n)

ended_next : (ns : List ℕ) (n : ℕ) (segments : Segments) → ended (ns ++ n ∷ []) segments ≡ slice_set (ended ns segments) n None
ended_next [] n segments = refl
ended_next (x ∷ ns) n segments = ended_next ns n (slice_set segments x None)

words_next : (ns : List ℕ) (n : ℕ) (segments : Segments) → words_of (ns ++ n ∷ []) segments ≡ words_of ns segments + words_in (slice_get (ended ns segments) n)
words_next [] n segments = omega arith
words_next (x ∷ ns) n segments = rw (words_next ns n (slice_set segments x None)) (omega arith)

-- what is taken away for one more
words_left : (live : ℕ) (ns : List ℕ) (n : ℕ) (segments : Segments)
    → live - words_of (ns ++ n ∷ []) segments ≡ live - words_of ns segments - words_in (slice_get (ended ns segments) n)
words_left live ns n segments = rw (words_next ns n segments) (omega arith)

module _ (made : List ℕ) (i live : ℕ) (segments : Segments) (less : i < length made) where
  grown : take (i + 1) made ≡ take i made ++ get_or made i 0 ∷ []
  grown = rw (add-one i) (take-suc made i 0 less)

  -- after one more of the segments
  pub ended_one : ended (take (i + 1) made) segments ≡ slice_set (ended (take i made) segments) (get_or made i 0) None
  ended_one = rw grown (ended_next (take i made) (get_or made i 0) segments)

  pub words_one : live - words_of (take (i + 1) made) segments ≡ live - words_of (take i made) segments - words_in (slice_get (ended (take i made) segments) (get_or made i 0))
  words_one = rw grown (words_left live (take i made) (get_or made i 0) segments)
