-- What segments count.
use Rattle.std.proofs.Common.{◌≡◌, ◌≤◌, ◌+◌, ◌-◌, ℕ, zero, suc, [], ◌∷◌, Option, Some, None, slice_set, slice_get, arith, refl}
use Rattle.std.proofs.lemmas.List.Sums.{sum_by-cons, sum_by-le-sum_by}
use Rattle.std.specs.List.{sum_by}
use Rattle.ep_object.specs.State.{Segments}
use Rattle.ep_object.specs.declared.state.Segment.{Segment}
use Rattle.ep_memory.specs.Stores.{Store, live, living, segment_at, size_in, weight_in, without}

no_more : (o : Option Segment) → size_in o ≤ weight_in o
no_more None = omega arith
no_more (Some s) = omega arith

-- segments have no more words than they count
pub held_counted : (ss : Segments) → sum_by size_in ss ≤ sum_by weight_in ss
held_counted ss = sum_by-le-sum_by size_in weight_in ss no_more

-- segments count so much less without one of them
set_counts : (ss : Segments) (n : ℕ) → sum_by weight_in (slice_set ss n None) + weight_in (living (slice_get ss n)) ≡ sum_by weight_in ss
set_counts [] n = refl
set_counts (s ∷ ss) zero = omega (arith, sum_by-cons weight_in None ss, sum_by-cons weight_in s ss)
set_counts (s ∷ ss) (suc n) = omega (arith, sum_by-cons weight_in s (slice_set ss n None), sum_by-cons weight_in s ss, set_counts ss n)

-- without a segment its words no longer live
pub live_without : (m : Store) (n : ℕ) → live (without n m) ≡ live m - weight_in (segment_at m n)
live_without m n = omega (arith, set_counts m.segments n)
