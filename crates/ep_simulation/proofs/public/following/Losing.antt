-- Fragments of code that may end for want of room.
use Rattle.std.proofs.Common.{◌≡◌, ℕ, suc, ◌+◌, ◌*◌, ◌≤◌, ◌⊎◌, inl, inr, sym, arith}
use Rattle.ep_simulation.specs.Follows.{Point, state_at, GivesUp, Follows, Facts, Fragment, After, Lands, IsNotLeft}
use Rattle.ep_simulation.specs.Layouts.{Layout}
use Rattle.ep_simulation.specs.Matching.{Matches}
use Rattle.ep_object.specs.declared.code.Image.{Image}
use Rattle.ep_simulation.proofs.public.following.Bind.{follows_paid, follows_give, follows_counted, follows_gives_up}
use Rattle.ep_simulation.proofs.public.following.Fragments.{Does, landed}
use Rattle.ep_simulation.proofs.public.matching.MoreMemory.{not_left-here}
use Rattle.ep_meaning.proofs.public.Steady.{steady_bind, steady_give, steady_spend, steady_change}
use Rattle.ep_meaning.specs.Steady.{Grows}
use Rattle.ep_meaning.specs.Steps.{give, bind, spend, change}
use Rattle.ep_meaning.specs.Steps as meaning

-- What a form takes is counted, and then an instruction changes the state, with steps, and gives a value, or ends for
-- want of room that the count loses.
pub fragment_counted : {A : Type 0} {layout : Layout} {G : Image} {Here : Facts} {n cost : ℕ} {from : Point} {to weight : ℕ} {P : A → After} {d : ℕ} {e : A → ℕ} (w : ℕ) (count f : meaning.State → meaning.State) (a : A)
    → ((s : meaning.State) → (count s).trace ≡ s.trace) → ((s : meaning.State) → Grows s (f s))
    → ((s : meaning.State) → Matches layout G from.injection s from.memory → Here from.injection s from.memory → Does layout G Here (state_at from s.trace) weight to (P a) (f (count s)) ⊎ GivesUp G (state_at from s.trace) 0 cost (count s))
    → cost ≤ d → w ≤ 64 * weight + d → suc w + e a ≤ 64 * suc weight + d → suc weight + e a ≤ 64 * suc w + d
    → Fragment layout G Here (suc n) from (bind (change count) (λ _. spend (suc w) (bind (change f) (λ _. give a)))) to P d e
fragment_counted {A = A} {layout = layout} {G = G} {Here = Here} {n = n} {cost = cost} {from = from} {to = to} {weight = weight} {P = P} {d = d} {e = e} w count f a quiet grows does enough inside slow fast = record { by = λ s matches here. follows_counted count (go s (does s matches here)) }
  where
    go : (s : meaning.State)
        → Does layout G Here (state_at from s.trace) weight to (P a) (f (count s)) ⊎ GivesUp G (state_at from s.trace) 0 cost (count s)
        → Follows (λ k. IsNotLeft from.memory.frames k.frames) G (suc n) (state_at from s.trace) (count s) (spend (suc w) (bind (change f) (λ _. give a))) (λ b. Lands layout G Here to (P b)) d e
    go s (inl x) = follows_paid {v = weight} {w = w} {d1 = e a} (not_left-here from.memory.frames) (sym (quiet s)) x.does inside slow fast (follows_counted f (follows_give a (omega arith) (landed x)))
    go s (inr x) = follows_gives_up (steady_spend (suc w) (steady_bind (steady_change grows) (λ _. steady_give a))) enough x
