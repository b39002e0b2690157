-- The making of a variable is followed, whatever words it has: one of no words takes one tick of the credit, and each word
-- gives some.
use Rattle.std.proofs.Common.{◌≡◌, ℕ, zero, suc, ◌+◌, ◌*◌, ◌≤◌, ◌⊎◌, inl, inr, refl, arith}
use Rattle.ep_simulation.specs.Follows.{Point, state_at, GivesUp, Follows, Facts, Fragment, After, Lands, IsNotLeft}
use Rattle.ep_simulation.specs.Layouts.{Layout}
use Rattle.ep_simulation.specs.Matching.{Matches}
use Rattle.ep_object.specs.declared.code.Image.{Image}
use Rattle.ep_simulation.proofs.public.following.Bind.{follows_credit, follows_waits, follows_give, follows_counted, follows_gives_up}
use Rattle.ep_simulation.proofs.public.following.Fragments.{Does, fragment_less, landed}
use Rattle.ep_simulation.proofs.public.following.Losing.{fragment_counted}
use Rattle.ep_simulation.proofs.public.matching.MoreMemory.{not_left-here}
use Rattle.ep_meaning.proofs.public.Steady.{steady_change}
use Rattle.ep_meaning.specs.Steady.{Grows}
use Rattle.ep_meaning.specs.Steps.{bind, spend, change}
use Rattle.ep_meaning.specs.Steps as meaning

-- What is left may be all of the credit, where a variable has words, and else all but one tick.
pub sized_gains : (d left size : ℕ) → left ≤ d → (size ≡ 0 → suc left ≤ d) → suc left ≤ d + 63 * size
sized_gains d left zero less empty = omega (arith, empty refl)
sized_gains d left (suc w) less empty = omega (arith, less)

module _ {layout : Layout} {G : Image} {Here : Facts} {n : ℕ} {from : Point} {to : ℕ} {P : Unit {0} → After} {d left : ℕ} (count f : meaning.State → meaning.State) (quiet : (s : meaning.State) → (count s).trace ≡ s.trace) (grows : (s : meaning.State) → Grows s (f s)) (enough : 1 ≤ d) where
  -- What it takes is counted, and then it is made, with so many steps, or the machine ends for want of room that the count loses.
  pub fragment_sized : (size : ℕ) → suc left ≤ d + 63 * size
      → ((s : meaning.State) → Matches layout G from.injection s from.memory → Here from.injection s from.memory → Does layout G Here (state_at from s.trace) size to (P tt) (f (count s)) ⊎ GivesUp G (state_at from s.trace) 0 1 (count s))
      → Fragment layout G Here n from (bind (change count) (λ _. spend size (change f))) to P d (λ a. left)
  fragment_sized zero gains does = record { by = λ s matches here. follows_counted count (go s (does s matches here)) }
    where
      paid : 1 + left ≤ d
      paid = omega (arith, gains)

      go : (s : meaning.State) → Does layout G Here (state_at from s.trace) 0 to (P tt) (f (count s)) ⊎ GivesUp G (state_at from s.trace) 0 1 (count s)
          → Follows (λ k. IsNotLeft from.memory.frames k.frames) G n (state_at from s.trace) (count s) (change f) (λ b. Lands layout G Here to (P b)) d (λ a. left)
      go s (inl x) = follows_credit {d = 1 + left} {e = λ a. left} paid (λ a. omega arith) (follows_waits {v = 0} {d = left} (not_left-here from.memory.frames) x.does (follows_counted f (follows_give tt (omega arith) (landed x))))
      go s (inr x) = follows_gives_up (steady_change grows) enough x
  fragment_sized (suc w) gains does =
      fragment_less {n = suc n} (omega arith) (fragment_counted {weight = suc w} w count f tt quiet grows does enough (omega arith) (omega (arith, gains)) (omega (arith, gains)))
