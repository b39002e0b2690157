-- Rows that are done, and rows that are not begun.
use Rattle.std.proofs.Common.{◌≡◌, ℕ, suc, ◌+◌, true, false, leb, refl}
use Rattle.ep_object.specs.Effects.{Effect, Work, weighing}
use Rattle.ep_rows.specs.Steps.{IsDone, IsDoneIf, IsStep, UnlessNoMemory}
use Rattle.ep_rows.specs.declared.step.Step.{Step}
use Rattle.ep_rows.specs.declared.step.Step.TheVariants.{Next, Goto, Error, Broken, Full, NoMemory, Rare}

unless : (P : Type 0) (r : Step) → P → UnlessNoMemory r P
unless P Next h = h
unless P (Goto to) h = h
unless P (Error n) h = h
unless P Broken h = h
unless P Full h = h
unless P NoMemory h = tt
unless P Rare h = h

-- a row is done that has room
pub done : {A : Type 0} (limit ticks ticks2 n : ℕ) (w : Work A) (e : Effect A) (r : Step) (old new : A)
    → w ≡ weighing n e → leb (ticks + suc n) limit ≡ true → ticks2 ≡ ticks + n → IsStep e r new → IsDone limit w r ticks ticks2 old new
done limit ticks ticks2 n w e r old new is room spent step =
    rw is (unless (IsDoneIf (leb (ticks + suc n) limit) (weighing n e) r ticks ticks2 old new) r (rw room (spent, step)))

-- a row is not begun that has no room
pub not_begun : {A : Type 0} (limit ticks ticks2 n : ℕ) (w : Work A) (old new : A)
    → w.weight ≡ n → leb (ticks + suc n) limit ≡ false → ticks2 ≡ ticks → new ≡ old → IsDone limit w Full ticks ticks2 old new
not_begun limit ticks ticks2 n w old new weight full spent same = rw (weight, full) (refl, spent, same)
