-- The laws of meanings.
use Rattle.std.specs.Prelude.{◌≡◌, ℕ, ◌+◌, List}
use Rattle.ep_meaning.specs.Meaning.{meaning}
use Rattle.ep_meaning.specs.Steady.{Grows}
use Rattle.ep_meaning.specs.Steps.{Outcome, Gives, Ends, Cut, state_of}
use Rattle.ep_typed.specs.declared.unit.Unit.{Unit as TypedUnit}

-- With so many more steps a computation that was not cut comes to the same, and they are left. One that was cut goes
-- on from there.
abbrev pub IsLonger : {A : Type 0} → ℕ → Outcome A → Outcome A → Type 0
IsLonger more (Gives left a s) o = o ≡ Gives (left + more) a s
IsLonger more (Ends left e s) o = o ≡ Ends (left + more) e s
IsLonger more (Cut s) o = Grows s (state_of o)

-- a meaning that has ended ends so with more steps too, and one that has not goes on from there
abbrev pub MeaningsLast : Type 0
MeaningsLast =
    (units : List TypedUnit) (steps more : ℕ) → IsLonger more (meaning units steps) (meaning units (steps + more))
