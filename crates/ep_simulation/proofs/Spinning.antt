-- What no run of an image that implements units does once room is lost: go on without doing what the units mean.
use Rattle.std.specs.Prelude.{ℕ, ◌≡◌, ◌+◌, ◌*◌, ◌≤◌, List}
use Rattle.std.proofs.Common.{subst, sym, ◌∙◌, arith}
use Rattle.ep_simulation.specs.Implements.{Implements}
use Rattle.ep_object.specs.Runs.{begin, run_from}
use Rattle.ep_object.specs.State.{State, Running}
use Rattle.ep_simulation.specs.Tells.{StillGoes, Tells, spare_ticks}
use Rattle.ep_object.specs.declared.code.Image.{Image}
use Rattle.ep_meaning.specs.Meaning.{meaning}
use Rattle.ep_meaning.specs.Steps.{Outcome, Ends, Cut}
use Rattle.ep_meaning.specs.Steps as meant
use Rattle.ep_typed.specs.declared.unit.Unit.{Unit as TypedUnit}

-- The run is still going on when it has spent all the ticks that m steps may take, and the meaning has ended within these, or does what the run has not done by then. A run that spins for ever once room is lost is such a one, and so is one that takes longer to give up.
record Spins (G : Image) (units : List TypedUnit) (m : ℕ) : Type 0 where
  ticks : ℕ
  spent : 64 * m + spare_ticks ≤ ticks
  wait : ℕ
  to : State
  goes_on : run_from G ticks (begin G) ≡ Running wait to
  lacks : StillGoes (meaning units m) to.trace → ⊥

-- no image that implements units has such a run, whatever room is lost
none_spins : (G : Image) (units : List TypedUnit) (m : ℕ) → Implements G units → Spins G units m → ⊥
none_spins G units m implements spins = let told = subst (Tells (meaning units) spins.ticks) spins.goes_on (implements spins.ticks) in spins.lacks (told.all m spins.spent)

-- where the meaning ends within m steps, the run has ended when it has spent these ticks
none_goes_on : (G : Image) (units : List TypedUnit) (m left : ℕ) (end : meant.End) (s : meant.State) → Implements G units → meaning units m ≡ Ends left end s → (wait : ℕ) (to : State) → run_from G (64 * m + spare_ticks) (begin G) ≡ Running wait to → ⊥
none_goes_on G units m left end s implements ends wait to goes_on =
    none_spins G units m implements (record { ticks = 64 * m + spare_ticks; spent = omega arith; wait = wait; to = to; goes_on = goes_on; lacks = λ still. ended still.state (sym ends ∙ still.is) })
  where
    ended : (t : meant.State) → ◌≡◌ {A = Outcome (Unit {0})} (Ends left end s) (Cut t) → ⊥
    ended t same = cc
