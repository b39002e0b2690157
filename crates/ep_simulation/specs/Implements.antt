-- Which images are those of units.
use Rattle.std.specs.Prelude.{ℕ, List}
use Rattle.ep_object.specs.Runs.{begin, run_from}
use Rattle.ep_simulation.specs.Tells.{Tells}
use Rattle.ep_object.specs.declared.code.Image.{Image}
use Rattle.ep_meaning.specs.Meaning.{meaning}
use Rattle.ep_typed.specs.declared.unit.Unit.{Unit as TypedUnit}

-- However many ticks a run of the image has spent, it tells the meaning of the units.
abbrev pub Implements : Image → List TypedUnit → Type 0
Implements G units = (ticks : ℕ) → Tells (meaning units) ticks (run_from G ticks (begin G))
