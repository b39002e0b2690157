-- What holds of every image that objects are linked to which implement units.
use Rattle.std.specs.Prelude.{◌≡◌, ℕ, ◌+◌, false, List, Some, length, slice_get}
use Rattle.ep_meaning.specs.Meaning.{meaning}
use Rattle.ep_meaning.specs.Steps as meant
use Rattle.ep_object.specs.Laws.{EndsAt}
use Rattle.ep_object.specs.Placing.{linked}
use Rattle.ep_object.specs.Runs.{begin}
use Rattle.ep_object.specs.State.{End}
use Rattle.ep_object.specs.declared.code.Object.{Object}
use Rattle.ep_simulation.specs.Implements.{Implements}
use Rattle.ep_simulation.specs.Joined.{AreJoined, ObjectImplements}
use Rattle.ep_simulation.specs.Tells.{AreClose, TellsAtEnd}
use Rattle.ep_typed.specs.declared.unit.Unit.{Unit as TypedUnit}
use Rattle.ep_values.specs.Events.{Trace}

-- there is an object for each unit, in the order of the units, and it implements that
pub record AreObjectsOf (units : List TypedUnit) (objects : List Object) : Type 0 where
  pub count : length objects ≡ length units
  pub each : (k : ℕ) (u : TypedUnit) (o : Object) → slice_get units k ≡ Some u → slice_get objects k ≡ Some o
      → ObjectImplements u o

-- The image to which they are linked implements the units, which are started in this order.
abbrev pub LinkedImplement : Type 0
LinkedImplement =
    (units : List TypedUnit) (objects : List Object) → AreJoined units → AreObjectsOf units objects
    → Implements (linked objects) units

-- Where a run of the image has ended after exactly so many ticks, it tells how they and the steps of the meaning bound
-- one another.
abbrev pub LinkedTellAtEnd : Type 0
LinkedTellAtEnd =
    (units : List TypedUnit) (objects : List Object) → AreJoined units → AreObjectsOf units objects
    → (ticks : ℕ) (end : End) (trace : Trace)
    → EndsAt (linked objects) (begin (linked objects)) 0 ticks end trace → TellsAtEnd (meaning units) ticks end trace

-- Where the meaning of the units ends with so many steps and keeps room besides, each of the two numbers is at most 64
-- for each of the other and 64 more.
abbrev pub LinkedSpend : Type 0
LinkedSpend =
    (units : List TypedUnit) (objects : List Object) → AreJoined units → AreObjectsOf units objects
    → (ticks : ℕ) (end : End) (trace : Trace) → EndsAt (linked objects) (begin (linked objects)) 0 ticks end trace
    → (steps left : ℕ) (its_end : meant.End) (s : meant.State)
    → meaning units (left + steps) ≡ meant.Ends left its_end s → s.resources.lost ≡ false → AreClose steps ticks
