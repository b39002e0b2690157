-- What holds of the code of every program: a run of its image tells what the program means, and its ticks and the
-- steps of the meaning bound one another.
use Rattle.std.specs.Prelude.{◌≡◌, ℕ, ◌+◌, false, [], ◌∷◌}
use Rattle.ep_gen_unit.specs.UnitCode.{IsUnitCode}
use Rattle.ep_object.specs.Laws.{EndsAt}
use Rattle.ep_object.specs.Placing.{alone}
use Rattle.ep_object.specs.Runs.{begin, run_from}
use Rattle.ep_object.specs.State.{End}
use Rattle.ep_simulation.specs.Tells.{Tells, TellsAtEnd, AreClose}
use Rattle.ep_object.specs.declared.code.Object.{Object}
use Rattle.ep_meaning.specs.Meaning.{meaning}
use Rattle.ep_values.specs.Events.{Trace}
use Rattle.ep_meaning.specs.Steps as meant
use Rattle.ep_meaning.specs.Units.{IsValid}
use Rattle.ep_typed.specs.declared.unit.Unit.{Unit as TypedUnit}

-- However many ticks a run of a program's image has spent, it tells the meaning of the program.
abbrev pub ProgramsTell : Type 0
ProgramsTell =
    (u : TypedUnit) (o : Object) → IsUnitCode u o → IsValid [] u → (ticks : ℕ)
    → Tells (meaning (u ∷ [])) ticks (run_from (alone o) ticks (begin (alone o)))

-- Where a run of a program's image has ended after exactly so many ticks, it tells how they and the steps bound one
-- another: those that the meaning has spent by its end, whether room was lost or not, or those within which it lost
-- room.
abbrev pub ProgramsTellAtEnd : Type 0
ProgramsTellAtEnd =
    (u : TypedUnit) (o : Object) → IsUnitCode u o → IsValid [] u → (ticks : ℕ) (end : End) (trace : Trace)
    → EndsAt (alone o) (begin (alone o)) 0 ticks end trace
    → TellsAtEnd (meaning (u ∷ [])) ticks end trace

-- Where a run of a program's image has ended after exactly so many ticks, and the meaning of the program ends with so
-- many steps and keeps room, each of the two numbers is at most 64 for each of the other and 64 more.
abbrev pub ProgramsSpend : Type 0
ProgramsSpend =
    (u : TypedUnit) (o : Object) → IsUnitCode u o → IsValid [] u → (ticks : ℕ) (end : End) (trace : Trace)
    → EndsAt (alone o) (begin (alone o)) 0 ticks end trace
    → (steps left : ℕ) (its_end : meant.End) (s : meant.State)
    → meaning (u ∷ []) (left + steps) ≡ meant.Ends left its_end s → s.resources.lost ≡ false → AreClose steps ticks
