-- What a run of texts within a budget comes to: by the machine, and by the meaning of the units that the texts join
-- to.
use Rattle.std.specs.Prelude.{◌≡◌, ℕ, ◌+◌, ◌*◌, ◌<◌, ◌≤◌, false, ◌⊎◌, List}
use Rattle.ep_outside.specs.Known.{Appends}
use Rattle.ep_simulation.specs.Follows.{end_of}
use Rattle.ep_simulation.specs.Implements.{Implements}
use Rattle.ep_object.specs.Runs.{begin, run_to, timed, trace_of}
use Rattle.ep_object.specs.State.{Going}
use Rattle.ep_object.specs.State as machine
use Rattle.ep_simulation.specs.Tells.{GoesOn, RanOut}
use Rattle.ep_object.specs.declared.code.Image.{Image}
use Rattle.ep_values.specs.Events.{Trace, Outside, Does, DoesFront, DoesPart}
use Rattle.ep_meaning.specs.Meaning.{meaning}
use Rattle.ep_meaning.specs.Steps.{State, Ends, state_of}
use Rattle.ep_meaning.specs.Steps as meaning
use Rattle.ep_typed.specs.declared.unit.Unit.{Unit as TypedUnit}
use Rattle.ep_drive.specs.Outcomes.{run_status, run_line, IsReported, IsReportedPart, error_line, budget_line}
use Rattle.ep_drive.specs.Outcomes.{end_status}
use Rattle.ep_drive.specs.ProgramTexts.{Joins}
use Rattle.ep_drive.specs.Seen.{Seen, Unread, Unreported, outside_of}
use Rattle.ep_drive.specs.declared.status.Status.{Status}
use Rattle.ep_drive.specs.declared.status.Status.TheVariants as status

-- ---- by the machine

-- where a run of an image stands when its budget is spent, if it has not ended before
abbrev pub run_within : ℕ → Image → Going
run_within budget image = (run_to image budget (timed 0 (begin image))).going

-- The texts join to units, and an image that implements these was run within the budget. This holds of the units and
-- of where the run stands.
pub record Ran (budget : ℕ) (texts : List (List ℕ)) (P : List TypedUnit → Going → Type 0) : Type 0 where
  pub units : List TypedUnit
  pub joins : Joins texts units
  pub image : Image
  pub implements : Implements image units
  pub stands : P units (run_within budget image)

-- the events of the run were done and nothing else, and status and report are those of where it stands
pub record IsRun (answer : Status) (before after : Seen) (going : Going) : Type 0 where
  pub does : Does (trace_of going) (outside_of before) (outside_of after)
  pub unread : Unread before after
  pub answers : answer ≡ run_status going
  pub reports : IsReported (run_line going) before.report after.report

-- so much of a beginning of the run within its budget was done, which is a beginning of the meaning too, and nothing
-- else
pub record IsBeginning (Done : Trace → Outside → Outside → Type 0) (budget : ℕ) (before after : Seen)
    (units : List TypedUnit) (going : Going) : Type 0 where
  pub run : Done (trace_of going) (outside_of before) (outside_of after)
  pub steps : ℕ
  pub few : steps ≤ 64 * (budget + 1)
  pub meant : Done (state_of (meaning units steps)).trace (outside_of before) (outside_of after)
  pub unread : Unread before after

-- the output had a fault, and nothing was reported
abbrev pub IsUnwritten : Seen → Seen → Type 0
IsUnwritten before after = Unreported before after × (before.output_faults < after.output_faults)

-- all events of the run were done, and the report had a fault in the middle of its line
pub record IsUntold (before after : Seen) (going : Going) : Type 0 where
  pub does : Does (trace_of going) (outside_of before) (outside_of after)
  pub reports : IsReportedPart (run_line going) before.report after.report
  pub rose : before.report_faults < after.report_faults

-- a run that has ended, or has spent its budget
abbrev pub GoFinishes : ℕ → List (List ℕ) → Status → Seen → Seen → Type 0
GoFinishes budget texts answer before after = Ran budget texts (λ units going. IsRun answer before after going)

-- what may have been done with a fault, by its status: a run touches no file and reads nothing so far
abbrev pub GoPart : ℕ → List (List ℕ) → Status → Seen → Seen → Type 0
GoPart budget texts status.WriteFault before after =
    Ran budget texts
    (λ units going. IsBeginning DoesPart budget before after units going
    × (IsUnwritten before after ⊎ IsUntold before after going))
GoPart budget texts _ before after = ⊥

-- what may have been done where memory is wanting: all of each event, and nothing is reported
abbrev pub GoFront : ℕ → List (List ℕ) → Seen → Seen → Type 0
GoFront budget texts before after =
    Ran budget texts (λ units going. IsBeginning DoesFront budget before after units going × Unreported before after)

-- ---- by the meaning

-- the meaning of the units ends so within some number of steps, and all its events were done and nothing else
pub record EndsSo (units : List TypedUnit) (end : meaning.End) (before after : Seen) : Type 0 where
  pub steps : ℕ
  pub left : ℕ
  pub state : State
  pub ends : meaning units steps ≡ Ends left end state
  pub does : Does state.trace (outside_of before) (outside_of after)

-- the meaning of the units passes the room that every run has, the error is that storage or depth is wanting, and some
-- first events of the meaning were done
pub record LosesRoom (budget : ℕ) (units : List TypedUnit) (number : ℕ) (in_unit : List ℕ) (line : ℕ)
    (before after : Seen) : Type 0 where
  pub trace : Trace
  pub means : RanOut (meaning units) budget (machine.Error number in_unit line) trace
  pub does : Does trace (outside_of before) (outside_of after)

-- the meaning of the units ends by an error, or passes the room that every run has, and the error is reported
pub record Fails (budget : ℕ) (units : List TypedUnit) (before after : Seen) : Type 0 where
  pub number : ℕ
  pub in_unit : List ℕ
  pub line : ℕ
  pub means : EndsSo units (meaning.Error number in_unit line) before after
      ⊎ LosesRoom budget units number in_unit line before after
  pub reports : Appends before.report after.report (error_line number in_unit line)

-- Some first events of the meaning of the units were done. They begin with all that it does within m steps wherever 64
-- * m + 42 is at most the budget, and it has not ended by then.
pub record IsCut (budget : ℕ) (units : List TypedUnit) (before after : Seen) : Type 0 where
  pub trace : Trace
  pub means : GoesOn (meaning units) budget trace
  pub does : Does trace (outside_of before) (outside_of after)
  pub reports : Appends before.report after.report budget_line

-- what each status says of the meaning, and what is reported
abbrev pub MeansSo : Status → ℕ → List TypedUnit → Seen → Seen → Type 0
MeansSo status.Done budget units before after = EndsSo units meaning.Normal before after × Unreported before after
MeansSo status.Halted budget units before after = EndsSo units meaning.Halted before after × Unreported before after
MeansSo status.RunError budget units before after = Fails budget units before after
MeansSo status.Budget budget units before after = IsCut budget units before after
MeansSo _ budget units before after = ⊥

-- the texts join to units, and the status says this of their meaning
pub record GoMeans (budget : ℕ) (texts : List (List ℕ)) (answer : Status) (before after : Seen) : Type 0 where
  pub units : List TypedUnit
  pub joins : Joins texts units
  pub means : MeansSo answer budget units before after

-- the texts join to units, whose meaning ends with room, within so few steps that the budget has 64 ticks for each and
-- 64 more, and this is the status of its end
pub record GoSettles (budget : ℕ) (texts : List (List ℕ)) (answer : Status) : Type 0 where
  pub units : List TypedUnit
  pub joins : Joins texts units
  pub steps : ℕ
  pub left : ℕ
  pub end : meaning.End
  pub state : State
  pub ends : meaning units steps ≡ Ends left end state
  pub room : state.resources.lost ≡ false
  pub few : 64 * (steps + 1) ≤ budget
  pub answers : answer ≡ end_status (end_of end)
