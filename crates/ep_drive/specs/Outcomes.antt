-- The status and the line of the report of a run, and how a line is reported.
use Rattle.std.specs.Prelude.{◌≡◌, ℕ, ◌<◌, List, ◌++◌, Option, Some, None, codes, decimal}
use Rattle.ep_outside.specs.Known.{Keeps, Appends, AppendsFront}
use Rattle.ep_object.specs.State.{End, Normal, Halt, Error, Broken, Going, Running, Stopped}
use Rattle.ep_drive.specs.declared.status.Status.{Status}
use Rattle.ep_drive.specs.declared.status.Status.TheVariants as status

-- ---- the end of a run

-- the status of a run that has ended so
abbrev pub end_status : End → Status
end_status Normal = status.Done
end_status Halt = status.Halted
end_status (Error number unit line) = status.RunError
end_status (Broken place) = status.BrokenImage

-- the line that reports an error of a run
abbrev pub error_line : ℕ → List ℕ → ℕ → List ℕ
error_line number unit line =
    codes "error " ++ decimal number ++ codes " in " ++ unit ++ codes " at line " ++ decimal line ++ codes "\n"

-- the line that reports such an end, where there is one
abbrev pub end_line : End → Option (List ℕ)
end_line Normal = None
end_line Halt = None
end_line (Error number unit line) = Some (error_line number unit line)
end_line (Broken place) = Some (codes "broken image at " ++ decimal place ++ codes "\n")

-- the line that reports that the budget is spent
abbrev pub budget_line : List ℕ
budget_line = codes "budget spent\n"

-- the status of a run by where it stands when its budget is spent, if not before
abbrev pub run_status : Going → Status
run_status (Running wait s) = status.Budget
run_status (Stopped end trace) = end_status end

-- the line that reports how a run stands, where there is one
abbrev pub run_line : Going → Option (List ℕ)
run_line (Running wait s) = Some budget_line
run_line (Stopped end trace) = end_line end

-- ---- reports

-- the whole line was reported, or there is none and nothing was reported
abbrev pub IsReported : Option (List ℕ) → Option (List ℕ) → Option (List ℕ) → Type 0
IsReported None old new = Keeps old new
IsReported (Some line) old new = Appends old new line

-- where a line was to be reported, a front of it was written
abbrev pub IsReportedPart : Option (List ℕ) → Option (List ℕ) → Option (List ℕ) → Type 0
IsReportedPart None old new = ⊥
IsReportedPart (Some line) old new = AppendsFront old new line

-- a status with its whole line, a fault with a front of the line, or no memory with none of it
pub data IsToldAs (own : Status) (line : Option (List ℕ)) (answer : Status) (old new : Option (List ℕ)) (m n : ℕ) :
    Type 0 where
  whole : answer ≡ own → IsReported line old new → IsToldAs own line answer old new m n
  fault : answer ≡ status.WriteFault → IsReportedPart line old new → m < n → IsToldAs own line answer old new m n
  nothing : answer ≡ status.NoMemory → Keeps old new → IsToldAs own line answer old new m n
