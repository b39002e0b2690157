-- The four kinds of statuses.
use Rattle.std.specs.Prelude.{◌≡◌, ◌<◌, ⊤, ◌⊎◌}
use Rattle.ep_drive.specs.Seen.{Seen}
use Rattle.ep_drive.specs.declared.status.Status.{Status}
use Rattle.ep_drive.specs.declared.status.Status.TheVariants as status

-- a job came to its end or to the end of its budget; the call was refused; a call of the outside had a fault; memory
-- is wanting
pub data StatusKind : Type 0 where
  Finished : StatusKind
  Refused : StatusKind
  Faulted : StatusKind
  Starved : StatusKind

abbrev pub kind_of : Status → StatusKind
kind_of status.Done = Finished
kind_of status.Halted = Finished
kind_of status.RunError = Finished
kind_of status.SourceRefused = Refused
kind_of status.LinkRefused = Refused
kind_of status.FileRefused = Refused
kind_of status.Usage = Refused
kind_of status.Budget = Finished
kind_of status.FileMissing = Refused
kind_of status.ReadFault = Faulted
kind_of status.WriteFault = Faulted
kind_of status.FileFault = Faulted
kind_of status.BrokenImage = Finished
kind_of status.NoMemory = Starved
kind_of status.Unbuilt = Refused

-- a call of the outside had a fault, or memory is wanting
abbrev pub IsStop : Status → Type 0
IsStop answer = (kind_of answer ≡ Faulted) ⊎ (kind_of answer ≡ Starved)

-- a fault that the status names was counted
abbrev pub Rose : Status → Seen → Seen → Type 0
Rose status.ReadFault before after = before.input_faults < after.input_faults
Rose status.WriteFault before after =
    (before.output_faults < after.output_faults) ⊎ (before.report_faults < after.report_faults)
Rose status.FileFault before after = before.file_faults < after.file_faults
Rose _ before after = ⊤
