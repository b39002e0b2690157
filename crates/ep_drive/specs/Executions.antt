-- The image of a text, and how the machine's answer to a run of it is answered and told.
use Rattle.std.specs.Prelude.{ℕ, List, [], ◌∷◌, Option, Some, None}
use Rattle.ep_machine.specs.Answers.{IsEnd}
use Rattle.ep_machine.specs.declared.end.End.{End}
use Rattle.ep_machine.specs.declared.end.End.TheVariants as end
use Rattle.ep_simulation.specs.Implements.{Implements}
use Rattle.ep_object.specs.Runs.{trace_of}
use Rattle.ep_object.specs.State.{Normal, Halt, Error, Broken, Going}
use Rattle.ep_object.specs.declared.code.Image.{Image}
use Rattle.ep_values.specs.Events.{Outside, Does, DoesFront, DoesPart}
use Rattle.ep_typed.specs.declared.unit.Unit.{Unit as TypedUnit}
use Rattle.ep_drive.specs.ProgramTexts.{IsProgramText}
use Rattle.ep_drive.specs.Outcomes.{end_status, end_line, budget_line}
use Rattle.ep_drive.specs.declared.status.Status.{Status}
use Rattle.ep_drive.specs.declared.status.Status.TheVariants as status

-- the image implements the typed program that the text is
pub record IsImageOf (text : List ℕ) (image : Image) : Type 0 where
  pub unit : TypedUnit
  pub program : IsProgramText text unit
  pub implements : Implements image (unit ∷ [])

-- the status of a run by the machine's answer
abbrev pub answer_status : End → Status
answer_status end.Normal = end_status Normal
answer_status end.Halt = end_status Halt
answer_status (end.Error number unit line) = end_status (Error number unit line)
answer_status (end.Broken pc) = end_status (Broken pc)
answer_status end.Budget = status.Budget
answer_status end.ReadFault = status.ReadFault
answer_status end.WriteFault = status.WriteFault
answer_status end.FileFault = status.FileFault
answer_status end.NoMemory = status.NoMemory

-- the line that reports the machine's answer, where there is one
abbrev pub answer_line : End → Option (List ℕ)
answer_line (end.Error number unit line) = end_line (Error number unit line)
answer_line (end.Broken pc) = end_line (Broken pc)
answer_line end.Budget = Some budget_line
answer_line _ = None

-- All events of the run were done and the answer is where it stands, or a write had a fault and a part of them was
-- done, or memory is wanting and some first ones were.
abbrev pub CameTo : End → Going → Outside → Outside → Type 0
CameTo end.ReadFault g old new = ⊥
CameTo end.FileFault g old new = ⊥
CameTo end.WriteFault g old new = DoesPart (trace_of g) old new
CameTo end.NoMemory g old new = DoesFront (trace_of g) old new
CameTo answer g old new = Does (trace_of g) old new × IsEnd answer g
