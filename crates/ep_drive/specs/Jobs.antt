-- What a job comes to, one row for each job.
use Rattle.ep_drive.specs.GoRuns.{GoFinishes, GoPart, GoFront, GoMeans, GoSettles}
use Rattle.ep_drive.specs.Seen.{Seen}
use Rattle.ep_drive.specs.Statuses.{StatusKind, Finished, Refused, Faulted, Starved}
use Rattle.ep_drive.specs.Verdicts.{Job, Go}
use Rattle.ep_drive.specs.declared.status.Status.{Status}

-- the job came to its end, or to that of its budget, and was answered so
abbrev pub Finishes : Job → Status → Seen → Seen → Type 0
Finishes (Go budget texts) answer before after = GoFinishes budget texts answer before after

-- what may have been done of the job with a fault, by its status
abbrev pub FaultyPart : Job → Status → Seen → Seen → Type 0
FaultyPart (Go budget texts) answer before after = GoPart budget texts answer before after

-- what may have been done of the job where memory is wanting
abbrev pub Front : Job → Seen → Seen → Type 0
Front (Go budget texts) before after = GoFront budget texts before after

-- what the status of a job that came to its end says by the meaning of its texts
abbrev pub Means : Job → Status → Seen → Seen → Type 0
Means (Go budget texts) answer before after = GoMeans budget texts answer before after

-- the budget is enough for the job, and this is the status of its end
abbrev pub Settles : Job → Status → Type 0
Settles (Go budget texts) answer = GoSettles budget texts answer

-- what each kind of status says of a job that was begun
abbrev pub AnswersJob : StatusKind → Job → Status → Seen → Seen → Type 0
AnswersJob Finished job answer before after = Finishes job answer before after
AnswersJob Refused job answer before after = ⊥
AnswersJob Faulted job answer before after = FaultyPart job answer before after
AnswersJob Starved job answer before after = Front job before after
