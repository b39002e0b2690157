-- What holds of every call of the top function, whatever the command.
use Rattle.std.specs.Prelude.{◌≡◌, ℕ, ◌<◌, ◌⊎◌, List, Option}
use Rattle.ep_outside.specs.Known.{Directory, Appends, AppendsFront}
use Rattle.ep_drive.specs.Jobs.{Finishes, FaultyPart, Front, Means, Settles}
use Rattle.ep_drive.specs.Refusals.{Refusal, status_of, report_of}
use Rattle.ep_drive.specs.Seen.{Seen, Untouched, Unread, Unreported, NoneFell}
use Rattle.ep_drive.specs.Statuses.{StatusKind, Finished, Refused, Faulted, Starved, kind_of, IsStop, Rose}
use Rattle.ep_drive.specs.Verdicts.{Job, Verdict, Refuse, Begin, HasVerdict, MustHaveVerdict}
use Rattle.ep_drive.specs.declared.status.Status.{Status}
use Rattle.ep_drive.specs.declared.status.Status.TheVariants as status

-- ---- the words of the clauses

-- words and files come to a refusal, and this holds of it
pub record Refuses (words : List (List ℕ)) (files : Option Directory) (P : Refusal → Type 0) : Type 0 where
  pub refusal : Refusal
  pub verdict : HasVerdict words files (Refuse refusal)
  pub holds : P refusal

-- words and files come to a job, and this holds of it
pub record Begins (words : List (List ℕ)) (files : Option Directory) (P : Job → Type 0) : Type 0 where
  pub job : Job
  pub verdict : HasVerdict words files (Begin job)
  pub holds : P job

-- this is the status of the refusal, and its whole line is reported
pub record IsRefusedSo (answer : Status) (before after : Seen) (refusal : Refusal) : Type 0 where
  pub answers : answer ≡ status_of refusal
  pub reports : Appends before.report after.report (report_of refusal)

-- nothing was done, and a front of the line of the refusal was reported before the report had a fault
pub record IsCutOff (before after : Seen) (refusal : Refusal) : Type 0 where
  pub untouched : Untouched before after
  pub reports : AppendsFront before.report after.report (report_of refusal)
  pub rose : before.report_faults < after.report_faults

-- nothing was done and nothing reported
abbrev pub IsNothing : Seen → Seen → Type 0
IsNothing before after = Untouched before after × Unreported before after

-- what may have been done with each fault and where memory is wanting: nothing before a verdict, or what the verdict
-- allows
abbrev pub IsStoppedAs : Status → List (List ℕ) → Seen → Seen → Type 0
IsStoppedAs status.WriteFault words before after =
    Refuses words before.files (λ refusal. IsCutOff before after refusal)
    ⊎ Begins words before.files (λ job. FaultyPart job status.WriteFault before after)
IsStoppedAs status.FileFault words before after =
    IsNothing before after ⊎ Begins words before.files (λ job. FaultyPart job status.FileFault before after)
IsStoppedAs status.ReadFault words before after =
    Begins words before.files (λ job. FaultyPart job status.ReadFault before after)
IsStoppedAs status.NoMemory words before after =
    IsNothing before after ⊎ Begins words before.files (λ job. Front job before after)
IsStoppedAs _ words before after = ⊥

-- the status is what the verdict asks for: that of the refusal, or one of a job that came to its end
abbrev pub ComesOf : Verdict → Status → Type 0
ComesOf (Refuse refusal) answer = answer ≡ status_of refusal
ComesOf (Begin job) answer = kind_of answer ≡ Finished

-- ---- the clauses

-- What holds of a call with these words, this answer, and the outside as it was seen before and after it.
pub record IsCall (answer : Status) (words : List (List ℕ)) (before after : Seen) : Type 0 where
  -- a refusal is the verdict on the words and the files; its status is answered and its whole line reported
  pub verdict : kind_of answer ≡ Refused
      → Refuses words before.files (λ refusal. IsRefusedSo answer before after refusal)
  -- where words and files must come to a verdict, the answer is what it asks for, or a fault or want of memory
  pub certain : (verdict : Verdict) → MustHaveVerdict words before.files verdict
      → ComesOf verdict answer ⊎ IsStop answer
  -- a job that came to its end, or to that of its budget, is the verdict; all of it was done within the budget and
  -- nothing else, and its status and report are those of where it stands
  pub finished : kind_of answer ≡ Finished → Begins words before.files (λ job. Finishes job answer before after)
  -- how it ended by the meaning: normally, by halt, by the error that is reported, for want of room, or not within the
  -- budget
  pub run : kind_of answer ≡ Finished → Begins words before.files (λ job. Means job answer before after)
  -- where the budget is enough for the job, the answer is the status of its end, or a fault or want of memory
  pub enough : (job : Job) (settled : Status) → MustHaveVerdict words before.files (Begin job) → Settles job settled
      → (answer ≡ settled) ⊎ IsStop answer
  -- with a fault or want of memory nothing was done, or a beginning of the job within its budget, and with want of
  -- memory whole events only
  pub part : IsStop answer → IsStoppedAs answer words before after
  -- a fault is answered only where its count rose, and no count fell
  pub faults : Rose answer before after × NoneFell before after
  -- with a refusal nothing was done but its report, and nothing is read so far
  pub untouched : (kind_of answer ≡ Refused → Untouched before after) × Unread before after
  -- with a fault or want of memory nothing was reported, unless the report had a fault
  pub quiet : IsStop answer
      → Unreported before after ⊎ ((answer ≡ status.WriteFault) × (before.report_faults < after.report_faults))

-- ---- the same, in one sentence for each kind of status

abbrev pub AnswersAs : StatusKind → Status → List (List ℕ) → Seen → Seen → Type 0
AnswersAs Refused answer words before after =
    Refuses words before.files (λ refusal. Untouched before after × IsRefusedSo answer before after refusal)
AnswersAs Finished answer words before after = Begins words before.files (λ job. Finishes job answer before after)
AnswersAs Faulted answer words before after = Rose answer before after × IsStoppedAs answer words before after
AnswersAs Starved answer words before after = IsStoppedAs answer words before after

-- what an answer says of a call
abbrev pub Answers : Status → List (List ℕ) → Seen → Seen → Type 0
Answers answer words before after = AnswersAs (kind_of answer) answer words before after
