-- What each job comes to says of the clauses of the top call: one row for each job.
use Rattle.std.proofs.Common.{◌≡◌, ℕ, ◌<◌, List, ◌⊎◌, inl, inr, refl}
use Rattle.ep_drive.specs.GoRuns.{GoPart, IsUnwritten, IsUntold, run_within}
use Rattle.ep_drive.specs.Jobs.{Finishes, FaultyPart, Front, Means, Settles}
use Rattle.ep_drive.specs.Seen.{Seen, Unread, Unreported}
use Rattle.ep_drive.specs.Statuses.{Rose}
use Rattle.ep_drive.specs.Verdicts.{Job, Go}
use Rattle.ep_drive.specs.declared.status.Status.{Status}
use Rattle.ep_drive.specs.declared.status.Status.TheVariants as status
use Rattle.ep_drive.proofs.Meant.{go_means, go_settled}

-- how a job that came to its end ended by the meaning
pub job_means : (job : Job) (answer : Status) (before after : Seen) → Finishes job answer before after → Means job answer before after
job_means (Go budget texts) answer before after x = go_means budget texts answer before after x

-- with budget enough its status is that of its end
pub job_settled : (job : Job) (answer settled : Status) (before after : Seen) → Finishes job answer before after → Settles job settled → answer ≡ settled
job_settled (Go budget texts) answer settled before after x has = go_settled budget texts answer settled before after x has

-- nothing was read
pub finish_unread : (job : Job) (answer : Status) (before after : Seen) → Finishes job answer before after → Unread before after
finish_unread (Go budget texts) answer before after x = let r = x.stands in r.unread

pub part_unread : (job : Job) (answer : Status) (before after : Seen) → FaultyPart job answer before after → Unread before after
part_unread (Go budget texts) status.WriteFault before after x = let b = x.stands.0 in b.unread
part_unread (Go budget texts) _ before after x = absurd x

pub front_unread : (job : Job) (before after : Seen) → Front job before after → Unread before after
front_unread (Go budget texts) before after x = let b = x.stands.0 in b.unread

-- what a fault leaves reported
abbrev pub IsQuiet : Status → Seen → Seen → Type 0
IsQuiet answer before after = Unreported before after ⊎ ((answer ≡ status.WriteFault) × (before.report_faults < after.report_faults))

pub part_quiet : (job : Job) (answer : Status) (before after : Seen) → FaultyPart job answer before after → IsQuiet answer before after
part_quiet (Go budget texts) status.WriteFault before after x = of x.stands.1 where
  of : IsUnwritten before after ⊎ IsUntold before after (run_within budget x.image) → IsQuiet status.WriteFault before after
  of (inl u) = inl u.0
  of (inr u) = inr (refl, u.rose)
part_quiet (Go budget texts) _ before after x = absurd x

pub front_quiet : (job : Job) (before after : Seen) → Front job before after → Unreported before after
front_quiet (Go budget texts) before after x = x.stands.1

-- a count rose with each fault of a job
rose_of : (before after : Seen) (budget : ℕ) (texts : List (List ℕ)) → GoPart budget texts status.WriteFault before after → Rose status.WriteFault before after
rose_of before after budget texts p = of p.stands.1 where
  of : IsUnwritten before after ⊎ IsUntold before after (run_within budget p.image) → Rose status.WriteFault before after
  of (inl x) = inl x.1
  of (inr x) = inr x.rose

pub part_rose : (job : Job) (answer : Status) (before after : Seen) → FaultyPart job answer before after → Rose answer before after
part_rose (Go budget texts) status.WriteFault before after p = rose_of before after budget texts p
part_rose (Go budget texts) _ before after p = absurd p
