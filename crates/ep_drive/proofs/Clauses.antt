-- The clauses of the top call, from what its answer says by its kind: once for all commands.
use Rattle.std.proofs.Common.{◌≡◌, ℕ, List, ◌⊎◌, inl, inr, refl, ap, ◌∙◌, subst}
use Rattle.ep_drive.specs.Calls.{Answers, AnswersAs, Refuses, Begins, IsRefusedSo, IsStoppedAs, ComesOf, IsCall}
use Rattle.ep_drive.specs.Jobs.{Finishes, Means, Settles}
use Rattle.ep_drive.specs.Refusals.{Refusal, Usage, Missing, TooLong, InSource, source_status, AreAlike}
use Rattle.ep_drive.specs.Seen.{Seen, Untouched, Unread, NoneFell}
use Rattle.ep_drive.specs.Statuses.{StatusKind, Finished, Refused, Faulted, Starved, kind_of, IsStop, Rose}
use Rattle.ep_drive.specs.Verdicts.{Job, Verdict, Refuse, Begin, IsSameVerdict, HasVerdict, MustHaveVerdict}
use Rattle.ep_drive.specs.declared.source.SourceRefusal.{SourceRefusal}
use Rattle.ep_drive.specs.declared.source.SourceRefusal.TheVariants as source
use Rattle.ep_drive.specs.declared.status.Status.{Status}
use Rattle.ep_drive.specs.declared.status.Status.TheVariants as status
use Rattle.ep_drive.proofs.Jobs.{IsQuiet, job_means, job_settled, finish_unread, part_unread, front_unread, part_quiet, front_quiet}
use Rattle.ep_drive.proofs.Verdicts.{one_verdict}

-- ---- verdicts that are the same

alike_status : (why other : SourceRefusal) → AreAlike why other → source_status why ≡ source_status other
alike_status (source.Broken b) (source.Broken c) e = refl
alike_status why other e = ap source_status e

-- they ask for the same
comes : (answer : Status) (v w : Verdict) → IsSameVerdict v w → ComesOf v answer → ComesOf w answer
comes answer (Refuse (InSource file why)) (Refuse (InSource other because)) e h = h ∙ alike_status why because e.1
comes answer v w e h = subst (λ x. ComesOf x answer) e h

-- and no refusal is a job
no_job : (r : Refusal) (job : Job) → IsSameVerdict (Refuse r) (Begin job) → ⊥
no_job Usage job e = cc
no_job (Missing file) job e = cc
no_job (TooLong file bytes) job e = cc
no_job (InSource file why) job e = cc

-- ---- by kinds

module _ (answer : Status) (words : List (List ℕ)) (before after : Seen) where
  of_kind : (k : StatusKind) → kind_of answer ≡ k → Answers answer words before after → AnswersAs k answer words before after
  of_kind k e a = subst (λ x. AnswersAs x answer words before after) e a

  refused : kind_of answer ≡ Refused → Answers answer words before after → Refuses words before.files (λ refusal. IsRefusedSo answer before after refusal)
  refused e a = let r = of_kind Refused e a in record { refusal = r.refusal; verdict = r.verdict; holds = r.holds.1 }

  untouched : kind_of answer ≡ Refused → Answers answer words before after → Untouched before after
  untouched e a = let r = of_kind Refused e a in r.holds.0

  finished : kind_of answer ≡ Finished → Answers answer words before after → Begins words before.files (λ job. Finishes job answer before after)
  finished e a = of_kind Finished e a

  run : kind_of answer ≡ Finished → Answers answer words before after → Begins words before.files (λ job. Means job answer before after)
  run e a = let b = of_kind Finished e a in record { job = b.job; verdict = b.verdict; holds = job_means b.job answer before after b.holds }

  stopped : IsStop answer → Answers answer words before after → IsStoppedAs answer words before after
  stopped (inl e) a = let s = of_kind Faulted e a in s.1
  stopped (inr e) a = of_kind Starved e a

  -- the kind of a status, where something is to be shown of each
  by_kind : {P : Type 0} → (kind_of answer ≡ Refused → P) → (kind_of answer ≡ Finished → P) → (IsStop answer → P) → P
  by_kind {P = P} f g h = of (kind_of answer) refl where
    of : (k : StatusKind) → kind_of answer ≡ k → P
    of Refused e = f e
    of Finished e = g e
    of Faulted e = h (inl e)
    of Starved e = h (inr e)

  -- what must be the verdict is the verdict
  same_verdict : (verdict other : Verdict) → MustHaveVerdict words before.files verdict → HasVerdict words before.files other → IsSameVerdict other verdict
  same_verdict verdict other must has = one_verdict words has.directory other verdict has.is (must has.directory has.told)

  certain : Answers answer words before after → (verdict : Verdict) → MustHaveVerdict words before.files verdict → ComesOf verdict answer ⊎ IsStop answer
  certain a verdict must =
      by_kind (λ e. let r = refused e a in let so = r.holds in inl (comes answer (Refuse r.refusal) verdict (same_verdict verdict (Refuse r.refusal) must r.verdict) so.answers))
      (λ e. let b = finished e a in inl (comes answer (Begin b.job) verdict (same_verdict verdict (Begin b.job) must b.verdict) e)) (λ s. inr s)

  enough : Answers answer words before after → (job : Job) (settled : Status) → MustHaveVerdict words before.files (Begin job) → Settles job settled → (answer ≡ settled) ⊎ IsStop answer
  enough a job settled must has =
      by_kind
      (λ e. let r = refused e a in absurd (no_job r.refusal job (same_verdict (Begin job) (Refuse r.refusal) must r.verdict)))
      (λ e.
      let b = finished e a in
      let same : Begin b.job ≡ Begin job = same_verdict (Begin job) (Begin b.job) must b.verdict in
      let jobs : b.job ≡ job = cc in
      inl (job_settled job answer settled before after (subst (λ j. Finishes j answer before after) jobs b.holds) has))
      (λ s. inr s)

  rose : Answers answer words before after → Rose answer before after
  rose a = of answer a where
    of : (s : Status) → Answers s words before after → Rose s before after
    of status.ReadFault x = x.0
    of status.WriteFault x = x.0
    of status.FileFault x = x.0
    of _ x = tt

stop_unread : (answer : Status) (words : List (List ℕ)) (before after : Seen) → IsStoppedAs answer words before after → Unread before after
stop_unread status.WriteFault words before after (inl r) = let x = r.holds in let u = x.untouched in u.unread
stop_unread status.WriteFault words before after (inr b) = part_unread b.job status.WriteFault before after b.holds
stop_unread status.FileFault words before after (inl n) = let u = n.0 in u.unread
stop_unread status.FileFault words before after (inr b) = part_unread b.job status.FileFault before after b.holds
stop_unread status.ReadFault words before after b = part_unread b.job status.ReadFault before after b.holds
stop_unread status.NoMemory words before after (inl n) = let u = n.0 in u.unread
stop_unread status.NoMemory words before after (inr b) = front_unread b.job before after b.holds
stop_unread _ words before after x = absurd x

stop_quiet : (answer : Status) (words : List (List ℕ)) (before after : Seen) → IsStoppedAs answer words before after → IsQuiet answer before after
stop_quiet status.WriteFault words before after (inl r) = let x = r.holds in inr (refl, x.rose)
stop_quiet status.WriteFault words before after (inr b) = part_quiet b.job status.WriteFault before after b.holds
stop_quiet status.FileFault words before after (inl n) = inl n.1
stop_quiet status.FileFault words before after (inr b) = part_quiet b.job status.FileFault before after b.holds
stop_quiet status.ReadFault words before after b = part_quiet b.job status.ReadFault before after b.holds
stop_quiet status.NoMemory words before after (inl n) = inl n.1
stop_quiet status.NoMemory words before after (inr b) = inl (front_quiet b.job before after b.holds)
stop_quiet _ words before after x = absurd x

pub is_call : (answer : Status) (words : List (List ℕ)) (before after : Seen) → Answers answer words before after → NoneFell before after → IsCall answer words before after
is_call answer words before after a none = record {
  verdict = λ e. refused answer words before after e a;
  certain = certain answer words before after a;
  finished = λ e. finished answer words before after e a;
  run = λ e. run answer words before after e a;
  enough = enough answer words before after a;
  part = λ s. stopped answer words before after s a;
  faults = (rose answer words before after a, none);
  untouched = (λ e. untouched answer words before after e a, unread);
  quiet = λ s. stop_quiet answer words before after (stopped answer words before after s a);
}
  where
    unread : Unread before after
    unread =
        by_kind answer words before after (λ e. let u = untouched answer words before after e a in u.unread) (λ e. let b = finished answer words before after e a in finish_unread b.job answer before after b.holds)
        (λ s. stop_unread answer words before after (stopped answer words before after s a))
