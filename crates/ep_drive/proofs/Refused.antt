-- What a call answers that was refused, or whose job was begun.
use Rattle.std.proofs.Common.{◌≡◌, ℕ, List, inl, inr, Option, None, Some, MatchOption, Result, Ok, Err, IfOk, refl, sym, ap, ◌∙◌, subst}
use Rattle.ep_drive.specs.Calls.{Answers, AnswersAs, Begins, IsStoppedAs}
use Rattle.ep_drive.specs.Jobs.{AnswersJob, Finishes, FaultyPart, Front}
use Rattle.ep_drive.specs.Outcomes.{IsToldAs, whole, fault, nothing}
use Rattle.ep_drive.specs.Refusals.{Refusal, Usage, Missing, TooLong, InSource, status_of, source_status, report_of}
use Rattle.ep_drive.specs.Seen.{Seen, Untouched}
use Rattle.ep_drive.specs.Statuses.{StatusKind, Finished, Refused, Faulted, Starved, kind_of}
use Rattle.ep_drive.specs.Verdicts.{Job, Refuse, Begin, HasVerdict}
use Rattle.ep_drive.specs.declared.source.SourceRefusal.{SourceRefusal}
use Rattle.ep_drive.specs.declared.source.SourceRefusal.TheVariants as source
use Rattle.ep_drive.specs.declared.status.Status.{Status}
use Rattle.ep_drive.specs.declared.status.Status.TheVariants as status
use Rattle.ep_drive.proofs.Jobs.{part_rose}

-- a refusal has the status of one
source_kind : (why : SourceRefusal) → kind_of (source_status why) ≡ Refused
source_kind (source.NotBuilt line) = refl
source_kind (source.Token refusal) = refl
source_kind (source.Parse refusal) = refl
source_kind (source.Broken b) = refl
source_kind (source.TooLarge name nodes) = refl

refusal_kind : (refusal : Refusal) → kind_of (status_of refusal) ≡ Refused
refusal_kind Usage = refl
refusal_kind (Missing file) = refl
refusal_kind (TooLong file bytes) = refl
refusal_kind (InSource file why) = source_kind why

-- a refusal is the verdict, and nothing was done but its report
pub answers-refused : (answer : Status) (words : List (List ℕ)) (refusal : Refusal) (before after : Seen)
    → IsToldAs (status_of refusal) (Some (report_of refusal)) answer before.report after.report before.report_faults after.report_faults → HasVerdict words before.files (Refuse refusal) → Untouched before after → Answers answer words before after
answers-refused answer words refusal before after (whole is reported) v u =
    subst (λ k. AnswersAs k answer words before after) (sym (ap kind_of is ∙ refusal_kind refusal))
    (record { refusal = refusal; verdict = v; holds = (u, record { answers = is; reports = reported }) })
answers-refused answer words refusal before after (fault is reported rose) v u =
    subst (λ s. Answers s words before after) (sym is)
    (inr rose, inl (record { refusal = refusal; verdict = v; holds = record { untouched = u; reports = reported; rose = rose } }))
answers-refused answer words refusal before after (nothing is kept) v u = subst (λ s. Answers s words before after) (sym is) (inl (u, kept))

-- ---- a job was begun

module _ (words : List (List ℕ)) (job : Job) (before after : Seen) (v : HasVerdict words before.files (Begin job)) where
  begins : (P : Job → Type 0) → P job → Begins words before.files P
  begins P p = record { job = job; verdict = v; holds = p }

  faulted : (answer : Status) → kind_of answer ≡ Faulted → FaultyPart job answer before after → IsStoppedAs answer words before after
  faulted status.WriteFault e p = inr (begins (λ j. FaultyPart j status.WriteFault before after) p)
  faulted status.FileFault e p = inr (begins (λ j. FaultyPart j status.FileFault before after) p)
  faulted status.ReadFault e p = begins (λ j. FaultyPart j status.ReadFault before after) p
  faulted _ e p = absurd cc

  starved : (answer : Status) → kind_of answer ≡ Starved → Front job before after → IsStoppedAs answer words before after
  starved status.NoMemory e p = inr (begins (λ j. Front j before after) p)
  starved _ e p = absurd cc

  -- the job is the verdict
  pub answers-job : (answer : Status) → AnswersJob (kind_of answer) job answer before after → Answers answer words before after
  answers-job answer = of (kind_of answer) refl where
    of : (k : StatusKind) → kind_of answer ≡ k → AnswersJob k job answer before after → AnswersAs k answer words before after
    of Finished e p = begins (λ j. Finishes j answer before after) p
    of Refused e p = absurd p
    of Faulted e p = (part_rose job answer before after p, faulted answer e p)
    of Starved e p = starved answer e p

-- a fact that follows from another one
pub if_ok : {A E : Type 0} (r : Result A E) (P Q : A → Type 0) → IfOk r P → ((x : A) → P x → Q x) → IfOk r Q
if_ok (Ok x) P Q h f = f x h
if_ok (Err e) P Q h f = tt

-- what an option says once it is known which it is
pub match_some : {A : Type 0} (o : Option A) (P : Type 0) (Q : A → Type 0) (x : A) → MatchOption o P Q → o ≡ Some x → Q x
match_some o P Q x h e = subst (λ p. MatchOption p P Q) e h

pub match_none : {A : Type 0} (o : Option A) (P : Type 0) (Q : A → Type 0) → MatchOption o P Q → o ≡ None → P
match_none o P Q h e = subst (λ p. MatchOption p P Q) e h
