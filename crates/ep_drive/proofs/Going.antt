-- What `go` answers of a text that was loaded.
use Rattle.std.proofs.Common.{◌≡◌, ℕ, ◌<◌, ◌^◌, List, [], ◌∷◌, ◌⊎◌, inl, inr, Option, Bor, refl, arith}
use Rattle.std.proofs.KnownBytes.{Keeps-refl}
use Rattle.ep_object.specs.State.{Going}
use Rattle.ep_outside.specs.Known.{Directory, KeepsFiles}
use Rattle.ep_values.proofs.public.Done.{does-nil, does-trans, does_part-after, does_front-after}
use Rattle.ep_values.specs.Events.{Trace, Outside, Does, DoesFront, DoesPart}
use Rattle.ep_typed.specs.declared.unit.Unit.{Unit as TypedUnit}
use Rattle.ep_drive.specs.Commands.{Go, WordsOf, IsWordRow, option, joined, named, IsBudget}
use Rattle.ep_drive.specs.GoRuns.{Ran, IsRun, IsBeginning, IsUnwritten, IsUntold, GoPart}
use Rattle.ep_drive.specs.Jobs.{AnswersJob}
use Rattle.ep_drive.specs.Seen.{Seen, Unread, Unreported, outside_of, seen}
use Rattle.ep_drive.specs.Statuses.{StatusKind, Finished, Refused, Faulted, Starved}
use Rattle.ep_drive.specs.Verdicts as job
use Rattle.ep_drive.specs.declared.words.Command.{Command as ReadCommand}
use Rattle.ep_drive.specs.declared.words.Command.TheVariants as read
use Rattle.ep_drive.specs.declared.status.Status.{Status}
use Rattle.ep_drive.specs.declared.status.Status.TheVariants as status

-- ---- the command

-- the parts of a command that was read
pub record IsGo (command : ReadCommand) : Type 0 where
  pub budget : ℕ
  pub source : Bor (List ℕ)
  pub is : command ≡ read.Go budget source

-- so far there is one
pub is_go : (command : ReadCommand) → IsGo command
is_go (read.Go budget source) = record { budget = budget; source = source; is = refl }

-- ---- its budget is small

option_small : {words sources : List (List ℕ)} {n : ℕ} {more : List ℕ} → IsWordRow words (n ∷ more) sources → n < 10 ^ 10
option_small (option w is row) = is.greatest
option_small (joined text w is row) = is.greatest
option_small (named w row) = option_small row

small : (row : List (List ℕ)) (ticks : List ℕ) (sources : List (List ℕ)) (budget : ℕ) → IsWordRow row ticks sources → IsBudget ticks budget → budget < 2 ^ 61
small row [] sources budget is h = omega arith
small row (n ∷ []) sources budget is h = let s = option_small is in omega arith
small row (n ∷ m ∷ more) sources budget is h = absurd h

pub budget_small : (words : List (List ℕ)) (budget : ℕ) (sources : List (List ℕ)) → WordsOf words (Go budget sources) → budget < 2 ^ 61
budget_small words budget sources is = small is.row is.ticks sources budget is.row_is is.budget_is

-- ---- what was done after a load was done since before it

module _ (output : Option (List ℕ)) (old files : Option Directory) (kept : KeepsFiles old files) (left report : Option (List ℕ)) (o n m i r : ℕ) (after : Seen) where
  -- what is seen before the load, and after it
  abbrev before : Seen
  before = seen output old left report o n i r

  abbrev here : Seen
  here = seen output files left report o m i r

  loaded : Does [] (outside_of before) (outside_of here)
  loaded = does-nil _ _ (record { output = Keeps-refl output; files = kept })

  since : (t : Trace) → Does t (outside_of here) (outside_of after) → Does t (outside_of before) (outside_of after)
  since t d = does-trans [] t _ _ _ loaded d

  part_since : (t : Trace) → DoesPart t (outside_of here) (outside_of after) → DoesPart t (outside_of before) (outside_of after)
  part_since t d = does_part-after [] t _ _ _ loaded d

  front_since : (t : Trace) → DoesFront t (outside_of here) (outside_of after) → DoesFront t (outside_of before) (outside_of after)
  front_since t d = does_front-after [] t _ _ _ loaded d

  unread_since : Unread here after → Unread before after
  unread_since u = record { left = u.left; faults = u.faults }

  ran_since : {budget : ℕ} {texts : List (List ℕ)} (P Q : List TypedUnit → Going → Type 0) → ((units : List TypedUnit) (going : Going) → P units going → Q units going) → Ran budget texts P → Ran budget texts Q
  ran_since P Q f x = record { units = x.units; joins = x.joins; image = x.image; implements = x.implements; stands = f x.units _ x.stands }

  run_since : (answer : Status) (going : Going) → IsRun answer here after going → IsRun answer before after going
  run_since answer going x = record { does = since _ x.does; unread = unread_since x.unread; answers = x.answers; reports = x.reports }

  beginning_since : (Done : Trace → Outside → Outside → Type 0)
      → ((t : Trace) → Done t (outside_of here) (outside_of after) → Done t (outside_of before) (outside_of after))
      → (budget : ℕ) (units : List TypedUnit) (going : Going) → IsBeginning Done budget here after units going → IsBeginning Done budget before after units going
  beginning_since Done f budget units going x = record { run = f _ x.run; steps = x.steps; few = x.few; meant = f _ x.meant; unread = unread_since x.unread }

  untold_since : (going : Going) → IsUntold here after going → IsUntold before after going
  untold_since going x = record { does = since _ x.does; reports = x.reports; rose = x.rose }

  stopped_since : (going : Going) → IsUnwritten here after ⊎ IsUntold here after going
      → IsUnwritten before after ⊎ IsUntold before after going
  stopped_since going (inl x) = inl x
  stopped_since going (inr x) = inr (untold_since going x)

  go_part-since : (budget : ℕ) (texts : List (List ℕ)) (answer : Status) → GoPart budget texts answer here after → GoPart budget texts answer before after
  go_part-since budget texts status.WriteFault p =
      ran_since (λ us g. IsBeginning DoesPart budget here after us g × (IsUnwritten here after ⊎ IsUntold here after g))
      (λ us g. IsBeginning DoesPart budget before after us g × (IsUnwritten before after ⊎ IsUntold before after g))
      (λ us g x. (beginning_since DoesPart part_since budget us g x.0, stopped_since g x.1)) p
  go_part-since budget texts _ p = absurd p

  pub job-since : (k : StatusKind) (budget : ℕ) (texts : List (List ℕ)) (answer : Status) → AnswersJob k (job.Go budget texts) answer here after → AnswersJob k (job.Go budget texts) answer before after
  job-since Finished budget texts answer x =
      ran_since (λ us g. IsRun answer here after g) (λ us g. IsRun answer before after g) (λ us g. run_since answer g) x
  job-since Refused budget texts answer x = absurd x
  job-since Faulted budget texts answer x = go_part-since budget texts answer x
  job-since Starved budget texts answer x =
      ran_since (λ us g. IsBeginning DoesFront budget here after us g × Unreported here after)
      (λ us g. IsBeginning DoesFront budget before after us g × Unreported before after)
      (λ us g y. (beginning_since DoesFront front_since budget us g y.0, y.1)) x
