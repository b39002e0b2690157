-- What the run of an image answers that implements units.
use Rattle.std.proofs.Common.{◌≡◌, ◌≢◌, ℕ, List, [], ◌∷◌, ◌++◌, ◌⊎◌, inl, inr, Some, refl, sym, ap, ◌∙◌, subst}
use Rattle.ep_machine.specs.Answers.{IsEnd, RunsTo, UnlessStopped, OnWriteFaultEnd, OnNoMemoryEnd}
use Rattle.ep_machine.specs.Turns.{ended_at}
use Rattle.ep_machine.specs.declared.end.End.{End}
use Rattle.ep_machine.specs.declared.end.End.TheVariants as end
use Rattle.ep_machine.specs.declared.end.Ended.{Ended}
use Rattle.ep_machine.specs.declared.end.Ended.TheVariants as ended
use Rattle.ep_simulation.specs.Implements.{Implements}
use Rattle.ep_object.specs.Placing.{alone}
use Rattle.ep_object.specs.Runs.{Timed, timed, begin, run_to, trace_of}
use Rattle.ep_object.specs.State.{State, Going, Running, Stopped, Normal, Halt, Error, Broken}
use Rattle.ep_object.specs.declared.code.Image.{Image}
use Rattle.ep_object.specs.declared.code.Object.{Object}
use Rattle.ep_values.proofs.public.Done.{does_part-front, does_part-all, does_front-front, does_front-all}
use Rattle.ep_values.specs.Events.{Trace, Outside, Does, DoesFront, DoesPart}
use Rattle.ep_meaning.specs.Meaning.{meaning}
use Rattle.ep_meaning.specs.Units.{IsValid}
use Rattle.ep_typed.specs.declared.unit.Unit.{Unit as TypedUnit}
use Rattle.ep_gen_unit.proofs.public.Programs.{program_tells}
use Rattle.ep_gen_unit.specs.UnitCode.{IsUnitCode}
use Rattle.ep_drive.specs.Executions.{answer_status, answer_line, CameTo}
use Rattle.ep_drive.specs.GoRuns.{run_within, Ran, IsRun, IsBeginning, IsUnwritten, IsUntold, GoPart, GoFront}
use Rattle.ep_drive.specs.Jobs.{AnswersJob}
use Rattle.ep_drive.specs.Outcomes.{run_status, run_line, error_line, IsReported, IsReportedPart, IsToldAs, whole, fault, nothing}
use Rattle.ep_drive.specs.ProgramTexts.{Joins}
use Rattle.ep_drive.specs.Seen.{Seen, Unread, Unreported, outside_of}
use Rattle.ep_drive.specs.Statuses.{Finished, kind_of}
use Rattle.ep_drive.specs.Verdicts.{Go}
use Rattle.ep_drive.specs.declared.status.Status.{Status}
use Rattle.ep_drive.specs.declared.status.Status.TheVariants as status
use Rattle.ep_drive.proofs.Runs.{tells_within, front_within}

-- ---- the machine's run

-- the events of where a machine stands
pub stands-trace : (G : Image) (e : Ended) (s : State) → trace_of (ended_at G e s) ≡ s.trace
stands-trace G ended.Normal s = refl
stands-trace G ended.Halt s = refl
stands-trace G (ended.Error n unit line) s = refl
stands-trace G ended.Budget s = refl
stands-trace G (ended.Broken place) s = refl
stands-trace G ended.WriteFault s = refl
stands-trace G ended.NoMemory s = refl

module _ (G : Image) (budget : ℕ) (from to : Trace → Timed) (old new : Outside) (begins : from [] ≡ timed 0 (begin G)) (traces : (t : Trace) → trace_of (to t).going ≡ t) where
  here : run_within budget G ≡ (run_to G budget (from [])).going
  here = ap (λ x. (run_to G budget x).going) (sym begins)

  came-whole : (answer : End) → RunsTo G budget from to old new → ((t : Trace) → IsEnd answer (to t).going) → Does (trace_of (run_within budget G)) old new × IsEnd answer (run_within budget G)
  came-whole answer r is =
      let stands : run_within budget G ≡ (to r.events).going = here ∙ ap (λ x. x.going) (r.leads []) in
      let events : trace_of (run_within budget G) ≡ r.events = ap trace_of stands ∙ traces r.events in
      (subst (λ t. Does t old new) (sym events) r.does, subst (IsEnd answer) (sym stands) (is r.events))

  came-part : (Done : Trace → Outside → Outside → Type 0) → Done (trace_of (run_to G budget (from [])).going) old new → Done (trace_of (run_within budget G)) old new
  came-part Done p = subst (λ g. Done (trace_of g) old new) (sym here) p

  -- how far a run came
  came : (answer : End) → UnlessStopped answer (RunsTo G budget from to old new) → OnWriteFaultEnd answer (DoesPart (trace_of (run_to G budget (from [])).going) old new)
      → OnNoMemoryEnd answer (DoesFront (trace_of (run_to G budget (from [])).going) old new) → ((t : Trace) → IsEnd answer (to t).going) → CameTo answer (run_within budget G) old new
  came end.Normal r p w is = came-whole end.Normal r is
  came end.Halt r p w is = came-whole end.Halt r is
  came (end.Error number unit line) r p w is = came-whole (end.Error number unit line) r is
  came end.Budget r p w is = came-whole end.Budget r is
  came (end.Broken pc) r p w is = came-whole (end.Broken pc) r is
  came end.ReadFault r p w is = is []
  came end.WriteFault r p w is = came-part DoesPart p
  came end.FileFault r p w is = is []
  came end.NoMemory r p w is = came-part DoesFront w

-- the same where the image and the limit are known to be these
pub came_from : (G H : Image) (budget limit : ℕ) (from to : Trace → Timed) (old new : Outside) (answer : End) → H ≡ G → limit ≡ budget → from [] ≡ timed 0 (begin G) → ((t : Trace) → trace_of (to t).going ≡ t)
    → UnlessStopped answer (RunsTo H limit from to old new) → OnWriteFaultEnd answer (DoesPart (trace_of (run_to H limit (from [])).going) old new)
    → OnNoMemoryEnd answer (DoesFront (trace_of (run_to H limit (from [])).going) old new) → ((t : Trace) → IsEnd answer (to t).going) → CameTo answer (run_within budget G) old new
came_from G H budget limit from to old new answer image ticks begins traces r p w is =
    came G budget from to old new begins traces answer
    (here (λ K n. UnlessStopped answer (RunsTo K n from to old new)) r)
    (here (λ K n. OnWriteFaultEnd answer (DoesPart (trace_of (run_to K n (from [])).going) old new)) p)
    (here (λ K n. OnNoMemoryEnd answer (DoesFront (trace_of (run_to K n (from [])).going) old new)) w) is
  where
    here : (P : Image → ℕ → Type 0) → P H limit → P G budget
    here P x = subst (λ K. P K budget) image (subst (λ n. P H n) ticks x)

-- the image of a program's object implements the program
pub implements : (u : TypedUnit) (o : Object) (G : Image) → IsUnitCode u o → IsValid [] u → G ≡ alone o → Implements G (u ∷ [])
implements u o G code valid is = subst (λ H. Implements H (u ∷ [])) (sym is) (program_tells u o code valid)

-- a machine that has had no fault before
pub fault_of : (answer : End) (before : Ended) (P : Type 0) → before ≢ ended.WriteFault → OnWriteFaultEnd answer ((before ≡ ended.WriteFault) ⊎ P) → OnWriteFaultEnd answer P
fault_of end.WriteFault before P first (inl e) = absurd (first e)
fault_of end.WriteFault before P first (inr p) = p
fault_of end.Normal before P first h = tt
fault_of end.Halt before P first h = tt
fault_of (end.Error number unit line) before P first h = tt
fault_of end.Budget before P first h = tt
fault_of (end.Broken pc) before P first h = tt
fault_of end.ReadFault before P first h = tt
fault_of end.FileFault before P first h = tt
fault_of end.NoMemory before P first h = tt

-- ---- what is told of it

-- the line and the status are those of where the run stands
pub record AreOf (answer : End) (going : Going) : Type 0 where
  pub status_is : answer_status answer ≡ run_status going
  pub line_is : answer_line answer ≡ run_line going

end_told : (answer : End) (going : Going) (old new : Outside) → (answer ≡ end.WriteFault → ⊥) → (answer ≡ end.NoMemory → ⊥) → CameTo answer going old new → AreOf answer going
end_told end.Normal (Stopped Normal trace) old new a b c = record { status_is = refl; line_is = refl }
end_told end.Normal (Stopped Halt trace) old new a b c = absurd c.1
end_told end.Normal (Stopped (Error n u l) trace) old new a b c = absurd c.1
end_told end.Normal (Stopped (Broken p) trace) old new a b c = absurd c.1
end_told end.Normal (Running wait s) old new a b c = absurd c.1
end_told end.Halt (Stopped Halt trace) old new a b c = record { status_is = refl; line_is = refl }
end_told end.Halt (Stopped Normal trace) old new a b c = absurd c.1
end_told end.Halt (Stopped (Error n u l) trace) old new a b c = absurd c.1
end_told end.Halt (Stopped (Broken p) trace) old new a b c = absurd c.1
end_told end.Halt (Running wait s) old new a b c = absurd c.1
end_told (end.Error number unit line) (Stopped (Error n u l) trace) old new a b c =
    let is = c.1 in
    record { status_is = refl; line_is = λ i. Some (error_line (is.0 i) (is.1 i) (is.2 i)) }
end_told (end.Error number unit line) (Stopped Normal trace) old new a b c = absurd c.1
end_told (end.Error number unit line) (Stopped Halt trace) old new a b c = absurd c.1
end_told (end.Error number unit line) (Stopped (Broken p) trace) old new a b c = absurd c.1
end_told (end.Error number unit line) (Running wait s) old new a b c = absurd c.1
end_told end.Budget (Running wait s) old new a b c = record { status_is = refl; line_is = refl }
end_told end.Budget (Stopped e trace) old new a b c = absurd c.1
end_told (end.Broken pc) (Stopped (Broken p) trace) old new a b c =
    let same : pc ≡ p = c.1 in
    record { status_is = refl; line_is = ap (λ (n : ℕ). run_line (Stopped (Broken n) trace)) same }
end_told (end.Broken pc) (Stopped Normal trace) old new a b c = absurd c.1
end_told (end.Broken pc) (Stopped Halt trace) old new a b c = absurd c.1
end_told (end.Broken pc) (Stopped (Error n u l) trace) old new a b c = absurd c.1
end_told (end.Broken pc) (Running wait s) old new a b c = absurd c.1
end_told end.ReadFault going old new a b c = absurd c
end_told end.FileFault going old new a b c = absurd c
end_told end.WriteFault going old new a b c = absurd (a refl)
end_told end.NoMemory going old new a b c = absurd (b refl)

came-does : (answer : End) (going : Going) (old new : Outside) → (answer ≡ end.WriteFault → ⊥) → (answer ≡ end.NoMemory → ⊥) → CameTo answer going old new → Does (trace_of going) old new
came-does end.Normal going old new a b c = c.0
came-does end.Halt going old new a b c = c.0
came-does (end.Error number unit line) going old new a b c = c.0
came-does end.Budget going old new a b c = c.0
came-does (end.Broken pc) going old new a b c = c.0
came-does end.ReadFault going old new a b c = absurd c
came-does end.FileFault going old new a b c = absurd c
came-does end.WriteFault going old new a b c = absurd (a refl)
came-does end.NoMemory going old new a b c = absurd (b refl)

-- the status of a run is one of a job that has ended
run_kind : (going : Going) → kind_of (run_status going) ≡ Finished
run_kind (Running wait s) = refl
run_kind (Stopped Normal trace) = refl
run_kind (Stopped Halt trace) = refl
run_kind (Stopped (Error number unit line) trace) = refl
run_kind (Stopped (Broken place) trace) = refl

-- ---- the run of an image that implements units

module _ (G : Image) (budget : ℕ) (texts : List (List ℕ)) (units : List TypedUnit) (joins : Joins texts units) (h : Implements G units) (before after : Seen) (unread : Unread before after) where
  -- what is done of the run is done of the meaning
  beginning : (Done : Trace → Outside → Outside → Type 0) → ((a b : Trace) → Done a (outside_of before) (outside_of after) → Done (a ++ b) (outside_of before) (outside_of after))
      → Done (trace_of (run_within budget G)) (outside_of before) (outside_of after) → IsBeginning Done budget before after units (run_within budget G)
  beginning Done more p =
      let front = front_within (meaning units) budget (run_within budget G) (tells_within G units h budget) in
      let begins = front.begins in
      record { run = p; steps = front.steps; few = front.few; meant = subst (λ t. Done t (outside_of before) (outside_of after)) (sym begins.is) (more (trace_of (run_within budget G)) begins.rest p); unread = unread }

  ran : (P : List TypedUnit → Going → Type 0) → P units (run_within budget G) → Ran budget texts P
  ran P stands = record { units = units; joins = joins; image = G; implements = h; stands = stands }

  -- a write had a fault, and nothing was reported
  pub run-part : DoesPart (trace_of (run_within budget G)) (outside_of before) (outside_of after) → IsUnwritten before after → GoPart budget texts status.WriteFault before after
  run-part p unwritten =
      ran (λ us g. IsBeginning DoesPart budget before after us g × (IsUnwritten before after ⊎ IsUntold before after g))
      (beginning DoesPart (λ a b. does_part-front a b (outside_of before) (outside_of after)) p, inl unwritten)

  -- memory was wanting, and nothing was reported
  pub run-front : DoesFront (trace_of (run_within budget G)) (outside_of before) (outside_of after) → Unreported before after → GoFront budget texts before after
  run-front p quiet =
      ran (λ us g. IsBeginning DoesFront budget before after us g × Unreported before after)
      (beginning DoesFront (λ a b. does_front-front a b (outside_of before) (outside_of after)) p, quiet)

  -- the end of a run is told
  pub answers-told : (answer : End) (answered : Status) → (answer ≡ end.WriteFault → ⊥) → (answer ≡ end.NoMemory → ⊥) → CameTo answer (run_within budget G) (outside_of before) (outside_of after)
      → IsToldAs (answer_status answer) (answer_line answer) answered before.report after.report before.report_faults after.report_faults → AnswersJob (kind_of answered) (Go budget texts) answered before after
  answers-told answer answered a b c (whole is reported) =
      let are = end_told answer (run_within budget G) (outside_of before) (outside_of after) a b c in
      let same : answered ≡ run_status (run_within budget G) = is ∙ are.status_is in
      let finished : Finished ≡ kind_of answered = sym (ap kind_of same ∙ run_kind (run_within budget G)) in
      subst (λ k. AnswersJob k (Go budget texts) answered before after) finished
      (ran (λ us g. IsRun answered before after g) (record {
        does = came-does answer (run_within budget G) (outside_of before) (outside_of after) a b c;
        unread = unread;
        answers = same;
        reports = subst (λ line. IsReported line before.report after.report) are.line_is reported;
      }))
  answers-told answer answered a b c (fault is reported rose) =
      let are = end_told answer (run_within budget G) (outside_of before) (outside_of after) a b c in
      let done = came-does answer (run_within budget G) (outside_of before) (outside_of after) a b c in
      let told : IsUntold before after (run_within budget G) = record { does = done; reports = subst (λ line. IsReportedPart line before.report after.report) are.line_is reported; rose = rose } in
      subst (λ s. AnswersJob (kind_of s) (Go budget texts) s before after) (sym is)
      (ran (λ us g. IsBeginning DoesPart budget before after us g × (IsUnwritten before after ⊎ IsUntold before after g))
      (beginning DoesPart (λ t u. does_part-front t u (outside_of before) (outside_of after)) (does_part-all (trace_of (run_within budget G)) (outside_of before) (outside_of after) done), inr told))
  answers-told answer answered a b c (nothing is kept) =
      let done = came-does answer (run_within budget G) (outside_of before) (outside_of after) a b c in
      subst (λ s. AnswersJob (kind_of s) (Go budget texts) s before after) (sym is) (run-front (does_front-all (trace_of (run_within budget G)) (outside_of before) (outside_of after) done) kept)
