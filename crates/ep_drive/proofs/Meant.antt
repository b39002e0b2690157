-- What a run of an image within its budget says by the meaning of the units that the image implements.
use Rattle.std.proofs.Common.{◌≡◌, length, ℕ, ◌+◌, ◌-◌, ◌*◌, ◌≤◌, zero, suc, false, if◌then◌else◌, slice_get, None, IsTrue, List, [], ◌∷◌, ◌++◌, ◌⊎◌, inl, inr, refl, sym, ap, ◌∙◌, subst, arith, Bool, true, map, Option, Some}
use Rattle.std.specs.Option.{option_map}
use Rattle.std.specs.Str.{bytes_eq}
use Rattle.ep_simulation.specs.Follows.{end_of}
use Rattle.ep_object.specs.State.{Going, Running, Stopped, Normal, Halt, Error, Broken}
use Rattle.ep_simulation.specs.Tells.{Tells}
use Rattle.ep_meaning.proofs.public.Lasting.{meanings_last}
use Rattle.ep_typed.specs.Auxiliaries.{block_auxiliaries}
use Rattle.ep_meaning.specs.Calls.{Argument, Handler, activation_words, in_call}
use Rattle.ep_typed.specs.Trees as tree
use Rattle.ep_typed.specs.Trees.{Callee}
use Rattle.ep_values.specs.Events.{Trace, Does}
use Rattle.ep_meaning.specs.Laws.{IsLonger}
use Rattle.ep_meaning.specs.Meaning.{activation, takes_all, make_all_own, results_given, routine_does, type_does, handler_of, meaning, make_all, exec, weights_of}
use Rattle.ep_values.specs.Printing.{Result}
use Rattle.ep_typed.specs.Routines.{result_variable}
use Rattle.ep_meaning.specs.Steps.{Outcome, Gives, Ends, Cut, Computation, State, state_of, cut, stop, go_on, bind, spend, first_state}
use Rattle.ep_meaning.specs.Steps as meant
use Rattle.ep_typed.specs.declared.unit.Unit.{Unit as TypedUnit}
use Rattle.ep_typed.specs.declared.unit.UnitRoutine.{UnitRoutine}
use Rattle.ep_check_unit.specs.Blocks.{RoutineForm, routine_form}
use Rattle.ep_drive.specs.GoRuns.{run_within, IsRun, GoFinishes, EndsSo, MeansSo, GoMeans, GoSettles}
use Rattle.ep_drive.specs.Outcomes.{run_status, end_status}
use Rattle.ep_drive.specs.ProgramTexts.{IsProgramText, Joins}
use Rattle.ep_drive.specs.Seen.{Seen, outside_of}
use Rattle.ep_drive.specs.declared.status.Status.{Status}
use Rattle.ep_drive.proofs.Runs.{tells_within, not_broken}
use Rattle.ep_drive.proofs.Sources.{AreAlike, one_program}

-- ---- the end of a run is that of the meaning

normal_end : (e : meant.End) → Normal ≡ end_of e → e ≡ meant.Normal
normal_end meant.Normal h = refl
normal_end meant.Halted h = absurd cc
normal_end (meant.Error n u l) h = absurd cc

halt_end : (e : meant.End) → Halt ≡ end_of e → e ≡ meant.Halted
halt_end meant.Normal h = absurd cc
halt_end meant.Halted h = refl
halt_end (meant.Error n u l) h = absurd cc

error_end : (n : ℕ) (u : List ℕ) (l : ℕ) (e : meant.End) → Error n u l ≡ end_of e → e ≡ meant.Error n u l
error_end n u l meant.Normal h = absurd cc
error_end n u l meant.Halted h = absurd cc
error_end n u l (meant.Error m v k) h =
    let numbers : m ≡ n = cc in
    let units : v ≡ u = cc in
    let lines : k ≡ l = cc in
    λ i. meant.Error (numbers i) (units i) (lines i)

module _ (units : List TypedUnit) (budget : ℕ) (before after : Seen) where
  ends_so : (m left : ℕ) (e end : meant.End) (state : State) (trace : Trace) → meaning units m ≡ Ends left e state → e ≡ end → trace ≡ state.trace → Does trace (outside_of before) (outside_of after) → EndsSo units end before after
  ends_so m left e end state trace is same events does = record {
    steps = m;
    left = left;
    state = state;
    ends = is ∙ ap (λ x. Ends left x state) same;
    does = subst (λ t. Does t (outside_of before) (outside_of after)) events does;
  }

  -- where a run stands says this of the meaning
  going_means : (answer : Status) (g : Going) → Tells (meaning units) budget g → IsRun answer before after g → MeansSo (run_status g) budget units before after
  going_means answer (Running wait s) t r = record { trace = s.trace; means = t; does = r.does; reports = r.reports }
  going_means answer (Stopped Normal trace) (inl t) r = (ends_so t.steps t.left t.its_end meant.Normal t.state trace t.is (normal_end t.its_end t.same_end) t.same_trace r.does, r.reports)
  going_means answer (Stopped Normal trace) (inr t) r = let is : Normal ≡ Error t.number t.unit t.line = t.is in absurd cc
  going_means answer (Stopped Halt trace) (inl t) r = (ends_so t.steps t.left t.its_end meant.Halted t.state trace t.is (halt_end t.its_end t.same_end) t.same_trace r.does, r.reports)
  going_means answer (Stopped Halt trace) (inr t) r = let is : Halt ≡ Error t.number t.unit t.line = t.is in absurd cc
  going_means answer (Stopped (Error n u l) trace) (inl t) r = record {
    number = n;
    in_unit = u;
    line = l;
    means = inl (ends_so t.steps t.left t.its_end (meant.Error n u l) t.state trace t.is (error_end n u l t.its_end t.same_end) t.same_trace r.does);
    reports = r.reports;
  }
  going_means answer (Stopped (Error n u l) trace) (inr t) r = record { number = n; in_unit = u; line = l; means = inr (record { trace = trace; means = t; does = r.does }); reports = r.reports }
  going_means answer (Stopped (Broken place) trace) t r = absurd (not_broken (meaning units) budget place trace t)

pub go_means : (budget : ℕ) (texts : List (List ℕ)) (answer : Status) (before after : Seen) → GoFinishes budget texts answer before after → GoMeans budget texts answer before after
go_means budget texts answer before after x =
    let r = x.stands in
    record {
      units = x.units;
      joins = x.joins;
      means = subst (λ s. MeansSo s budget x.units before after) (sym r.answers) (going_means x.units budget before after answer (run_within budget x.image) (tells_within x.image x.units x.implements budget) r);
    }

-- ---- a meaning ends in one way

-- an end and its events
record IsSameEnd (e f : meant.End) (s t : State) : Type 0 where
  ends : e ≡ f
  states : s ≡ t

parted : {A : Type 0} (l m : ℕ) (e f : meant.End) (s t : State) → ◌≡◌ {A = Outcome A} (Ends l e s) (Ends m f t) → IsSameEnd e f s t
parted l m e f s t h = record { ends = cc; states = cc }

cases_le : (a b : ℕ) → ((k : ℕ) × (b ≡ a + k)) ⊎ ((k : ℕ) × (a ≡ b + k))
cases_le a b = elim (le_cases a b) [ inl h ↦ inl (b - a, omega arith) | inr h ↦ inr (a - b, omega arith) ]
  where
    le_cases : (a b : ℕ) → (a ≤ b) ⊎ (b ≤ a)
    le_cases zero b = inl (omega arith)
    le_cases (suc a) zero = inr (omega arith)
    le_cases (suc a) (suc b) = elim (le_cases a b) [ inl x ↦ inl (omega arith) | inr x ↦ inr (omega arith) ]

-- with more steps it ends so too
longer_ends : (units : List TypedUnit) (m k l : ℕ) (e : meant.End) (s : State) → meaning units m ≡ Ends l e s → meaning units (m + k) ≡ Ends (l + k) e s
longer_ends units m k l e s h = subst (λ o. IsLonger k o (meaning units (m + k))) h (meanings_last units m k)

one_end : (units : List TypedUnit) (m n l j : ℕ) (e f : meant.End) (s t : State) → meaning units m ≡ Ends l e s → meaning units n ≡ Ends j f t → IsSameEnd e f s t
one_end units m n l j e f s t h i =
    elim (cases_le m n) [
      | inl d ↦
          let more : meaning units n ≡ Ends (l + d.0) e s = ap (meaning units) d.1 ∙ longer_ends units m d.0 l e s h in
          parted {A = Unit {0}} (l + d.0) j e f s t (sym more ∙ i)
      | inr d ↦
          let more : meaning units m ≡ Ends (j + d.0) f t = ap (meaning units) d.1 ∙ longer_ends units n d.0 j f t i in
          parted {A = Unit {0}} l (j + d.0) e f s t (sym h ∙ more)
    ]

-- room that was lost within some number of steps is lost at the end
lost_at_end : (units : List TypedUnit) (m n l : ℕ) (e : meant.End) (s : State) → meaning units m ≡ Ends l e s → IsTrue (state_of (meaning units n)).resources.lost → IsTrue s.resources.lost
lost_at_end units m n l e s h lost =
    elim (cases_le m n) [
      | inl d ↦
          let more : meaning units n ≡ Ends (l + d.0) e s = ap (meaning units) d.1 ∙ longer_ends units m d.0 l e s h in
          subst (λ o. IsTrue (state_of o).resources.lost) more lost
      | inr d ↦
          let there : meaning units (n + d.0) ≡ Ends l e s = ap (meaning units) (sym d.1) ∙ h in
          go d.0 (meaning units n) (meaning units (n + d.0)) (meanings_last units n d.0) there lost
    ]
  where
    go : (k : ℕ) (o r : Outcome (Unit {0})) → IsLonger k o r → r ≡ Ends l e s → IsTrue (state_of o).resources.lost → IsTrue s.resources.lost
    go k (Gives left a t) r is there x = let no : ◌≡◌ {A = Outcome (Unit {0})} (Ends l e s) (Gives (left + k) a t) = sym there ∙ is in absurd cc
    go k (Ends left f t) r is there x =
        let same = parted {A = Unit {0}} (left + k) l f e t s (sym is ∙ there) in
        subst (λ (u : State). IsTrue u.resources.lost) same.states x
    go k (Cut t) r is there x =
        let g = is.lost x in
        subst (λ o. IsTrue (state_of o).resources.lost) there g

not_lost : (s : State) → IsTrue s.resources.lost → s.resources.lost ≡ false → ⊥
not_lost s h i = cc

-- a run with enough ticks has ended as the meaning does
settled_status : (units : List TypedUnit) (ticks m l : ℕ) (e : meant.End) (s : State) (g : Going) → Tells (meaning units) ticks g → meaning units m ≡ Ends l e s → s.resources.lost ≡ false → 64 * (m + 1) ≤ ticks → run_status g ≡ end_status (end_of e)
settled_status units ticks m l e s (Running wait k) t h room few =
    let goes = t.all m (omega arith) in
    let no : ◌≡◌ {A = Outcome (Unit {0})} (Ends l e s) (Cut goes.state) = sym h ∙ goes.is in
    absurd cc
settled_status units ticks m l e s (Stopped end trace) (inl t) h room few =
    let same = one_end units t.steps m t.left l t.its_end e t.state s t.is h in
    ap end_status t.same_end ∙ ap (λ x. end_status (end_of x)) same.ends
settled_status units ticks m l e s (Stopped end trace) (inr t) h room few = absurd (not_lost s (lost_at_end units m t.steps l e s h t.lost) room)

-- ---- texts and units

-- what a routine does, by its form
abbrev form_does : Handler → ℕ → List ℕ → ℕ → Callee → Option RoutineForm → List Argument → Computation (List Result)
form_does call g from line callee None xs = cut
form_does call g from line callee (Some f) xs =
    in_call activation_words callee.levels (activation f.name from line)
    (spend (suc (weights_of xs)) (bind (takes_all call g callee.unit f.line 0 f.formals xs)
    (λ _. bind (make_all_own call g callee.unit (length f.formals) (result_variable f.name f.line f.result ++ (f.variables ++ block_auxiliaries f.block)))
    (λ _. bind (exec call g callee.unit f.block) (λ _. results_given callee.unit f.line (length f.formals) f.result)))))

does_form : (call : Handler) (g : ℕ) (from : List ℕ) (line : ℕ) (callee : Callee) (o : Option UnitRoutine) (xs : List Argument)
    → routine_does call g from line callee o xs ≡ form_does call g from line callee (option_map routine_form o) xs
does_form call g from line callee None xs = refl
does_form call g from line callee (Some r) xs = refl

-- the form of this number
form_at : (rs : List UnitRoutine) (number : ℕ) → option_map routine_form (slice_get rs number) ≡ slice_get (map routine_form rs) number
form_at [] number = refl
form_at (r ∷ rs) zero = refl
form_at (r ∷ rs) (suc n) = form_at rs n

does_if : (b : Bool) (call : Handler) (g : ℕ) (from : List ℕ) (line : ℕ) (callee : Callee) (number : ℕ) (rs : List UnitRoutine) (xs : List Argument)
    → routine_does call g from line callee (if b then slice_get rs number else None) xs ≡ form_does call g from line callee (if b then slice_get (map routine_form rs) number else None) xs
does_if true call g from line callee number rs xs = does_form call g from line callee (slice_get rs number) xs ∙ ap (λ o. form_does call g from line callee o xs) (form_at rs number)
does_if false call g from line callee number rs xs = refl

-- a call of two units alike, where the calls in it are
call_alike : (u v : TypedUnit) (d : ℕ) → handler_of (u ∷ []) d ≡ handler_of (v ∷ []) d → u.name ≡ v.name → map routine_form u.routines ≡ map routine_form v.routines → (from : List ℕ) (line : ℕ) (callee : Callee) (xs : List Argument)
    → routine_does (handler_of (u ∷ []) d) d from line callee (if bytes_eq u.name callee.unit then slice_get u.routines callee.number else None) xs ≡ routine_does (handler_of (v ∷ []) d) d from line callee (if bytes_eq v.name callee.unit then slice_get v.routines callee.number else None) xs
call_alike u v d calls a r from line callee xs =
    let inner : form_does (handler_of (u ∷ []) d) d from line callee (if bytes_eq u.name callee.unit then slice_get (map routine_form u.routines) callee.number else None) xs ≡ form_does (handler_of (v ∷ []) d) d from line callee (if bytes_eq v.name callee.unit then slice_get (map routine_form v.routines) callee.number else None) xs =
    λ j. form_does (calls j) d from line callee (if bytes_eq (a j) callee.unit then slice_get (r j) callee.number else None) xs in
    does_if (bytes_eq u.name callee.unit) (handler_of (u ∷ []) d) d from line callee callee.number u.routines xs ∙ (inner ∙ sym (does_if (bytes_eq v.name callee.unit) (handler_of (v ∷ []) d) d from line callee callee.number v.routines xs))

-- the elaboration of a type of them
type_alike : (u v : TypedUnit) (d : ℕ) → handler_of (u ∷ []) d ≡ handler_of (v ∷ []) d → u.name ≡ v.name → u.types ≡ v.types → (from : List ℕ) (line index : ℕ)
    → type_does (handler_of (u ∷ []) d) d from line (if bytes_eq u.name from then slice_get u.types index else None) ≡ type_does (handler_of (v ∷ []) d) d from line (if bytes_eq v.name from then slice_get v.types index else None)
type_alike u v d calls a t from line index = λ j. type_does (calls j) d from line (if bytes_eq (a j) from then slice_get (t j) index else None)

-- the calls of a unit are those of its name, its types and its routines' forms
same_calls : (u v : TypedUnit) (n : ℕ) → u.name ≡ v.name → u.types ≡ v.types → map routine_form u.routines ≡ map routine_form v.routines → handler_of (u ∷ []) n ≡ handler_of (v ∷ []) n
same_calls u v zero a t r = refl
same_calls u v (suc d) a t r =
    let below = same_calls u v d a t r in
    λ i. record { routine = λ from line callee arguments. call_alike u v d below a r from line callee arguments i; named_type = λ from line index. type_alike u v d below a t from line index i }

-- the meaning is that of the name, the types, the variables, the routines and the statements
same_meaning : (u v : TypedUnit) (m : ℕ) → AreAlike u v → meaning (u ∷ []) m ≡ meaning (v ∷ []) m
same_meaning u v m s = let call = same_calls u v m s.names s.types s.routines in λ i. go_on (spend 1 (bind (make_all (call i) m (s.names i) 0 (s.variables i ++ block_auxiliaries (tree.Compound (tree.next (s.starts i) (tree.next (s.stops i) tree.none))))) (λ _. exec (call i) m (s.names i) (s.starts i))) m first_state) (λ _. stop meant.Normal)

-- a text has one meaning
text_means : (text : List ℕ) (u v : TypedUnit) (m : ℕ) → IsProgramText text u → IsProgramText text v → meaning (u ∷ []) m ≡ meaning (v ∷ []) m
text_means text u v m p q = same_meaning u v m (one_program text u v p q)

-- so have texts that join
joins_mean : (texts : List (List ℕ)) (us vs : List TypedUnit) (m : ℕ) → Joins texts us → Joins texts vs → meaning us m ≡ meaning vs m
joins_mean (text ∷ []) (u ∷ []) (v ∷ []) m p q = text_means text u v m p q
joins_mean (text ∷ []) (u ∷ []) [] m p q = absurd q
joins_mean (text ∷ []) (u ∷ []) (v ∷ w ∷ vs) m p q = absurd q
joins_mean (text ∷ []) [] vs m p q = absurd p
joins_mean (text ∷ []) (u ∷ v ∷ us) vs m p q = absurd p
joins_mean (text ∷ next ∷ texts) us vs m p q = absurd p
joins_mean [] us vs m p q = absurd p

-- with budget enough a run ends as the meaning does
pub go_settled : (budget : ℕ) (texts : List (List ℕ)) (answer settled : Status) (before after : Seen) → GoFinishes budget texts answer before after → GoSettles budget texts settled → answer ≡ settled
go_settled budget texts answer settled before after x has =
    let r = x.stands in
    let ends : meaning x.units has.steps ≡ Ends has.left has.end has.state = joins_mean texts x.units has.units has.steps x.joins has.joins ∙ has.ends in
    r.answers
    ∙ settled_status x.units budget has.steps has.left has.end has.state (run_within budget x.image) (tells_within x.image x.units x.implements budget) ends has.room has.few
    ∙ sym has.answers
