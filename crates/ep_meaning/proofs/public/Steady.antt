-- No computation takes back an event, or room that was lost.
use Rattle.std.proofs.Common.{◌≡◌, ℕ, ℤ, pos, negsuc, zero, suc, ◌+◌, ◌*◌, List, [], ◌∷◌, ◌++◌, Option, Some, None, Bool, true, false, IsTrue, length, refl, sym, ap, ◌∙◌, append_assoc, append-nil}
use Rattle.std.specs.Prelude.{if◌then◌else◌, int_le}
use Rattle.std.specs.List.{list_any}
use Rattle.ep_outside.specs.Known.{IsPrefix}
use Rattle.ep_meaning.specs.Controls.{in_order, next_value, has_more, others}
use Rattle.ep_typed.specs.Denoters.{definition_of, required_type, subrange_type, enumeration_type, array_type, set_type}
use Rattle.ep_values.specs.Events.{Trace}
use Rattle.ep_meaning.specs.Meaning.{clears, clears_all, tag_tested, selected_by, selected_now, is_another, changes_variant, sets_tag, assigns_tag, looks, argument, arguments, extended, collected, first_located, given_at, given_each, given_from, indexes, ranging, located, reached, given_living, given, taken, gives, gives_all, members_found, one_result, weights_of, result_at, results_given, initialized, takes_by, takes_all, elaborate, elaborate_each, answered, indexed, selected, selecting, selects, chosen, active, part, tag_read, chosen_part, active_part, place, eval, write_piece, write_wide, write_item, write_items, assign, turns, turns_until, assigns, undefines, turns_to, counts, takes_least, member_turn, names, exec, exec_all, elaborated, elaborated_where, make, make_all, make_own, make_all_own, start_of, starts_of, stop_of, stops_of, routine_in, type_in, line_where, activation, runs_routine, routine_does, type_does, handler_of, read, assign_living, tried, exec_arms, exec_other, begins, begins_where}
use Rattle.ep_meaning.specs.Nameless.{all_assigned, assigned_from, begins_nameless, fills, fills_all, made_nameless, newest_nameless, range_assigned, range_count, takes_nameless, with_depth}
use Rattle.ep_values.specs.Operations.{Answer, Number, Fault, is_same, is_true, decides}
use Rattle.ep_typed.specs.CaseRanges.{is_in}
use Rattle.ep_values.specs.Printing.{Result, number_of, members_of, plain_text, wide_text, piece_events}
use Rattle.ep_values.specs.Printing as result
use Rattle.ep_meaning.specs.Calls.{Argument, Value, Handler, activation_words, entered, given_back, in_call}
use Rattle.ep_meaning.specs.Calls as argument_is
use Rattle.ep_meaning.specs.Steady.{Grows, Steady, IsSteadyHandler}
use Rattle.ep_meaning.specs.Steps.{Call, End, Normal, Halted, Error, State, Outcome, Gives, Ends, Cut, state_of, Computation, give, cut, stop, go_on, bind, spend, change, found, fetch, fetch_or, with_events, assigned, type_at, Component, component, component_number, is_number, whole, Resources, watched, words_of_type, sized, met, with_type, counted, made, made_own, allocate, allocate_own, newest_assigned, with_bound, with_own_bound, standard_file, using, has_ended, own_variable, with_all_ended}
use Rattle.ep_values.specs.Values.{Undefined}
use Rattle.ep_typed.specs.Selections.{variant_number, variants_count}
use Rattle.ep_values.specs.TypeValues.{size_of, same_type, is_within}
use Rattle.ep_values.specs.Values.{Value as ValueOf}
use Rattle.ep_values.specs.SetOperations.{set_answer}
use Rattle.ep_values.specs.Sets.{least_member, with_number, with_numbers}
use Rattle.ep_meaning.specs.Results.{misfit, result_of, start_from, suits, unresulting, value_of, weight_of}
use Rattle.ep_typed.specs.Trees.{Array, Enumeration, Subrange, Named, Record, Set, Required, Denoter, Denoters, no_denoter, next_denoter, Callee, Place, Variable, Own, Standard, Indexed, Field, Variant, Expr, Constant, Text, Read, One, Two, Short, Step, Function, IndexedValue, FieldValue, VariantValue, SetOf, OnSets, Card, Designator, Single, Range, Designators, no_member, next_member, Actual, Evaluated, Accessed, Actuals, no_actual, next_actual, Item, Plain, Wide, Stmt, Stmts, Empty, Compound, Assign, Tagging, AssignTag, If, While, Repeat, Control, For, MemberControl, ForIn, With, Procedure, Halt, Write, none, next, Case, Arms, no_arm, next_arm, Other, no_other, otherwise_do, Entire, OfUnit, OfRoutine, entire, SetConstant, Initial, Structured, Element, AtIndex, AtField, SameField, AtRanges, AtIndexes, Elements, no_element, next_element}
use Rattle.ep_typed.specs.Routines.{made_variables, made_by_unit}
use Rattle.ep_typed.specs.Viewed.{denoter_of, stmt_of}
use Rattle.ep_typed.specs.declared.interface.Formal.{Formal}
use Rattle.ep_typed.specs.declared.interface.FormalMode.{FormalMode}
use Rattle.ep_typed.specs.declared.interface.FormalMode.TheVariants as mode
use Rattle.ep_typed.specs.declared.interface.RoutineResult.{RoutineResult}
use Rattle.ep_values.specs.declared.operations.Print.{Print}
use Rattle.ep_typed.specs.declared.tree.CaseRange.{CaseRange}
use Rattle.ep_typed.specs.declared.tree.Selection.{Selection}
use Rattle.ep_values.specs.TypeValues as type
use Rattle.ep_values.specs.TypeValues.{TypeValue, set_size, Start}
use Rattle.ep_typed.specs.declared.unit.Unit.{Unit as TypedUnit}
use Rattle.ep_typed.specs.declared.unit.UnitRoutine.{UnitRoutine}
use Rattle.ep_typed.specs.declared.unit.UnitType.{UnitType}
use Rattle.ep_typed.specs.declared.unit.UnitVariable.{UnitVariable}
use Rattle.ep_values.specs.declared.run_error.TheConstants as run_error

-- ---- states that grow

-- a state has grown from itself
pub grows_refl : (s : State) → Grows s s
grows_refl s = record { events = record { rest = []; is = sym (append-nil s.trace) }; lost = λ h. h }

-- what has grown from what has grown
pub grows_trans : {s t u : State} → Grows s t → Grows t u → Grows s u
grows_trans {s = s} {t = t} {u = u} g h =
    let p : IsPrefix s.trace t.trace = g.events in
    let q : IsPrefix t.trace u.trace = h.events in
    record {
      events = record { rest = p.rest ++ q.rest; is = q.is ∙ ap (λ l. l ++ q.rest) p.is ∙ append_assoc s.trace p.rest q.rest };
      lost = λ x. h.lost (g.lost x);
    }

-- where neither the events nor the resources change
pub grows_quiet : (s t : State) → t.trace ≡ s.trace → t.resources ≡ s.resources → Grows s t
grows_quiet s t p q = record { events = record { rest = []; is = p ∙ sym (append-nil s.trace) }; lost = λ h. ap (λ r. r.lost) q ∙ h }

-- events that are added
pub grows_events : (events : Trace) (s : State) → Grows s (with_events events s)
grows_events events s = record { events = record { rest = events; is = refl }; lost = λ h. h }

-- room that was lost stays lost where it is watched
watched_lost : (r : Resources) → IsTrue r.lost → IsTrue (watched r).lost
watched_lost r h = rw h refl

-- and where a type is elaborated
met_lost : (t : TypeValue) (r : Resources) → IsTrue r.lost → IsTrue (met t r).lost
met_lost t r h = go (list_any (same_type t) r.types)
  where
    go : (b : Bool) → IsTrue (sized t (watched (if b then r else record r { types = t ∷ r.types; typed = r.typed + words_of_type t }))).lost
    go true = rw h refl
    go false = rw h refl

-- a type that is elaborated
pub grows_type : (t : TypeValue) (s : State) → Grows s (with_type t s)
grows_type t s = record { events = record { rest = []; is = sym (append-nil s.trace) }; lost = met_lost t s.resources }

-- the words of a variable that are counted
pub grows_counted : (t : TypeValue) (s : State) → Grows s (counted t s)
grows_counted t s = record { events = record { rest = []; is = sym (append-nil s.trace) }; lost = λ h. rw h refl }

-- a variable that is made
pub grows_made : (unit : List ℕ) (number : ℕ) (t : TypeValue) (s : State) → Grows s (made unit number t s)
grows_made unit number t s = grows_quiet s (made unit number t s) refl refl

-- a variable of a routine that is made
pub grows_made_own : (number : ℕ) (t : TypeValue) (s : State) → Grows s (made_own number t s)
grows_made_own number t s = grows_quiet s (made_own number t s) refl refl

-- ---- computations from which the state grows

-- a value
pub steady_give : {A : Type 0} (a : A) → Steady (give a)
steady_give a = record { by = λ m s. grows_refl s }

-- no more steps
pub steady_cut : {A : Type 0} → Steady {A = A} cut
steady_cut = record { by = λ m s. grows_refl s }

-- an end
pub steady_stop : {A : Type 0} (e : End) → Steady {A = A} (stop e)
steady_stop e = record { by = λ m s. grows_refl s }

-- one after another
pub steady_bind : {A B : Type 0} {c : Computation A} {f : A → Computation B} → Steady c → ((a : A) → Steady (f a)) → Steady (bind c f)
steady_bind {A = A} {c = c} {f = f} g h = record { by = λ m s. go s (c m s) (g.by m s) }
  where
    go : (s : State) (o : Outcome A) → Grows s (state_of o) → Grows s (state_of (go_on o f))
    go s (Gives left a t) x =
        let y = h a in grows_trans x (y.by left t)
    go s (Ends left e t) x = x
    go s (Cut t) x = x

-- after some steps
pub steady_spend : {A : Type 0} (k : ℕ) {c : Computation A} → Steady c → Steady (spend k c)
steady_spend k {c = c} g = record { by = λ m s. go k m s }
  where
    go : (k m : ℕ) (s : State) → Grows s (state_of (spend k c m s))
    go zero m s = g.by m s
    go (suc k) zero s = grows_refl s
    go (suc k) (suc m) s = go k m s

-- a change by which the state grows
pub steady_change : {f : State → State} → ((s : State) → Grows s (f s)) → Steady (change f)
steady_change h = record { by = λ m s. h s }

-- what is read
pub steady_fetch : {A : Type 0} (e : End) (f : State → Option A) → Steady (fetch e f)
steady_fetch {A = A} e f = record { by = λ m s. go m s (f s) }
  where
    go : (m : ℕ) (s : State) (o : Option A) → Grows s (state_of (found e o m s))
    go m s None = grows_refl s
    go m s (Some a) = grows_refl s

-- what is read, with an end that depends on the state
pub steady_fetch_or : {A : Type 0} (e : State → End) (f : State → Option A) → Steady (fetch_or e f)
steady_fetch_or {A = A} e f = record { by = λ m s. go m s (f s) }
  where
    go : (m : ℕ) (s : State) (o : Option A) → Grows s (state_of (found (e s) o m s))
    go m s None = grows_refl s
    go m s (Some a) = grows_refl s

-- a variable
pub steady_allocate : (unit : List ℕ) (number : ℕ) (t : TypeValue) → Steady (allocate unit number t)
steady_allocate unit number t =
    steady_bind {c = change (counted t)} {f = λ _. spend (size_of t) (change (made unit number t))} (steady_change (grows_counted t)) (λ _. steady_spend (size_of t) (steady_change (grows_made unit number t)))

-- a variable of a routine
pub steady_allocate_own : (number : ℕ) (t : TypeValue) → Steady (allocate_own number t)
steady_allocate_own number t =
    steady_bind {c = change (counted t)} {f = λ _. spend (size_of t) (change (made_own number t))} (steady_change (grows_counted t)) (λ _. steady_spend (size_of t) (steady_change (grows_made_own number t)))

-- one of two
pub steady_if : {A : Type 0} (b : Bool) {x y : Computation A} → Steady x → Steady y → Steady (if b then x else y)
steady_if true p q = p
steady_if false p q = q

-- what uses an allocation
pub steady_using : {A : Type 0} {c : Computation A} (e : End) (n : ℕ) → Steady c → Steady (using e n c)
steady_using {A = A} {c = c} e n h = record { by = λ m s. go m s (has_ended n s) }
  where
    go : (m : ℕ) (s : State) (b : Bool) → Grows s (state_of ((if b then stop {A = A} e else c) m s))
    go m s true = grows_refl s
    go m s false = h.by m s

-- a loop
pub steady_turns : (call : Handler) (h g : ℕ) (unit : List ℕ) {test : Computation Result} {body : Computation (Unit {0})} → Steady test → Steady body → Steady (turns call h unit g test body)
steady_turns call h zero unit x y = steady_cut
steady_turns call h (suc g) unit x y =
    steady_bind x (λ r. steady_if (is_true (number_of r)) (steady_bind y (λ _. steady_spend 1 (steady_turns call h g unit x y))) (steady_spend 1 (steady_give tt)))

-- a loop with its test behind its body
pub steady_turns_until : (call : Handler) (h g : ℕ) (unit : List ℕ) {body : Computation (Unit {0})} {test : Computation Result} → Steady body → Steady test → Steady (turns_until call h unit g body test)
steady_turns_until call h zero unit x y = steady_cut
steady_turns_until call h (suc g) unit x y =
    steady_bind x (λ _. steady_bind y (λ r. steady_spend 1 (steady_if (is_true (number_of r)) (steady_spend 1 (steady_give tt)) (steady_turns_until call h g unit x y))))

-- ranges that are tried
pub steady_tried : {A : Type 0} (call : Handler) (h : ℕ) (unit : List ℕ) (z : ℤ) (rs : List CaseRange) {fits fails : Computation A} → Steady fits → Steady fails → Steady (tried call h unit z rs fits fails)
steady_tried call h unit z [] x y = y
steady_tried call h unit z (r ∷ rs) x y = steady_spend 1 (steady_if (is_in r z) x (steady_tried call h unit z rs x y))

-- a variant that is selected
pub steady_selecting : {A : Type 0} (call : Handler) (h : ℕ) (unit : List ℕ) (z : ℤ) (labels : List (List CaseRange)) (k : ℕ) {chosen : ℕ → Computation A} {none : Computation A} → ((j : ℕ) → Steady (chosen j)) → Steady none → Steady (selecting call h unit z labels k chosen none)
steady_selecting call h unit z [] k x y = y
steady_selecting call h unit z (ranges ∷ more) k x y = steady_tried call h unit z ranges (x k) (steady_selecting call h unit z more (suc k) x y)

pub steady_selects : {A : Type 0} (call : Handler) (h : ℕ) (unit : List ℕ) (s : Selection) (z : ℤ) {chosen : ℕ → Computation A} {none : Computation A} → ((j : ℕ) → Steady (chosen j)) → Steady none → Steady (selects call h unit s z chosen none)
steady_selects call h unit s z x y = steady_selecting call h unit z s.labels 0 x (steady_if s.completed (x (length s.labels)) y)

-- what a variable has, where it has anything
pub steady_looks : (v : Component) → Steady (looks v)
steady_looks v = record { by = λ m s. grows_refl s }

-- a variable without a name that is made
pub grows_nameless : (t : TypeValue) (s : State) → Grows s (made_nameless t s)
grows_nameless t s = grows_quiet s (made_nameless t s) refl refl

pub steady_begins_nameless : (t : TypeValue) → Steady (begins_nameless t)
steady_begins_nameless t =
    steady_bind {c = change (counted t)} {f = λ _. spend (suc (size_of t + size_of t)) (newest_nameless t)} (steady_change (grows_counted t)) (λ _. steady_spend (suc (size_of t + size_of t)) (record { by = λ m s. grows_nameless t s }))

-- and that ends
pub grows_depth : (s : State) → Grows s (with_depth s)
grows_depth s = record { events = record { rest = []; is = sym (append-nil s.trace) }; lost = λ h. rw h refl }

-- one value of many components
grows_all_assigned : (c : Component) (k n : ℕ) (value : ValueOf) (s : State) → Grows s (all_assigned c k n value s)
grows_all_assigned c k zero value s = grows_refl s
grows_all_assigned c k (suc n) value s = grows_trans (grows_quiet s (assigned (component c k) value s) refl refl) (grows_all_assigned c (suc k) n value (assigned (component c k) value s))

pub grows_range : (c : Component) (range : CaseRange) (value : ValueOf) (s : State) → Grows s (range_assigned c range value s)
grows_range c range value s = go (component_number (type_at c s) range.low)
  where
    go : (o : Option ℕ) → Grows s (assigned_from c o (range_count range) value s)
    go None = grows_refl s
    go (Some k) = grows_all_assigned c k (range_count range) value s

pub steady_fills : (c : Component) (r : Result) (range : CaseRange) → Steady (fills c r range)
steady_fills c r range = steady_bind (steady_change grows_depth) (λ _. steady_spend (suc (range_count range * suc (weight_of r))) (steady_change (grows_range c range (value_of r))))

pub steady_fills_all : (c : Component) (r : Result) (ranges : List CaseRange) → Steady (fills_all c r ranges)
steady_fills_all c r [] = steady_give tt
steady_fills_all c r (range ∷ more) = steady_bind (steady_fills c r range) (λ _. steady_fills_all c r more)

pub grows_ended : (ns : List ℕ) (s : State) → Grows s (with_all_ended ns s)
grows_ended ns s = record { events = record { rest = []; is = sym (append-nil s.trace) }; lost = λ h. h }

pub steady_takes : (ended undefined : End) (n : ℕ) → Steady (takes_nameless ended undefined n)
steady_takes ended undefined n = steady_using ended n (steady_bind (steady_fetch undefined (result_of (whole n))) (λ r. steady_bind (steady_change grows_depth) (λ _. steady_bind (steady_change (grows_ended (n ∷ []))) (λ _. steady_give r))))

-- ---- the forms

module _ (call : Handler) (steady : IsSteadyHandler call) (g : ℕ) (unit : List ℕ) where
  -- an answer
  pub steady_answered : (line : ℕ) (a : Answer) → Steady (answered call g unit line a)
  steady_answered line (Number z) = steady_give z
  steady_answered line (Fault error) = steady_stop (Error error unit line)

  -- the value of an allocation
  pub steady_read : (line : ℕ) (c : Component) → Steady (read call g unit line c)
  steady_read line c = steady_using _ c.allocation (steady_bind (steady_fetch _ _) (λ r. steady_spend (suc (weight_of r)) (steady_give r)))

  -- the component of a value
  steady_part : (line : ℕ) (r : Result) (k : ℕ) → Steady (part call g unit line r k)
  steady_part line r k = steady_bind (steady_fetch _ _) (λ p. steady_spend (suc (weight_of p)) (steady_give p))

  -- what a function gives
  steady_one_result : (rs : List Result) → Steady (one_result call g unit rs)
  steady_one_result [] = steady_cut
  steady_one_result (r ∷ []) = steady_spend (suc (weight_of r)) (steady_give r)
  steady_one_result (r ∷ s ∷ more) = steady_cut

  -- the component at an index
  pub steady_indexed : (line : ℕ) (c : Component) (z : ℤ) → Steady (indexed call g unit line c z)
  steady_indexed line c z = steady_using _ c.allocation (steady_bind (steady_fetch _ _) (λ k. steady_spend 1 (steady_give (component c k))))

  -- and that of a record
  pub steady_selected : (line : ℕ) (c : Component) (k : ℕ) → Steady (selected call g unit line c k)
  steady_selected line c k = steady_using _ c.allocation (steady_spend 1 (steady_give (component c k)))

  -- a variant of a record
  pub steady_chosen : (line : ℕ) (c : Component) (s : Selection) (k j : ℕ) → Steady (chosen call g unit line c s k j)
  steady_chosen line c s k j = steady_if (is_number j k) (steady_selected line c (variant_number s k)) (steady_stop (Error run_error.INACTIVE_VARIANT unit line))

  steady_chosen_part : (line : ℕ) (r : Result) (s : Selection) (k j : ℕ) → Steady (chosen_part call g unit line r s k j)
  steady_chosen_part line r s k j = steady_if (is_number j k) (steady_part line r (variant_number s k)) (steady_stop (Error run_error.INACTIVE_VARIANT unit line))

  pub steady_tag_read : (line : ℕ) (t : Result) → Steady (tag_read call g unit line t)
  steady_tag_read line t = steady_bind (steady_fetch _ _) (λ z. steady_spend (suc (weight_of z)) (steady_give z))

  pub steady_selecting_part : (line : ℕ) (r : Result) (s : Selection) (k : ℕ) (z : Result) → Steady (selects call g unit s (number_of z) (chosen_part call g unit line r s k) (stop (Error run_error.INACTIVE_VARIANT unit line)))
  steady_selecting_part line r s k z = steady_selects call g unit s (number_of z) (steady_chosen_part line r s k) (steady_stop (Error run_error.INACTIVE_VARIANT unit line))

  pub steady_active_part : (line : ℕ) (r : Result) (s : Selection) (k : ℕ) → Steady (active_part call g unit line r s k)
  steady_active_part line r s k =
      steady_spend (suc (weight_of r)) (steady_bind (steady_part line r s.tag) (λ t. steady_bind (steady_tag_read line t) (steady_selecting_part line r s k)))

  pub steady_active : (line : ℕ) (c : Component) (s : Selection) (k : ℕ) → Steady (active call g unit line c s k)
  steady_active line c s k = steady_using _ c.allocation (steady_bind (steady_fetch _ _) (λ r. steady_selects call g unit s (number_of r) (steady_chosen line c s k) (steady_stop (Error run_error.INACTIVE_VARIANT unit line))))

  -- members that are found
  steady_members_found : (line : ℕ) (o : Option (List ℕ)) → Steady (members_found call g unit line o)
  steady_members_found line o = steady_fetch (Error run_error.SET_MEMBER unit line) (λ s. o)

  -- what a component of a structured value under way is given
  pub steady_located : (line : ℕ) (c : Component) (z : ℤ) → Steady (located call g unit line c z)
  steady_located line c z = steady_using _ c.allocation (steady_bind (steady_fetch _ _) (λ k. steady_give (component c k)))

  steady_first_located : (line : ℕ) (c : Component) (ranges : List CaseRange) → Steady (first_located call g unit line c ranges)
  steady_first_located line c [] = steady_cut
  steady_first_located line c (r ∷ more) = steady_located line c r.low

  pub steady_reached : (line : ℕ) (c : Component) (steps : List ℕ) → Steady (reached call g unit line c steps)
  steady_reached line c [] = steady_give c
  steady_reached line c (k ∷ ks) = steady_bind (steady_selected line c k) (λ d. steady_reached line d ks)

  pub steady_given_living : (line : ℕ) (c : Component) (r : Result) → Steady (given_living call g unit line c r)
  steady_given_living line c r = record { by = λ m s. go m s (suits (type_at c s) r) }
    where
      go : (m : ℕ) (s : State) (b : Bool) → Grows s (state_of ((if b then spend (suc (weight_of r)) (change (assigned c (value_of r))) else stop (Error (misfit r) unit line)) m s))
      go m s true = let x = steady_spend (suc (weight_of r)) (steady_change (λ t. grows_quiet t (assigned c (value_of r) t) refl refl)) in x.by m s
      go m s false = grows_refl s

  pub steady_given : (line : ℕ) (c : Component) (r : Result) → Steady (given call g unit line c r)
  steady_given line c r = steady_using _ c.allocation (steady_given_living line c r)

  -- indexes of a range, and what the components at them are given
  pub steady_ranging : (line : ℕ) (c : Component) (low high : ℤ) → Steady (ranging call g unit line c low high)
  steady_ranging line c low high =
      steady_bind (steady_change grows_depth) (λ _. steady_bind (steady_located line c low) (λ _. steady_bind (steady_located line c high) (λ _. steady_spend 1 (steady_give (record { low = low; high = high })))))

  pub steady_given_from : (line : ℕ) (c : Component) (range : CaseRange) (r : Result) → Steady (given_from call g unit line c range r)
  steady_given_from line c range r =
      steady_if (int_le range.low range.high) (steady_bind (steady_located line c range.low) (λ d. steady_bind (steady_change grows_depth) (λ _. steady_bind (steady_given line d r) (λ _. steady_fills_all c r (range ∷ []))))) (steady_give tt)

  pub steady_given_each : (line : ℕ) (c : Component) (range : CaseRange) (r : Result) → Steady (given_each call g unit line c range r)
  steady_given_each line c range r = steady_spend (suc (weight_of r)) (steady_bind (steady_change grows_depth) (λ _. steady_given_from line c range r))

  -- and what it is in the end
  pub steady_taken : (line n : ℕ) → Steady (taken call g unit line n)
  steady_taken line n = steady_takes _ _ n

  mutual
    -- a place
    pub steady_place : (line : ℕ) (p : Place) → Steady (place call g unit line p)
    steady_place line (Variable u k) = steady_bind (steady_fetch _ _) (λ n. steady_spend 1 (steady_give n))
    steady_place line (Own levels k) = steady_bind (steady_fetch _ _) (λ n. steady_spend 1 (steady_give n))
    steady_place line (Standard file) = steady_spend 1 (steady_give (whole (standard_file file)))
    steady_place line (Indexed p x) = steady_bind (steady_place line p) (λ c. steady_bind (steady_eval line x) (λ r. steady_indexed line c (number_of r)))
    steady_place line (Field p number) = steady_bind (steady_place line p) (λ c. steady_selected line c number)
    steady_place line (Variant p selection number) = steady_bind (steady_place line p) (λ c. steady_active line c selection number)

    -- an expression
    pub steady_eval : (line : ℕ) (x : Expr) → Steady (eval call g unit line x)
    steady_eval line (Constant z) = steady_spend 1 (steady_give (result.Number z))
    steady_eval line (Text bytes) = steady_spend (suc (length bytes)) (steady_give (result.Bytes bytes))
    steady_eval line (Read p) = steady_bind (steady_place line p) (steady_read line)
    steady_eval line (One operation x) =
        steady_bind (steady_eval line x) (λ a. steady_bind (steady_answered line _) (λ z. steady_spend 1 (steady_give (result.Number z))))
    steady_eval line (Two operation x y) =
        steady_bind (steady_eval line x) (λ a. steady_bind (steady_eval line y) (λ b. steady_bind (steady_answered line _) (λ z. steady_spend 1 (steady_give (result.Number z)))))
    steady_eval line (Short operation x y) =
        steady_bind (steady_eval line x) (λ a. steady_if (decides operation (number_of a)) (steady_spend 1 (steady_give a)) (steady_bind (steady_eval line y) (λ b. steady_spend 1 (steady_give b))))
    steady_eval line (Step down low high x y) =
        steady_bind (steady_eval line x) (λ a. steady_bind (steady_eval line y) (λ b. steady_bind (steady_answered line _) (λ z. steady_spend 1 (steady_give (result.Number z)))))
    steady_eval line (Function callee given) = steady_bind (steady_arguments line given) (λ xs. steady_bind (steady.routine unit line callee xs) steady_one_result)
    steady_eval line (IndexedValue x y) = steady_bind (steady_eval line x) (λ a. steady_bind (steady_eval line y) (λ b. steady_bind (steady_fetch _ _) (λ k. steady_part line a k)))
    steady_eval line (FieldValue x number) = steady_bind (steady_eval line x) (λ a. steady_part line a number)
    steady_eval line (VariantValue x selection number) = steady_bind (steady_eval line x) (λ a. steady_active_part line a selection number)
    steady_eval line (SetConstant ms) = steady_spend (suc set_size) (steady_give (result.Members ms))
    steady_eval line (SetOf ds) = steady_spend 1 (steady_bind (steady_collected line [] ds) (λ ms. steady_give (result.Members ms)))
    steady_eval line (OnSets operation x y) = steady_bind (steady_eval line x) (λ a. steady_bind (steady_eval line y) (λ b. steady_spend 1 (steady_give (set_answer operation a b))))
    steady_eval line (Card x) = steady_bind (steady_eval line x) (λ a. steady_spend 1 (steady_give (result.Number (pos (length (members_of a))))))
    steady_eval line (Structured of es) =
        steady_bind (steady.named_type unit line of) (λ t. steady_bind (steady_begins_nameless t) (λ n. steady_bind (steady_gives_all line (whole n) es) (λ _. steady_taken line n)))

    -- what components are given
    pub steady_gives : (line : ℕ) (c : Component) (e : Element) → Steady (gives call g unit line c e)
    steady_gives line c (AtIndex x y) = steady_bind (steady_eval line x) (λ z. steady_bind (steady_located line c (number_of z)) (λ d. steady_bind (steady_eval line y) (steady_given line d)))
    steady_gives line c (AtField steps x) = steady_bind (steady_reached line c steps) (λ d. steady_bind (steady_eval line x) (steady_given line d))
    steady_gives line c (SameField from to) = steady_bind (steady_reached line c to) (λ d. steady_bind (steady_change grows_depth) (λ _. steady_bind (steady_reached line c from) (λ source. steady_bind (steady_read line source) (steady_given line d))))
    steady_gives line c (AtRanges ranges x) = steady_bind (steady_first_located line c ranges) (λ d. steady_bind (steady_eval line x) (λ r. steady_bind (steady_given line d r) (λ _. steady_fills_all c r ranges)))
    steady_gives line c (AtIndexes ds x) = steady_bind (steady_given_at line c ds (steady_eval line x)) (λ r. steady_give tt)

    pub steady_given_at : (line : ℕ) (c : Component) (ds : Designators) {value : Computation Result} → Steady value → Steady (given_at call g unit line c ds value)
    steady_given_at line c no_member its = its
    steady_given_at line c (next_member d ds) its =
        steady_bind (steady_indexes line c d) (λ range. steady_bind (steady_given_at line c ds its) (λ r. steady_bind (steady_given_each line c range r) (λ _. steady_give r)))

    pub steady_indexes : (line : ℕ) (c : Component) (d : Designator) → Steady (indexes call g unit line c d)
    steady_indexes line c (Single x) = steady_bind (steady_eval line x) (λ z. steady_ranging line c (number_of z) (number_of z))
    steady_indexes line c (Range x y) = steady_bind (steady_eval line x) (λ a. steady_bind (steady_eval line y) (λ b. steady_ranging line c (number_of a) (number_of b)))

    pub steady_gives_all : (line : ℕ) (c : Component) (es : Elements) → Steady (gives_all call g unit line c es)
    steady_gives_all line c no_element = steady_give tt
    steady_gives_all line c (next_element e more) = steady_bind (steady_gives line c e) (λ _. steady_gives_all line c more)

    -- arguments
    steady_argument : (line : ℕ) (a : Actual) → Steady (argument call g unit line a)
    steady_argument line (Evaluated x) = steady_bind (steady_eval line x) (λ r. steady_give (Value r))
    steady_argument line (Accessed p) = steady_bind (steady_place line p) (λ n. steady_give (argument_is.Variable n))

    pub steady_arguments : (line : ℕ) (given : Actuals) → Steady (arguments call g unit line given)
    steady_arguments line no_actual = steady_give []
    steady_arguments line (next_actual a more) = steady_bind (steady_argument line a) (λ x. steady_bind (steady_arguments line more) (λ xs. steady_give (x ∷ xs)))

    -- members
    steady_extended : (line : ℕ) (ms : List ℕ) (d : Designator) → Steady (extended call g unit line ms d)
    steady_extended line ms (Single x) = steady_bind (steady_eval line x) (λ a. steady_members_found line (with_number (number_of a) ms))
    steady_extended line ms (Range x y) =
        steady_bind (steady_eval line x) (λ a. steady_bind (steady_eval line y) (λ b. steady_members_found line (with_numbers (number_of a) (number_of b) ms)))

    pub steady_collected : (line : ℕ) (ms : List ℕ) (ds : Designators) → Steady (collected call g unit line ms ds)
    steady_collected line ms no_member = steady_give ms
    steady_collected line ms (next_member d more) = steady_bind (steady_extended line ms d) (λ ns. steady_collected line ns more)

  -- one piece that is written
  pub steady_write_piece : (bytes : List ℕ) → Steady (write_piece call g unit bytes)
  steady_write_piece bytes = steady_spend (suc (length bytes)) (steady_change (grows_events (piece_events bytes)))

  -- a value in so many places
  pub steady_write_wide : (line : ℕ) (print : Print) (r : Result) (width : ℤ) → Steady (write_wide call g unit line print r width)
  steady_write_wide line print r (pos width) = steady_write_piece (wide_text print width r)
  steady_write_wide line print r (negsuc n) = steady_stop (Error run_error.NEGATIVE_WIDTH unit line)

  -- an item
  pub steady_write_item : (line : ℕ) (i : Item) → Steady (write_item call g unit line i)
  steady_write_item line (Plain print x) = steady_bind (steady_eval line x) (λ r. steady_write_piece (plain_text print r))
  steady_write_item line (Wide print x w) =
      steady_bind (steady_eval line x) (λ r. steady_bind (steady_eval line w) (λ width. steady_write_wide line print r (number_of width)))

  -- items
  pub steady_write_items : (line : ℕ) (items : List Item) (ends_line : Bool) → Steady (write_items call g unit line items ends_line)
  steady_write_items line [] false = steady_spend 1 (steady_give tt)
  steady_write_items line [] true = steady_bind (steady_write_piece (10 ∷ [])) (λ _. steady_spend 1 (steady_give tt))
  steady_write_items line (i ∷ is) ends_line = steady_bind (steady_write_item line i) (λ _. steady_write_items line is ends_line)

  -- a value that is assigned
  pub steady_assigned : (v : Component) (value : ValueOf) → Steady (spend 1 (change (assigned v value)))
  steady_assigned v value = steady_spend 1 (steady_change (λ s. grows_quiet s (assigned v value s) refl refl))

  -- an assignment to a variable that lives
  pub steady_assign_living : (line : ℕ) (v : Component) (r : Result) → Steady (assign_living call g unit line v r)
  steady_assign_living line v r = record { by = λ m s. go m s (suits (type_at v s) r) }
    where
      go : (m : ℕ) (s : State) (b : Bool) → Grows s (state_of ((if b then spend 1 (change (assigned v (value_of r))) else stop (Error (misfit r) unit line)) m s))
      go m s true =
          let x = steady_assigned v (value_of r) in x.by m s
      go m s false = grows_refl s

  -- an assignment
  pub steady_assign : (line : ℕ) (v : Component) (r : Result) → Steady (assign call g unit line v r)
  steady_assign line v r = steady_using _ v.allocation (steady_assign_living line v r)

  pub steady_assigns : (line : ℕ) (p : Place) (x : Expr) → Steady (assigns call g unit line p x)
  steady_assigns line p x = steady_bind (steady_place line p) (λ v. steady_bind (steady_eval line x) (λ r. steady_assign line v r))

  -- a variable that becomes undefined
  pub steady_undefined : (v : Component) → Steady (spend 1 (change (assigned v Undefined)))
  steady_undefined v = steady_spend 1 (steady_change (λ s. grows_quiet s (assigned v Undefined s) refl refl))

  pub steady_undefines : (line : ℕ) (p : Place) → Steady (undefines call g unit line p)
  steady_undefines line p = steady_bind (steady_place line p) (λ v. steady_using _ v.allocation (steady_undefined v))

  -- the turns of a `for`
  pub steady_turns_to : (turns line : ℕ) (c : Control) (last : ℤ) {body : Computation (Unit {0})} → Steady body → Steady (turns_to call g unit turns line c last body)
  steady_turns_to zero line c last x = steady_cut
  steady_turns_to (suc turns) line c last x =
      steady_bind x (λ _. steady_bind (steady_eval line (Read (entire c.variable))) (λ r. steady_spend 1 (steady_if (is_same last (number_of r)) (steady_give tt) (steady_bind (steady_assigns line (entire c.variable) (next_value c)) (λ _. steady_turns_to turns line c last x)))))

  -- the least member, for the control variable
  pub steady_takes_least : (line : ℕ) (c : MemberControl) → Steady (takes_least call g unit line c)
  steady_takes_least line c =
      steady_bind (steady_place line (entire c.variable)) (λ v. steady_bind (steady_eval line (Read (entire c.rest))) (λ r. steady_assign line v (result.Number (least_member (members_of r)))))

  -- a turn of a `for` over members
  pub steady_member_turn : (line : ℕ) (c : MemberControl) {body : Computation (Unit {0})} → Steady body → Steady (member_turn call g unit line c body)
  steady_member_turn line c x =
      steady_bind (steady_takes_least line c) (λ _. steady_bind (steady_place line (entire c.rest)) (λ v. steady_bind (steady_eval line (others c)) (λ r. steady_bind x (λ _. steady_assign line v r))))

  pub steady_counts : (line : ℕ) (c : Control) {body : Computation (Unit {0})} → Steady body → Steady (counts call g unit line c body)
  steady_counts line c x =
      steady_bind (steady_eval line (Read (entire c.last))) (λ b. steady_bind (steady_assigns line (entire c.variable) (Read (entire c.last))) (λ _. steady_bind (steady_assigns line (entire c.variable) (Read (entire c.initial))) (λ _. steady_turns_to g line c (number_of b) x)))

  -- an assignment to a tag
  pub steady_clears : (line : ℕ) (r : Component) (k : ℕ) → Steady (clears call g unit line r k)
  steady_clears line r k =
      steady_using _ r.allocation (steady_spend 1 (steady_bind (steady_fetch (Error run_error.UNDEFINED_VALUE unit line) (type_at (component r k))) (λ t. steady_spend (size_of t) (steady_change (λ s. grows_quiet s (assigned (component r k) Undefined s) refl refl)))))

  pub steady_clears_all : (line : ℕ) (r : Component) (k n : ℕ) → Steady (clears_all call g unit line r k n)
  steady_clears_all line r k zero = steady_give tt
  steady_clears_all line r k (suc n) = steady_bind (steady_clears line r k) (λ _. steady_clears_all line r (suc k) n)

  pub steady_tag_tested : (line : ℕ) (c : Tagging) (r : Component) (s : Selection) → Steady (tag_tested call g unit line c r s)
  steady_tag_tested line c r s =
      steady_bind (steady_selected line r s.tag) (λ t. steady_bind (steady_selected line t 0) (λ v. steady_bind (steady_eval line (Read (entire c.value))) (λ z. steady_if (is_within (type.Ordinal c.low c.high) (number_of z)) (steady_give v) (steady_stop (Error run_error.OUTSIDE_TYPE unit line)))))

  pub steady_selected_by : (s : Selection) (o : Option Result) → Steady (selected_by call g unit s o)
  steady_selected_by s None = steady_give None
  steady_selected_by s (Some r) = steady_selects call g unit s (number_of r) (λ j. steady_give (Some j)) (steady_give None)

  pub steady_selected_now : (line : ℕ) (v : Component) (s : Selection) → Steady (selected_now call g unit line v s)
  steady_selected_now line v s = steady_using _ v.allocation (steady_bind (steady_looks v) (steady_selected_by s))

  pub steady_clearing : (line : ℕ) (r : Component) (s : Selection) (b : Bool) → Steady {A = Unit {0}} (if b then clears_all call g unit line r (variant_number s 0) (variants_count s) else give tt)
  steady_clearing line r s b = steady_if b (steady_clears_all line r (variant_number s 0) (variants_count s)) (steady_give tt)

  pub steady_changes_variant : (line : ℕ) (c : Tagging) (r : Component) (s : Selection) (before : Option ℕ) → Steady (changes_variant call g unit line c r s before)
  steady_changes_variant line c r s before =
      steady_bind (steady_eval line (Read (entire c.value))) (λ z. steady_bind (steady_selected_by s (Some z)) (λ now. steady_clearing line r s (is_another before now)))

  pub steady_sets_tag : (line : ℕ) (c : Tagging) (r : Component) (s : Selection) → Steady (sets_tag call g unit line c r s)
  steady_sets_tag line c r s =
      steady_bind (steady_selected line r s.tag) (λ t. steady_bind (steady_selected line t 0) (λ v. steady_bind (steady_eval line (Read (entire c.value))) (λ z. steady_assign line v z)))

  pub steady_assigns_tag : (line : ℕ) (c : Tagging) (p : Place) (s : Selection) (x : Expr) → Steady (assigns_tag call g unit line c p s x)
  steady_assigns_tag line c p s x =
      steady_bind (steady_place line p) (λ r. steady_bind (steady_assigns line (entire c.value) x) (λ _. steady_bind (steady_tag_tested line c r s) (λ v. steady_bind (steady_selected_now line v s) (λ before. steady_bind (steady_changes_variant line c r s before) (λ _. steady_sets_tag line c r s)))))

  -- the variable of a `with`
  pub steady_names : (v : Entire) (c : Component) → Steady (names call g unit v c)
  steady_names (OfUnit u k) c = steady_spend 1 (steady_change (λ s. grows_quiet s (with_bound u k c s) refl refl))
  steady_names (OfRoutine zero k) c = steady_spend 1 (steady_change (λ s. grows_quiet s (with_own_bound k c s) refl refl))
  steady_names (OfRoutine (suc up) k) c = steady_cut

  mutual
    pub steady_exec : (x : Stmt) → Steady (exec call g unit x)
    steady_exec Empty = steady_give tt
    steady_exec (Compound ss) = steady_exec_all ss
    steady_exec (Assign line p x) = steady_assigns line p x
    steady_exec (AssignTag line c p s x) = steady_assigns_tag line c p s x
    steady_exec (If line x a b) =
        steady_bind (steady_eval line x) (λ r. steady_if (is_true (number_of r)) (steady_bind (steady_exec a) (λ _. steady_spend 1 (steady_give tt))) (steady_bind (steady_exec b) (λ _. steady_spend 1 (steady_give tt))))
    steady_exec (While line x s) = steady_turns call g g unit (steady_eval line x) (steady_exec s)
    steady_exec (Repeat line ss x) = steady_turns_until call g g unit (steady_exec_all ss) (steady_eval line x)
    steady_exec (For line c x y s) =
        steady_bind (steady_assigns line (entire c.initial) x) (λ _. steady_bind (steady_assigns line (entire c.last) y) (λ _.
        steady_bind (steady_bind (steady_eval line (in_order c)) (λ r. steady_if (is_true (number_of r)) (steady_counts line c (steady_exec s)) (steady_give tt))) (λ _.
        steady_bind (steady_undefines line (entire c.variable)) (λ _. steady_spend 1 (steady_give tt)))))
    steady_exec (ForIn line c x s) =
        steady_bind (steady_assigns line (entire c.rest) x) (λ _. steady_bind (steady_turns call g g unit (steady_eval line (has_more c)) (steady_member_turn line c (steady_exec s))) (λ _. steady_undefines line (entire c.variable)))
    steady_exec (With line v of p s) = steady_bind (steady_place line p) (λ c. steady_bind (steady_names v c) (λ _. steady_exec s))
    steady_exec (Procedure line callee given) =
        steady_bind (steady_arguments line given) (λ xs. steady_bind (steady.routine unit line callee xs) (λ results. steady_spend 1 (steady_give tt)))
    steady_exec (Case line x arms o) = steady_bind (steady_eval line x) (λ r. steady_exec_arms (number_of r) arms (steady_exec_other line o))
    steady_exec (Halt line) = steady_stop Halted
    steady_exec (Write line items ends_line) = steady_write_items line items ends_line

    pub steady_exec_all : (ss : Stmts) → Steady (exec_all call g unit ss)
    steady_exec_all none = steady_give tt
    steady_exec_all (next s ss) = steady_bind (steady_exec s) (λ _. steady_exec_all ss)

    pub steady_exec_arms : (z : ℤ) (arms : Arms) {fails : Computation (Unit {0})} → Steady fails → Steady (exec_arms call g unit z arms fails)
    steady_exec_arms z no_arm x = x
    steady_exec_arms z (next_arm ranges s arms) x = steady_tried call g unit z ranges (steady_bind (steady_exec s) (λ _. steady_spend 1 (steady_give tt))) (steady_exec_arms z arms x)

    pub steady_exec_other : (line : ℕ) (o : Other) → Steady (exec_other call g unit line o)
    steady_exec_other line no_other = steady_stop (Error run_error.NO_CASE unit line)
    steady_exec_other line (otherwise_do ss) = steady_bind (steady_exec_all ss) (λ _. steady_spend 1 (steady_give tt))

  -- a type that is elaborated
  pub steady_elaborated : (t : TypeValue) → Steady (elaborated call g unit t)
  steady_elaborated t = steady_bind {c = change (with_type t)} {f = λ _. spend 1 (give t)} (steady_change (grows_type t)) (λ _. steady_spend 1 (steady_give t))

  pub steady_elaborated_where : (o : Option TypeValue) → Steady (elaborated_where call g unit o)
  steady_elaborated_where None = steady_cut
  steady_elaborated_where (Some t) = steady_elaborated t

  -- one that gets an initial state
  steady_begins : (line : ℕ) (t : TypeValue) (r : Result) (u : TypeValue) → Steady (begins call g unit line t r u)
  steady_begins line t r u =
      steady_if (suits (Some t) r)
      (steady_bind {c = change (with_type u)} {f = λ _. spend (suc (size_of t)) (give u)} (steady_change (grows_type u)) (λ _. steady_spend (suc (size_of t)) (steady_give u)))
      (steady_stop (Error (misfit r) unit line))

  pub steady_begins_where : (line : ℕ) (t : TypeValue) (r : Result) (o : Option Start) → Steady (begins_where call g unit line t r o)
  steady_begins_where line t r None = steady_cut
  steady_begins_where line t r (Some start) = steady_begins line t r (type.Initial t start)

  module _ (line : ℕ) where
    mutual
      pub steady_elaborate : (d : Denoter) → Steady (elaborate call g unit line d)
      steady_elaborate (Required r) = steady_elaborated (required_type r)
      steady_elaborate (Named index []) = steady.named_type unit line index
      steady_elaborate (Named index (b ∷ bs)) = steady_cut
      steady_elaborate (Subrange host low high) = steady_elaborated_where (subrange_type low high)
      steady_elaborate (Enumeration names) = steady_elaborated_where (enumeration_type names)
      steady_elaborate (Array index component) =
          steady_bind (steady_elaborate index) (λ t. steady_bind (steady_elaborate component) (λ u. steady_elaborated_where (array_type (Some t) (Some u))))
      steady_elaborate (Record ds) = steady_bind (steady_elaborate_each ds) (λ ts. steady_elaborated (type.Record ts))
      steady_elaborate (Set base) = steady_bind (steady_elaborate base) (λ t. steady_elaborated_where (set_type (Some t)))
      steady_elaborate (Initial of value) =
          steady_bind (steady_elaborate of) (λ t. steady_bind (steady_eval line value) (λ r. steady_begins_where line t r (start_from r)))

      pub steady_elaborate_each : (ds : Denoters) → Steady (elaborate_each call g unit line ds)
      steady_elaborate_each no_denoter = steady_give type.no_component
      steady_elaborate_each (next_denoter d ds) = steady_bind (steady_elaborate d) (λ t. steady_bind (steady_elaborate_each ds) (λ ts. steady_give (type.next_component t ts)))

  -- a variable of a type that is elaborated
  pub steady_make : (number : ℕ) (v : UnitVariable) → Steady (make call g unit number v)
  steady_make number v = steady_bind (steady_elaborate v.line (denoter_of v.denoter)) (λ t. steady_allocate unit number t)

  -- variables
  pub steady_make_all : (number : ℕ) (vs : List UnitVariable) → Steady (make_all call g unit number vs)
  steady_make_all number [] = steady_give tt
  steady_make_all number (v ∷ vs) = steady_bind (steady_make number v) (λ _. steady_make_all (suc number) vs)

  -- a variable of a routine, of a type that is elaborated
  pub steady_make_own : (number : ℕ) (v : UnitVariable) → Steady (make_own call g unit number v)
  steady_make_own number v = steady_bind (steady_elaborate v.line (denoter_of v.denoter)) (λ t. steady_allocate_own number t)

  -- its variables
  pub steady_make_all_own : (number : ℕ) (vs : List UnitVariable) → Steady (make_all_own call g unit number vs)
  steady_make_all_own number [] = steady_give tt
  steady_make_all_own number (v ∷ vs) = steady_bind (steady_make_own number v) (λ _. steady_make_all_own (suc number) vs)

-- the start of a unit
pub steady_start_of : (call : Handler) → IsSteadyHandler call → (g : ℕ) (u : TypedUnit) → Steady (start_of call g u)
steady_start_of call steady g u = steady_spend 1 (steady_bind (steady_make_all call steady g u.name 0 (made_by_unit u)) (λ _. steady_exec call steady g u.name (stmt_of u.start)))

-- its stop
pub steady_stop_of : (call : Handler) → IsSteadyHandler call → (g : ℕ) (u : TypedUnit) → Steady (stop_of call g u)
steady_stop_of call steady g u = steady_spend 1 (steady_exec call steady g u.name (stmt_of u.stop))

-- the starts of units, and what is behind them
pub steady_starts_of : (call : Handler) → IsSteadyHandler call → (g : ℕ) (us : List TypedUnit) {behind : Computation (Unit {0})} → Steady behind → Steady (starts_of call g us behind)
steady_starts_of call steady g [] h = h
steady_starts_of call steady g (u ∷ us) h = steady_bind (steady_start_of call steady g u) (λ _. steady_starts_of call steady g us h)

-- and their stops
pub steady_stops_of : (call : Handler) → IsSteadyHandler call → (g : ℕ) (us : List TypedUnit) → Steady (stops_of call g us)
steady_stops_of call steady g [] = steady_stop Normal
steady_stops_of call steady g (u ∷ us) = steady_bind (steady_stop_of call steady g u) (λ _. steady_stops_of call steady g us)

-- ---- calls

-- while a call is under way, and after it
pub steady_in_call : {A : Type 0} (words levels : ℕ) (x : Call) {c : Computation A} → Steady c → Steady (in_call words levels x c)
steady_in_call {A = A} words levels x {c = c} g = record { by = λ m s. go m s (c m (entered words levels x s)) (grows_trans (grows_entered s) (g.by m (entered words levels x s))) }
  where
    grows_entered : (s : State) → Grows s (entered words levels x s)
    grows_entered s = record { events = record { rest = []; is = sym (append-nil s.trace) }; lost = λ h. rw h refl }

    go : (m : ℕ) (s : State) (o : Outcome A) → Grows s (state_of o) → Grows s (state_of (given_back s o))
    go m s (Gives left a t) h = record { events = h.events; lost = h.lost }
    go m s (Ends left e t) h = h
    go m s (Cut t) h = h

-- the first value of a variable
pub steady_initialized : (unit : List ℕ) (line : ℕ) (t : TypeValue) (r : Result) → Steady (initialized unit line t r)
steady_initialized unit line t r = steady_if (suits (Some t) r) (steady_change (λ s. grows_quiet s (newest_assigned (value_of r) s) refl refl)) (steady_stop (Error (misfit r) unit line))

module _ (call : Handler) (steady : IsSteadyHandler call) (g : ℕ) (unit : List ℕ) where
  -- a formal parameter that takes its argument
  steady_takes_value : (line number : ℕ) (f : Formal) (r : Result) → Steady (bind (elaborate call g unit line (denoter_of f.denoter)) (λ t. bind (allocate_own number t) (λ _. initialized unit line t r)))
  steady_takes_value line number f r =
      steady_bind (steady_elaborate call steady g unit line (denoter_of f.denoter)) (λ t. steady_bind (steady_allocate_own number t) (λ _. steady_initialized unit line t r))

  steady_takes_variable : (number : ℕ) (c : Component) → Steady (spend 1 (change (with_own_bound number c)))
  steady_takes_variable number c = steady_spend 1 (steady_change (λ s. grows_quiet s (with_own_bound number c s) refl refl))

  pub steady_takes_by : (m : FormalMode) (line number : ℕ) (f : Formal) (x : Argument) → Steady (takes_by call g unit m line number f x)
  steady_takes_by mode.Value line number f (Value r) = steady_takes_value line number f r
  steady_takes_by mode.Value line number f (argument_is.Variable n) = steady_cut
  steady_takes_by mode.ProtectedValue line number f (Value r) = steady_takes_value line number f r
  steady_takes_by mode.ProtectedValue line number f (argument_is.Variable n) = steady_cut
  steady_takes_by mode.Variable line number f (Value r) = steady_cut
  steady_takes_by mode.Variable line number f (argument_is.Variable n) = steady_takes_variable number n
  steady_takes_by mode.ProtectedVariable line number f (Value r) = steady_cut
  steady_takes_by mode.ProtectedVariable line number f (argument_is.Variable n) = steady_takes_variable number n

  pub steady_takes_all : (line number : ℕ) (fs : List Formal) (xs : List Argument) → Steady (takes_all call g unit line number fs xs)
  steady_takes_all line number [] [] = steady_give tt
  steady_takes_all line number [] (x ∷ xs) = steady_cut
  steady_takes_all line number (f ∷ fs) [] = steady_cut
  steady_takes_all line number (f ∷ fs) (x ∷ xs) = steady_bind (steady_takes_by f.mode line number f x) (λ _. steady_takes_all line (suc number) fs xs)

-- the result of a function
pub steady_result_at : (unit : List ℕ) (line number : ℕ) → Steady (result_at unit line number)
steady_result_at unit line number =
    steady_bind (steady_fetch (Error run_error.UNDEFINED_VALUE unit line) (own_variable 0 number)) (λ c.
    steady_using (Error run_error.DISPOSED unit line) c.allocation (steady_bind (steady_fetch_or (λ s. Error (unresulting (type_at c s)) unit line) (result_of c)) (λ r. steady_give (r ∷ []))))

-- what a routine gives
pub steady_results_given : (unit : List ℕ) (line number : ℕ) (r : Option RoutineResult) → Steady (results_given unit line number r)
steady_results_given unit line number None = steady_give []
steady_results_given unit line number (Some r) = steady_result_at unit line number

-- a routine
pub steady_runs_routine : (call : Handler) → IsSteadyHandler call → (g : ℕ) (unit : List ℕ) (r : UnitRoutine) (xs : List Argument) → Steady (runs_routine call g unit r xs)
steady_runs_routine call steady g unit r xs =
    steady_bind (steady_takes_all call steady g unit r.line 0 r.formals xs)
    (λ _. steady_bind (steady_make_all_own call steady g unit (length r.formals) (made_variables r))
    (λ _. steady_bind (steady_exec call steady g unit (stmt_of r.block)) (λ _. steady_results_given unit r.line (length r.formals) r.result)))

steady_routine_does : (call : Handler) → IsSteadyHandler call → (g : ℕ) (from : List ℕ) (line : ℕ) (callee : Callee) (o : Option UnitRoutine) (xs : List Argument)
    → Steady (routine_does call g from line callee o xs)
steady_routine_does call steady g from line callee None xs = steady_cut
steady_routine_does call steady g from line callee (Some r) xs =
    steady_in_call activation_words callee.levels (activation r.name from line) (steady_spend (suc (weights_of xs)) (steady_runs_routine call steady g callee.unit r xs))

steady_type_does : (call : Handler) → IsSteadyHandler call → (g : ℕ) (unit : List ℕ) (line : ℕ) (o : Option UnitType) → Steady (type_does call g unit line o)
steady_type_does call steady g unit line None = steady_cut
steady_type_does call steady g unit line (Some t) =
    steady_in_call 0 0 (activation [] unit line) (steady_spend 1 (steady_elaborate call steady g unit (line_where t.line) (definition_of t)))

-- however deep calls nest
pub steady_handler_of : (units : List TypedUnit) (depth : ℕ) → IsSteadyHandler (handler_of units depth)
steady_handler_of units zero = record { routine = λ from line callee arguments. steady_cut; named_type = λ from line index. steady_cut }
steady_handler_of units (suc depth) =
    record {
      routine = λ from line callee arguments. steady_routine_does (handler_of units depth) (steady_handler_of units depth) depth from line callee (routine_in units callee.unit callee.number) arguments;
      named_type = λ from line index. steady_type_does (handler_of units depth) (steady_handler_of units depth) depth from line (type_in units from index);
    }
