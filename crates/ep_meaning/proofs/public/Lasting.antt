-- With more steps, and more turns of its loops, a computation comes to the same, or goes on from where it was cut.
use Rattle.std.proofs.Common.{◌≡◌, ℕ, ℤ, pos, negsuc, zero, suc, ◌+◌, ◌*◌, List, [], ◌∷◌, Option, Some, None, Bool, true, false, length, refl, ap, arith}
use Rattle.std.specs.Prelude.{if◌then◌else◌, int_le}
use Rattle.ep_meaning.specs.Controls.{in_order, next_value, has_more, others}
use Rattle.ep_typed.specs.Denoters.{definition_of, required_type, subrange_type, enumeration_type, array_type, set_type}
use Rattle.ep_meaning.specs.Meaning.{clears, clears_all, tag_tested, selected_by, selected_now, is_another, changes_variant, sets_tag, assigns_tag, looks, argument, arguments, extended, collected, first_located, given_at, given_each, given_from, indexes, ranging, located, reached, given, taken, gives, gives_all, members_found, one_result, weights_of, results_given, initialized, takes_by, takes_all, elaborate, elaborate_each, answered, indexed, selected, selecting, selects, chosen, active, part, chosen_part, active_part, place, eval, write_piece, write_wide, write_item, write_items, assign, turns, turns_until, assigns, undefines, turns_to, counts, takes_least, member_turn, names, exec, exec_all, elaborated, elaborated_where, make, make_all, make_own, make_all_own, start_of, starts_of, stop_of, stopped_units, stops_of, routine_in, type_in, line_where, activation, runs_routine, routine_does, type_does, handler_of, read, assign_living, tried, exec_arms, exec_other, begins, begins_where}
use Rattle.ep_meaning.specs.Nameless.{begins_nameless, fills, fills_all, newest_nameless, range_count}
use Rattle.ep_values.specs.Operations.{Answer, Number, Fault, is_same, is_true, decides}
use Rattle.ep_typed.specs.CaseRanges.{is_in}
use Rattle.ep_values.specs.Printing.{Result, number_of, members_of, plain_text, wide_text, piece_events}
use Rattle.ep_values.specs.Printing as result
use Rattle.ep_meaning.specs.Calls.{Argument, Value, Handler, activation_words, entered, given_back, in_call}
use Rattle.ep_meaning.specs.Calls as argument_is
use Rattle.ep_meaning.specs.Steady.{Grows, Steady, IsSteadyHandler}
use Rattle.ep_meaning.specs.Steps.{Call, End, Normal, Halted, Error, State, Outcome, Gives, Ends, Cut, state_of, Computation, give, cut, stop, go_on, bind, spend, change, found, fetch, fetch_or, assigned, type_at, Component, component, is_number, whole, with_type, counted, made, made_own, allocate, allocate_own, newest_assigned, with_bound, with_own_bound, standard_file, first_state, using, has_ended, own_variable}
use Rattle.ep_values.specs.Values.{Undefined}
use Rattle.ep_typed.specs.Selections.{variant_number, variants_count}
use Rattle.ep_values.specs.TypeValues.{size_of, is_within}
use Rattle.ep_values.specs.Values.{Value as ValueOf}
use Rattle.ep_values.specs.SetOperations.{set_answer}
use Rattle.ep_values.specs.Sets.{least_member, with_number, with_numbers}
use Rattle.ep_meaning.specs.Results.{misfit, result_of, start_from, suits, unresulting, value_of, weight_of}
use Rattle.ep_typed.specs.Trees.{Array, Enumeration, Subrange, Named, Record, Set, Required, Denoter, Denoters, no_denoter, next_denoter, Callee, Place, Variable, Own, Standard, Indexed, Field, Variant, Expr, Constant, Text, Read, One, Two, Short, Step, Function, IndexedValue, FieldValue, VariantValue, SetOf, OnSets, Card, Designator, Single, Range, Designators, no_member, next_member, Actual, Evaluated, Accessed, Actuals, no_actual, next_actual, Item, Plain, Wide, Stmt, Stmts, Empty, Compound, Assign, Tagging, AssignTag, If, While, Repeat, Control, For, MemberControl, ForIn, With, Procedure, Halt, Write, none, next, Case, Arms, no_arm, next_arm, Other, no_other, otherwise_do, Entire, OfUnit, OfRoutine, entire, SetConstant, Initial, Structured, Element, AtIndex, AtField, SameField, AtRanges, AtIndexes, Elements, no_element, next_element}
use Rattle.ep_typed.specs.Routines.{made_variables, made_by_unit}
use Rattle.ep_typed.specs.Viewed.{denoter_of, stmt_of}
use Rattle.ep_typed.specs.declared.interface.Formal.{Formal}
use Rattle.ep_typed.specs.declared.interface.FormalMode.{FormalMode}
use Rattle.ep_typed.specs.declared.interface.FormalMode.TheVariants as mode
use Rattle.ep_typed.specs.declared.interface.RoutineResult.{RoutineResult}
use Rattle.ep_values.specs.declared.operations.Print.{Print}
use Rattle.ep_typed.specs.declared.unit.Unit.{Unit as TypedUnit}
use Rattle.ep_typed.specs.declared.unit.UnitRoutine.{UnitRoutine}
use Rattle.ep_typed.specs.declared.unit.UnitType.{UnitType}
use Rattle.ep_typed.specs.declared.unit.UnitVariable.{UnitVariable}
use Rattle.ep_typed.specs.declared.tree.CaseRange.{CaseRange}
use Rattle.ep_typed.specs.declared.tree.Selection.{Selection}
use Rattle.ep_values.specs.TypeValues as type
use Rattle.ep_values.specs.TypeValues.{TypeValue, set_size, Start}
use Rattle.ep_meaning.specs.Laws.{IsLonger, MeaningsLast}
use Rattle.ep_meaning.proofs.public.Steady.{grows_depth, grows_ended, grows_nameless, grows_range, steady_given_living, steady_looks, grows_refl, grows_trans, grows_quiet, grows_events, grows_type, grows_counted, grows_made, grows_made_own, steady_give, steady_cut, steady_stop, steady_bind, steady_spend, steady_change, steady_fetch, steady_fetch_or, steady_turns, steady_turns_until, steady_turns_to, steady_in_call, steady_handler_of, steady_using, steady_assign_living}
use Rattle.ep_values.specs.declared.run_error.TheConstants as run_error

-- What one computation comes to, another one comes to with more steps.
pub record Lasting {A : Type 0} (c d : Computation A) : Type 0 where
  pub steady : Steady d
  pub by : (m k : ℕ) (s : State) → IsLonger k (c m s) (d (m + k) s)

-- What calls do, calls that may nest deeper do with more steps.
record IsLastingHandler (call other : Handler) : Type 0 where
  steady : IsSteadyHandler other
  routine : (from : List ℕ) (line : ℕ) (callee : Callee) (arguments : List Argument) → Lasting (call.routine from line callee arguments) (other.routine from line callee arguments)
  named_type : (from : List ℕ) (line index : ℕ) → Lasting (call.named_type from line index) (other.named_type from line index)

-- ---- computations

-- a value
lasting_give : {A : Type 0} (a : A) → Lasting (give a) (give a)
lasting_give a = record { steady = steady_give a; by = λ m k s. refl }

-- no more steps
lasting_cut : {A : Type 0} → Lasting {A = A} cut cut
lasting_cut = record { steady = steady_cut; by = λ m k s. grows_refl s }

-- an end
lasting_stop : {A : Type 0} (e : End) → Lasting {A = A} (stop e) (stop e)
lasting_stop e = record { steady = steady_stop e; by = λ m k s. refl }

-- one after another
lasting_bind : {A B : Type 0} {c d : Computation A} {f h : A → Computation B} → Lasting c d → ((a : A) → Lasting (f a) (h a)) → Lasting (bind c f) (bind d h)
lasting_bind {A = A} {B = B} {c = c} {d = d} {f = f} {h = h} p q = record {
  steady = steady_bind p.steady (λ a. let x = q a in x.steady);
  by = λ m k s. go k (c m s) (d (m + k) s) (p.by m k s);
}
  where
    after : (t : State) (o : Outcome A) → Grows t (state_of o) → Grows t (state_of (go_on o h))
    after t (Gives left a u) g =
        let x = q a in
        let y = x.steady in
        grows_trans g (y.by left u)
    after t (Ends left e u) g = g
    after t (Cut u) g = g

    go : (k : ℕ) (o r : Outcome A) → IsLonger k o r → IsLonger k (go_on o f) (go_on r h)
    go k (Gives left a t) r is =
        let x = q a in
        rw is (x.by left k t)
    go k (Ends left e t) r is = rw is refl
    go k (Cut t) r is = after t r is

-- after some steps
lasting_spend : {A : Type 0} (n : ℕ) {c d : Computation A} → Lasting c d → Lasting (spend n c) (spend n d)
lasting_spend n {c = c} {d = d} p = record { steady = steady_spend n p.steady; by = λ m k s. go n m k s }
  where
    go : (n m k : ℕ) (s : State) → IsLonger k (spend n c m s) (spend n d (m + k) s)
    go zero m k s = p.by m k s
    go (suc n) zero k s =
        let x = steady_spend (suc n) p.steady in
        x.by (0 + k) s
    go (suc n) (suc m) k s =
        let one : suc m + k ≡ suc (m + k) = omega arith in
        rw one (go n m k s)

-- a change
lasting_change : {f : State → State} → ((s : State) → Grows s (f s)) → Lasting (change f) (change f)
lasting_change h = record { steady = steady_change h; by = λ m k s. refl }

-- what is read
lasting_fetch : {A : Type 0} (e : End) (f : State → Option A) → Lasting (fetch e f) (fetch e f)
lasting_fetch {A = A} e f = record { steady = steady_fetch e f; by = λ m k s. go m k s (f s) }
  where
    go : (m k : ℕ) (s : State) (o : Option A) → IsLonger k (found e o m s) (found e o (m + k) s)
    go m k s None = refl
    go m k s (Some a) = refl

-- with an end that depends on the state
lasting_fetch_or : {A : Type 0} (e : State → End) (f : State → Option A) → Lasting (fetch_or e f) (fetch_or e f)
lasting_fetch_or {A = A} e f = record { steady = steady_fetch_or e f; by = λ m k s. go m k s (f s) }
  where
    go : (m k : ℕ) (s : State) (o : Option A) → IsLonger k (found (e s) o m s) (found (e s) o (m + k) s)
    go m k s None = refl
    go m k s (Some a) = refl

-- one of two
lasting_if : {A : Type 0} (b : Bool) {x y v w : Computation A} → Lasting x v → Lasting y w → Lasting (if b then x else y) (if b then v else w)
lasting_if true p q = p
lasting_if false p q = q

-- what uses an allocation
lasting_using : {A : Type 0} {x y : Computation A} (e : End) (n : ℕ) → Lasting x y → Lasting (using e n x) (using e n y)
lasting_using {A = A} {x = x} {y = y} e n p = record { steady = steady_using e n p.steady; by = λ m k s. go m k s (has_ended n s) }
  where
    go : (m k : ℕ) (s : State) (b : Bool) → IsLonger k ((if b then stop {A = A} e else x) m s) ((if b then stop {A = A} e else y) (m + k) s)
    go m k s true = refl
    go m k s false = p.by m k s

-- a loop that may make more turns
lasting_turns : (call other : Handler) (h i g j : ℕ) (unit : List ℕ) {test test2 : Computation Result} {body body2 : Computation (Unit {0})} → Lasting test test2 → Lasting body body2 → Lasting (turns call h unit g test body) (turns other i unit (g + j) test2 body2)
lasting_turns call other h i zero j unit x y =
    let z = steady_turns other i (zero + j) unit x.steady y.steady in
    record { steady = z; by = λ m k s. z.by (m + k) s }
lasting_turns call other h i (suc g) j unit x y =
    let one : suc g + j ≡ suc (g + j) = omega arith in
    rw one (lasting_bind x (λ r. lasting_if (is_true (number_of r)) (lasting_bind y (λ _. lasting_spend 1 (lasting_turns call other h i g j unit x y))) (lasting_spend 1 (lasting_give tt))))

-- a loop with its test behind its body
lasting_turns_until : (call other : Handler) (h i g j : ℕ) (unit : List ℕ) {body body2 : Computation (Unit {0})} {test test2 : Computation Result} → Lasting body body2 → Lasting test test2 → Lasting (turns_until call h unit g body test) (turns_until other i unit (g + j) body2 test2)
lasting_turns_until call other h i zero j unit x y =
    let z = steady_turns_until other i (zero + j) unit x.steady y.steady in
    record { steady = z; by = λ m k s. z.by (m + k) s }
lasting_turns_until call other h i (suc g) j unit x y =
    let one : suc g + j ≡ suc (g + j) = omega arith in
    rw one (lasting_bind x (λ _. lasting_bind y (λ r. lasting_spend 1 (lasting_if (is_true (number_of r)) (lasting_spend 1 (lasting_give tt)) (lasting_turns_until call other h i g j unit x y)))))

-- ranges that are tried
lasting_tried : {A : Type 0} (call other : Handler) (h i : ℕ) (unit : List ℕ) (z : ℤ) (rs : List CaseRange) {fits fits2 fails fails2 : Computation A} → Lasting fits fits2 → Lasting fails fails2 → Lasting (tried call h unit z rs fits fails) (tried other i unit z rs fits2 fails2)
lasting_tried call other h i unit z [] x y = y
lasting_tried call other h i unit z (r ∷ rs) x y = lasting_spend 1 (lasting_if (is_in r z) x (lasting_tried call other h i unit z rs x y))

-- a variant that is selected
lasting_selecting : {A : Type 0} (call other : Handler) (h i : ℕ) (unit : List ℕ) (z : ℤ) (labels : List (List CaseRange)) (k : ℕ) {chosen chosen2 : ℕ → Computation A} {none none2 : Computation A} → ((j : ℕ) → Lasting (chosen j) (chosen2 j)) → Lasting none none2
    → Lasting (selecting call h unit z labels k chosen none) (selecting other i unit z labels k chosen2 none2)
lasting_selecting call other h i unit z [] k x y = y
lasting_selecting call other h i unit z (ranges ∷ more) k x y = lasting_tried call other h i unit z ranges (x k) (lasting_selecting call other h i unit z more (suc k) x y)

lasting_selects : {A : Type 0} (call other : Handler) (h i : ℕ) (unit : List ℕ) (s : Selection) (z : ℤ) {chosen chosen2 : ℕ → Computation A} {none none2 : Computation A} → ((j : ℕ) → Lasting (chosen j) (chosen2 j)) → Lasting none none2
    → Lasting (selects call h unit s z chosen none) (selects other i unit s z chosen2 none2)
lasting_selects call other h i unit s z x y = lasting_selecting call other h i unit z s.labels 0 x (lasting_if s.completed (x (length s.labels)) y)

-- a variable without a name
lasting_newest_nameless : (t : TypeValue) → Lasting (newest_nameless t) (newest_nameless t)
lasting_newest_nameless t = record { steady = record { by = λ m s. grows_nameless t s }; by = λ m k s. refl }

lasting_begins_nameless : (t : TypeValue) → Lasting (begins_nameless t) (begins_nameless t)
lasting_begins_nameless t =
    lasting_bind {c = change (counted t)} {f = λ _. spend (suc (size_of t + size_of t)) (newest_nameless t)} (lasting_change (grows_counted t)) (λ _. lasting_spend (suc (size_of t + size_of t)) (lasting_newest_nameless t))

-- one value of many components
lasting_fills : (c : Component) (r : Result) (range : CaseRange) → Lasting (fills c r range) (fills c r range)
lasting_fills c r range = lasting_bind (lasting_change grows_depth) (λ _. lasting_spend (suc (range_count range * suc (weight_of r))) (lasting_change (grows_range c range (value_of r))))

lasting_fills_all : (c : Component) (r : Result) (ranges : List CaseRange) → Lasting (fills_all c r ranges) (fills_all c r ranges)
lasting_fills_all c r [] = lasting_give tt
lasting_fills_all c r (range ∷ more) = lasting_bind (lasting_fills c r range) (λ _. lasting_fills_all c r more)

-- ---- the forms

module _ (call other : Handler) (lasts : IsLastingHandler call other) (g j : ℕ) (unit : List ℕ) where
  -- an answer
  lasting_answered : (line : ℕ) (a : Answer) → Lasting (answered call g unit line a) (answered other (g + j) unit line a)
  lasting_answered line (Number z) = lasting_give z
  lasting_answered line (Fault error) = lasting_stop (Error error unit line)

  -- the value of an allocation
  lasting_read : (line : ℕ) (v : Component) → Lasting (read call g unit line v) (read other (g + j) unit line v)
  lasting_read line v = lasting_using _ v.allocation (lasting_bind (lasting_fetch _ _) (λ r. lasting_spend (suc (weight_of r)) (lasting_give r)))

  -- the component of a value
  lasting_part : (line : ℕ) (r : Result) (k : ℕ) → Lasting (part call g unit line r k) (part other (g + j) unit line r k)
  lasting_part line r k = lasting_bind (lasting_fetch _ _) (λ p. lasting_spend (suc (weight_of p)) (lasting_give p))

  -- what a function gives
  lasting_one_result : (rs : List Result) → Lasting (one_result call g unit rs) (one_result other (g + j) unit rs)
  lasting_one_result [] = lasting_cut
  lasting_one_result (r ∷ []) = lasting_spend (suc (weight_of r)) (lasting_give r)
  lasting_one_result (r ∷ s ∷ more) = lasting_cut

  -- the component at an index
  lasting_indexed : (line : ℕ) (c : Component) (z : ℤ) → Lasting (indexed call g unit line c z) (indexed other (g + j) unit line c z)
  lasting_indexed line c z = lasting_using _ c.allocation (lasting_bind (lasting_fetch _ _) (λ k. lasting_spend 1 (lasting_give (component c k))))

  lasting_selected : (line : ℕ) (c : Component) (k : ℕ) → Lasting (selected call g unit line c k) (selected other (g + j) unit line c k)
  lasting_selected line c k = lasting_using _ c.allocation (lasting_spend 1 (lasting_give (component c k)))

  -- a variant of a record
  lasting_chosen : (line : ℕ) (c : Component) (s : Selection) (k i : ℕ) → Lasting (chosen call g unit line c s k i) (chosen other (g + j) unit line c s k i)
  lasting_chosen line c s k i = lasting_if (is_number i k) (lasting_selected line c (variant_number s k)) (lasting_stop (Error run_error.INACTIVE_VARIANT unit line))

  lasting_chosen_part : (line : ℕ) (r : Result) (s : Selection) (k i : ℕ) → Lasting (chosen_part call g unit line r s k i) (chosen_part other (g + j) unit line r s k i)
  lasting_chosen_part line r s k i = lasting_if (is_number i k) (lasting_part line r (variant_number s k)) (lasting_stop (Error run_error.INACTIVE_VARIANT unit line))

  lasting_active_part : (line : ℕ) (r : Result) (s : Selection) (k : ℕ) → Lasting (active_part call g unit line r s k) (active_part other (g + j) unit line r s k)
  lasting_active_part line r s k =
      lasting_spend (suc (weight_of r)) (lasting_bind (lasting_part line r s.tag) (λ t. lasting_bind (lasting_bind (lasting_fetch _ _) (λ z. lasting_spend (suc (weight_of z)) (lasting_give z))) (λ z.
      lasting_selects call other g (g + j) unit s (number_of z) (lasting_chosen_part line r s k) (lasting_stop (Error run_error.INACTIVE_VARIANT unit line)))))

  lasting_active : (line : ℕ) (c : Component) (s : Selection) (k : ℕ) → Lasting (active call g unit line c s k) (active other (g + j) unit line c s k)
  lasting_active line c s k = lasting_using _ c.allocation (lasting_bind (lasting_fetch _ _) (λ r. lasting_selects call other g (g + j) unit s (number_of r) (lasting_chosen line c s k) (lasting_stop (Error run_error.INACTIVE_VARIANT unit line))))

  -- members that are found
  lasting_members_found : (line : ℕ) (o : Option (List ℕ)) → Lasting (members_found call g unit line o) (members_found other (g + j) unit line o)
  lasting_members_found line o = lasting_fetch (Error run_error.SET_MEMBER unit line) (λ s. o)

  -- what a component of a structured value under way is given
  lasting_located : (line : ℕ) (c : Component) (z : ℤ) → Lasting (located call g unit line c z) (located other (g + j) unit line c z)
  lasting_located line c z = lasting_using _ c.allocation (lasting_bind (lasting_fetch _ _) (λ k. lasting_give (component c k)))

  lasting_first_located : (line : ℕ) (c : Component) (ranges : List CaseRange) → Lasting (first_located call g unit line c ranges) (first_located other (g + j) unit line c ranges)
  lasting_first_located line c [] = lasting_cut
  lasting_first_located line c (r ∷ more) = lasting_located line c r.low

  lasting_reached : (line : ℕ) (c : Component) (steps : List ℕ) → Lasting (reached call g unit line c steps) (reached other (g + j) unit line c steps)
  lasting_reached line c [] = lasting_give c
  lasting_reached line c (k ∷ ks) = lasting_bind (lasting_selected line c k) (λ d. lasting_reached line d ks)

  lasting_given : (line : ℕ) (c : Component) (r : Result) → Lasting (given call g unit line c r) (given other (g + j) unit line c r)
  lasting_given line c r = lasting_using _ c.allocation (record { steady = steady_given_living other lasts.steady (g + j) unit line c r; by = λ m k s. go m k s (suits (type_at c s) r) })
    where
      go : (m k : ℕ) (s : State) (b : Bool) → IsLonger k ((if b then spend (suc (weight_of r)) (change (assigned c (value_of r))) else stop (Error (misfit r) unit line)) m s) ((if b then spend (suc (weight_of r)) (change (assigned c (value_of r))) else stop (Error (misfit r) unit line)) (m + k) s)
      go m k s true = let x = lasting_spend (suc (weight_of r)) (lasting_change (λ t. grows_quiet t (assigned c (value_of r) t) refl refl)) in x.by m k s
      go m k s false = refl

  -- indexes of a range, and what the components at them are given
  lasting_ranging : (line : ℕ) (c : Component) (low high : ℤ) → Lasting (ranging call g unit line c low high) (ranging other (g + j) unit line c low high)
  lasting_ranging line c low high =
      lasting_bind (lasting_change grows_depth) (λ _. lasting_bind (lasting_located line c low) (λ _. lasting_bind (lasting_located line c high) (λ _. lasting_spend 1 (lasting_give (record { low = low; high = high })))))

  lasting_given_from : (line : ℕ) (c : Component) (range : CaseRange) (r : Result) → Lasting (given_from call g unit line c range r) (given_from other (g + j) unit line c range r)
  lasting_given_from line c range r =
      lasting_if (int_le range.low range.high) (lasting_bind (lasting_located line c range.low) (λ d. lasting_bind (lasting_change grows_depth) (λ _. lasting_bind (lasting_given line d r) (λ _. lasting_fills_all c r (range ∷ []))))) (lasting_give tt)

  lasting_given_each : (line : ℕ) (c : Component) (range : CaseRange) (r : Result) → Lasting (given_each call g unit line c range r) (given_each other (g + j) unit line c range r)
  lasting_given_each line c range r = lasting_spend (suc (weight_of r)) (lasting_bind (lasting_change grows_depth) (λ _. lasting_given_from line c range r))

  lasting_taken : (line n : ℕ) → Lasting (taken call g unit line n) (taken other (g + j) unit line n)
  lasting_taken line n = lasting_using _ n (lasting_bind (lasting_fetch _ _) (λ r. lasting_bind (lasting_change grows_depth) (λ _. lasting_bind (lasting_change (grows_ended (n ∷ []))) (λ _. lasting_give r))))

  mutual
    -- a place
    lasting_place : (line : ℕ) (p : Place) → Lasting (place call g unit line p) (place other (g + j) unit line p)
    lasting_place line (Variable u k) = lasting_bind (lasting_fetch _ _) (λ n. lasting_spend 1 (lasting_give n))
    lasting_place line (Own levels k) = lasting_bind (lasting_fetch _ _) (λ n. lasting_spend 1 (lasting_give n))
    lasting_place line (Standard file) = lasting_spend 1 (lasting_give (whole (standard_file file)))
    lasting_place line (Indexed p x) = lasting_bind (lasting_place line p) (λ c. lasting_bind (lasting_eval line x) (λ r. lasting_indexed line c (number_of r)))
    lasting_place line (Field p number) = lasting_bind (lasting_place line p) (λ c. lasting_selected line c number)
    lasting_place line (Variant p selection number) = lasting_bind (lasting_place line p) (λ c. lasting_active line c selection number)

    -- an expression
    lasting_eval : (line : ℕ) (x : Expr) → Lasting (eval call g unit line x) (eval other (g + j) unit line x)
    lasting_eval line (Constant z) = lasting_spend 1 (lasting_give (result.Number z))
    lasting_eval line (Text bytes) = lasting_spend (suc (length bytes)) (lasting_give (result.Bytes bytes))
    lasting_eval line (Read p) = lasting_bind (lasting_place line p) (lasting_read line)
    lasting_eval line (One operation x) =
        lasting_bind (lasting_eval line x) (λ a. lasting_bind (lasting_answered line _) (λ z. lasting_spend 1 (lasting_give (result.Number z))))
    lasting_eval line (Two operation x y) =
        lasting_bind (lasting_eval line x) (λ a. lasting_bind (lasting_eval line y) (λ b. lasting_bind (lasting_answered line _) (λ z. lasting_spend 1 (lasting_give (result.Number z)))))
    lasting_eval line (Short operation x y) =
        lasting_bind (lasting_eval line x) (λ a. lasting_if (decides operation (number_of a)) (lasting_spend 1 (lasting_give a)) (lasting_bind (lasting_eval line y) (λ b. lasting_spend 1 (lasting_give b))))
    lasting_eval line (Step down low high x y) =
        lasting_bind (lasting_eval line x) (λ a. lasting_bind (lasting_eval line y) (λ b. lasting_bind (lasting_answered line _) (λ z. lasting_spend 1 (lasting_give (result.Number z)))))
    lasting_eval line (Function callee given) =
        lasting_bind (lasting_arguments line given) (λ xs. lasting_bind (lasts.routine unit line callee xs) lasting_one_result)
    lasting_eval line (IndexedValue x y) = lasting_bind (lasting_eval line x) (λ a. lasting_bind (lasting_eval line y) (λ b. lasting_bind (lasting_fetch _ _) (λ k. lasting_part line a k)))
    lasting_eval line (FieldValue x number) = lasting_bind (lasting_eval line x) (λ a. lasting_part line a number)
    lasting_eval line (VariantValue x selection number) = lasting_bind (lasting_eval line x) (λ a. lasting_active_part line a selection number)
    lasting_eval line (SetConstant ms) = lasting_spend (suc set_size) (lasting_give (result.Members ms))
    lasting_eval line (SetOf ds) = lasting_spend 1 (lasting_bind (lasting_collected line [] ds) (λ ms. lasting_give (result.Members ms)))
    lasting_eval line (OnSets operation x y) = lasting_bind (lasting_eval line x) (λ a. lasting_bind (lasting_eval line y) (λ b. lasting_spend 1 (lasting_give (set_answer operation a b))))
    lasting_eval line (Card x) = lasting_bind (lasting_eval line x) (λ a. lasting_spend 1 (lasting_give (result.Number (pos (length (members_of a))))))
    lasting_eval line (Structured of es) =
        lasting_bind (lasts.named_type unit line of) (λ t. lasting_bind (lasting_begins_nameless t) (λ n. lasting_bind (lasting_gives_all line (whole n) es) (λ _. lasting_taken line n)))

    -- what components are given
    lasting_gives : (line : ℕ) (c : Component) (e : Element) → Lasting (gives call g unit line c e) (gives other (g + j) unit line c e)
    lasting_gives line c (AtIndex x y) = lasting_bind (lasting_eval line x) (λ z. lasting_bind (lasting_located line c (number_of z)) (λ d. lasting_bind (lasting_eval line y) (lasting_given line d)))
    lasting_gives line c (AtField steps x) = lasting_bind (lasting_reached line c steps) (λ d. lasting_bind (lasting_eval line x) (lasting_given line d))
    lasting_gives line c (SameField from to) = lasting_bind (lasting_reached line c to) (λ d. lasting_bind (lasting_change grows_depth) (λ _. lasting_bind (lasting_reached line c from) (λ source. lasting_bind (lasting_read line source) (lasting_given line d))))
    lasting_gives line c (AtRanges ranges x) =
        lasting_bind (lasting_first_located line c ranges) (λ d. lasting_bind (lasting_eval line x) (λ r. lasting_bind (lasting_given line d r) (λ _. lasting_fills_all c r ranges)))
    lasting_gives line c (AtIndexes ds x) = lasting_bind (lasting_given_at line c ds (lasting_eval line x)) (λ r. lasting_give tt)

    lasting_given_at : (line : ℕ) (c : Component) (ds : Designators) {value other_value : Computation Result} → Lasting value other_value → Lasting (given_at call g unit line c ds value) (given_at other (g + j) unit line c ds other_value)
    lasting_given_at line c no_member its = its
    lasting_given_at line c (next_member d ds) its =
        lasting_bind (lasting_indexes line c d) (λ range. lasting_bind (lasting_given_at line c ds its) (λ r. lasting_bind (lasting_given_each line c range r) (λ _. lasting_give r)))

    lasting_indexes : (line : ℕ) (c : Component) (d : Designator) → Lasting (indexes call g unit line c d) (indexes other (g + j) unit line c d)
    lasting_indexes line c (Single x) = lasting_bind (lasting_eval line x) (λ z. lasting_ranging line c (number_of z) (number_of z))
    lasting_indexes line c (Range x y) = lasting_bind (lasting_eval line x) (λ a. lasting_bind (lasting_eval line y) (λ b. lasting_ranging line c (number_of a) (number_of b)))

    lasting_gives_all : (line : ℕ) (c : Component) (es : Elements) → Lasting (gives_all call g unit line c es) (gives_all other (g + j) unit line c es)
    lasting_gives_all line c no_element = lasting_give tt
    lasting_gives_all line c (next_element e more) = lasting_bind (lasting_gives line c e) (λ _. lasting_gives_all line c more)

    -- arguments
    lasting_argument : (line : ℕ) (a : Actual) → Lasting (argument call g unit line a) (argument other (g + j) unit line a)
    lasting_argument line (Evaluated x) = lasting_bind (lasting_eval line x) (λ r. lasting_give (Value r))
    lasting_argument line (Accessed p) = lasting_bind (lasting_place line p) (λ n. lasting_give (argument_is.Variable n))

    lasting_arguments : (line : ℕ) (given : Actuals) → Lasting (arguments call g unit line given) (arguments other (g + j) unit line given)
    lasting_arguments line no_actual = lasting_give []
    lasting_arguments line (next_actual a more) = lasting_bind (lasting_argument line a) (λ x. lasting_bind (lasting_arguments line more) (λ xs. lasting_give (x ∷ xs)))

    -- members
    lasting_extended : (line : ℕ) (ms : List ℕ) (d : Designator) → Lasting (extended call g unit line ms d) (extended other (g + j) unit line ms d)
    lasting_extended line ms (Single x) = lasting_bind (lasting_eval line x) (λ a. lasting_members_found line (with_number (number_of a) ms))
    lasting_extended line ms (Range x y) =
        lasting_bind (lasting_eval line x) (λ a. lasting_bind (lasting_eval line y) (λ b. lasting_members_found line (with_numbers (number_of a) (number_of b) ms)))

    lasting_collected : (line : ℕ) (ms : List ℕ) (ds : Designators) → Lasting (collected call g unit line ms ds) (collected other (g + j) unit line ms ds)
    lasting_collected line ms no_member = lasting_give ms
    lasting_collected line ms (next_member d more) = lasting_bind (lasting_extended line ms d) (λ ns. lasting_collected line ns more)

  -- one piece that is written
  lasting_write_piece : (bytes : List ℕ) → Lasting (write_piece call g unit bytes) (write_piece other (g + j) unit bytes)
  lasting_write_piece bytes = lasting_spend (suc (length bytes)) (lasting_change (grows_events (piece_events bytes)))

  -- a value in so many places
  lasting_write_wide : (line : ℕ) (print : Print) (r : Result) (width : ℤ) → Lasting (write_wide call g unit line print r width) (write_wide other (g + j) unit line print r width)
  lasting_write_wide line print r (pos width) = lasting_write_piece (wide_text print width r)
  lasting_write_wide line print r (negsuc n) = lasting_stop (Error run_error.NEGATIVE_WIDTH unit line)

  -- an item
  lasting_write_item : (line : ℕ) (i : Item) → Lasting (write_item call g unit line i) (write_item other (g + j) unit line i)
  lasting_write_item line (Plain print x) = lasting_bind (lasting_eval line x) (λ r. lasting_write_piece (plain_text print r))
  lasting_write_item line (Wide print x w) =
      lasting_bind (lasting_eval line x) (λ r. lasting_bind (lasting_eval line w) (λ width. lasting_write_wide line print r (number_of width)))

  -- items
  lasting_write_items : (line : ℕ) (items : List Item) (ends_line : Bool) → Lasting (write_items call g unit line items ends_line) (write_items other (g + j) unit line items ends_line)
  lasting_write_items line [] false = lasting_spend 1 (lasting_give tt)
  lasting_write_items line [] true = lasting_bind (lasting_write_piece (10 ∷ [])) (λ _. lasting_spend 1 (lasting_give tt))
  lasting_write_items line (i ∷ is) ends_line = lasting_bind (lasting_write_item line i) (λ _. lasting_write_items line is ends_line)

  -- a value that is assigned
  lasting_assigned : (v : Component) (value : ValueOf) → Lasting (spend 1 (change (assigned v value))) (spend 1 (change (assigned v value)))
  lasting_assigned v value = lasting_spend 1 (lasting_change (λ s. grows_quiet s (assigned v value s) refl refl))

  -- an assignment to a variable that lives
  lasting_assign_living : (line : ℕ) (v : Component) (r : Result) → Lasting (assign_living call g unit line v r) (assign_living other (g + j) unit line v r)
  lasting_assign_living line v r = record { steady = steady_assign_living other lasts.steady (g + j) unit line v r; by = λ m k s. go m k s (suits (type_at v s) r) }
    where
      go : (m k : ℕ) (s : State) (b : Bool) → IsLonger k ((if b then spend 1 (change (assigned v (value_of r))) else stop (Error (misfit r) unit line)) m s) ((if b then spend 1 (change (assigned v (value_of r))) else stop (Error (misfit r) unit line)) (m + k) s)
      go m k s true =
          let x = lasting_assigned v (value_of r) in x.by m k s
      go m k s false = refl

  -- an assignment
  lasting_assign : (line : ℕ) (v : Component) (r : Result) → Lasting (assign call g unit line v r) (assign other (g + j) unit line v r)
  lasting_assign line v r = lasting_using _ v.allocation (lasting_assign_living line v r)

  lasting_assigns : (line : ℕ) (p : Place) (x : Expr) → Lasting (assigns call g unit line p x) (assigns other (g + j) unit line p x)
  lasting_assigns line p x = lasting_bind (lasting_place line p) (λ v. lasting_bind (lasting_eval line x) (λ r. lasting_assign line v r))

  -- a variable that becomes undefined
  lasting_undefines : (line : ℕ) (p : Place) → Lasting (undefines call g unit line p) (undefines other (g + j) unit line p)
  lasting_undefines line p = lasting_bind (lasting_place line p) (λ v. lasting_using _ v.allocation (lasting_spend 1 (lasting_change (λ s. grows_quiet s (assigned v Undefined s) refl refl))))

  -- the turns of a `for`, of which there may be more
  lasting_turns_to : (turns line : ℕ) (c : Control) (last : ℤ) {body body2 : Computation (Unit {0})} → Lasting body body2 → Lasting (turns_to call g unit turns line c last body) (turns_to other (g + j) unit (turns + j) line c last body2)
  lasting_turns_to zero line c last x =
      let z = steady_turns_to other lasts.steady (g + j) unit (zero + j) line c last x.steady in
      record { steady = z; by = λ m k s. z.by (m + k) s }
  lasting_turns_to (suc turns) line c last x =
      let one : suc turns + j ≡ suc (turns + j) = omega arith in
      rw one (lasting_bind x (λ _. lasting_bind (lasting_eval line (Read (entire c.variable))) (λ r. lasting_spend 1 (lasting_if (is_same last (number_of r)) (lasting_give tt) (lasting_bind (lasting_assigns line (entire c.variable) (next_value c)) (λ _. lasting_turns_to turns line c last x))))))

  -- the least member, for the control variable
  lasting_takes_least : (line : ℕ) (c : MemberControl) → Lasting (takes_least call g unit line c) (takes_least other (g + j) unit line c)
  lasting_takes_least line c =
      lasting_bind (lasting_place line (entire c.variable)) (λ v. lasting_bind (lasting_eval line (Read (entire c.rest))) (λ r. lasting_assign line v (result.Number (least_member (members_of r)))))

  -- a turn of a `for` over members
  lasting_member_turn : (line : ℕ) (c : MemberControl) {body body2 : Computation (Unit {0})} → Lasting body body2 → Lasting (member_turn call g unit line c body) (member_turn other (g + j) unit line c body2)
  lasting_member_turn line c x =
      lasting_bind (lasting_takes_least line c) (λ _. lasting_bind (lasting_place line (entire c.rest)) (λ v. lasting_bind (lasting_eval line (others c)) (λ r. lasting_bind x (λ _. lasting_assign line v r))))

  lasting_counts : (line : ℕ) (c : Control) {body body2 : Computation (Unit {0})} → Lasting body body2 → Lasting (counts call g unit line c body) (counts other (g + j) unit line c body2)
  lasting_counts line c x =
      lasting_bind (lasting_eval line (Read (entire c.last))) (λ b. lasting_bind (lasting_assigns line (entire c.variable) (Read (entire c.last))) (λ _. lasting_bind (lasting_assigns line (entire c.variable) (Read (entire c.initial))) (λ _. lasting_turns_to g line c (number_of b) x)))

  -- what a variable has, where it has anything
  lasting_looks : (v : Component) → Lasting (looks v) (looks v)
  lasting_looks v = record { steady = steady_looks v; by = λ m k t. refl }

  -- an assignment to a tag
  lasting_clears : (line : ℕ) (r : Component) (k : ℕ) → Lasting (clears call g unit line r k) (clears other (g + j) unit line r k)
  lasting_clears line r k =
      lasting_using _ r.allocation (lasting_spend 1 (lasting_bind (lasting_fetch (Error run_error.UNDEFINED_VALUE unit line) (type_at (component r k))) (λ t. lasting_spend (size_of t) (lasting_change (λ s. grows_quiet s (assigned (component r k) Undefined s) refl refl)))))

  lasting_clears_all : (line : ℕ) (r : Component) (k n : ℕ) → Lasting (clears_all call g unit line r k n) (clears_all other (g + j) unit line r k n)
  lasting_clears_all line r k zero = lasting_give tt
  lasting_clears_all line r k (suc n) = lasting_bind (lasting_clears line r k) (λ _. lasting_clears_all line r (suc k) n)

  lasting_tag_tested : (line : ℕ) (c : Tagging) (r : Component) (s : Selection) → Lasting (tag_tested call g unit line c r s) (tag_tested other (g + j) unit line c r s)
  lasting_tag_tested line c r s =
      lasting_bind (lasting_selected line r s.tag) (λ t. lasting_bind (lasting_selected line t 0) (λ v. lasting_bind (lasting_eval line (Read (entire c.value))) (λ z. lasting_if (is_within (type.Ordinal c.low c.high) (number_of z)) (lasting_give v) (lasting_stop (Error run_error.OUTSIDE_TYPE unit line)))))

  lasting_selected_by : (s : Selection) (o : Option Result) → Lasting (selected_by call g unit s o) (selected_by other (g + j) unit s o)
  lasting_selected_by s None = lasting_give None
  lasting_selected_by s (Some r) = lasting_selects call other g (g + j) unit s (number_of r) (λ j. lasting_give (Some j)) (lasting_give None)

  lasting_selected_now : (line : ℕ) (v : Component) (s : Selection) → Lasting (selected_now call g unit line v s) (selected_now other (g + j) unit line v s)
  lasting_selected_now line v s = lasting_using _ v.allocation (lasting_bind (lasting_looks v) (lasting_selected_by s))

  lasting_changes_variant : (line : ℕ) (c : Tagging) (r : Component) (s : Selection) (before : Option ℕ) → Lasting (changes_variant call g unit line c r s before) (changes_variant other (g + j) unit line c r s before)
  lasting_changes_variant line c r s before =
      lasting_bind (lasting_eval line (Read (entire c.value))) (λ z. lasting_bind (lasting_selected_by s (Some z)) (λ now. lasting_if (is_another before now) (lasting_clears_all line r (variant_number s 0) (variants_count s)) (lasting_give tt)))

  lasting_sets_tag : (line : ℕ) (c : Tagging) (r : Component) (s : Selection) → Lasting (sets_tag call g unit line c r s) (sets_tag other (g + j) unit line c r s)
  lasting_sets_tag line c r s =
      lasting_bind (lasting_selected line r s.tag) (λ t. lasting_bind (lasting_selected line t 0) (λ v. lasting_bind (lasting_eval line (Read (entire c.value))) (λ z. lasting_assign line v z)))

  lasting_assigns_tag : (line : ℕ) (c : Tagging) (p : Place) (s : Selection) (x : Expr) → Lasting (assigns_tag call g unit line c p s x) (assigns_tag other (g + j) unit line c p s x)
  lasting_assigns_tag line c p s x =
      lasting_bind (lasting_place line p) (λ r. lasting_bind (lasting_assigns line (entire c.value) x) (λ _. lasting_bind (lasting_tag_tested line c r s) (λ v. lasting_bind (lasting_selected_now line v s) (λ before. lasting_bind (lasting_changes_variant line c r s before) (λ _. lasting_sets_tag line c r s)))))

  -- the variable of a `with`
  lasting_names : (v : Entire) (c : Component) → Lasting (names call g unit v c) (names other (g + j) unit v c)
  lasting_names (OfUnit u k) c = lasting_spend 1 (lasting_change (λ s. grows_quiet s (with_bound u k c s) refl refl))
  lasting_names (OfRoutine zero k) c = lasting_spend 1 (lasting_change (λ s. grows_quiet s (with_own_bound k c s) refl refl))
  lasting_names (OfRoutine (suc up) k) c = lasting_cut

  mutual
    lasting_exec : (x : Stmt) → Lasting (exec call g unit x) (exec other (g + j) unit x)
    lasting_exec Empty = lasting_give tt
    lasting_exec (Compound ss) = lasting_exec_all ss
    lasting_exec (Assign line p x) = lasting_assigns line p x
    lasting_exec (AssignTag line c p s x) = lasting_assigns_tag line c p s x
    lasting_exec (If line x a b) =
        lasting_bind (lasting_eval line x) (λ r. lasting_if (is_true (number_of r)) (lasting_bind (lasting_exec a) (λ _. lasting_spend 1 (lasting_give tt))) (lasting_bind (lasting_exec b) (λ _. lasting_spend 1 (lasting_give tt))))
    lasting_exec (While line x s) = lasting_turns call other g (g + j) g j unit (lasting_eval line x) (lasting_exec s)
    lasting_exec (Repeat line ss x) = lasting_turns_until call other g (g + j) g j unit (lasting_exec_all ss) (lasting_eval line x)
    lasting_exec (For line c x y s) =
        lasting_bind (lasting_assigns line (entire c.initial) x) (λ _. lasting_bind (lasting_assigns line (entire c.last) y) (λ _.
        lasting_bind (lasting_bind (lasting_eval line (in_order c)) (λ r. lasting_if (is_true (number_of r)) (lasting_counts line c (lasting_exec s)) (lasting_give tt))) (λ _.
        lasting_bind (lasting_undefines line (entire c.variable)) (λ _. lasting_spend 1 (lasting_give tt)))))
    lasting_exec (ForIn line c x s) =
        lasting_bind (lasting_assigns line (entire c.rest) x) (λ _. lasting_bind (lasting_turns call other g (g + j) g j unit (lasting_eval line (has_more c)) (lasting_member_turn line c (lasting_exec s))) (λ _. lasting_undefines line (entire c.variable)))
    lasting_exec (With line v of p s) = lasting_bind (lasting_place line p) (λ c. lasting_bind (lasting_names v c) (λ _. lasting_exec s))
    lasting_exec (Procedure line callee given) =
        lasting_bind (lasting_arguments line given) (λ xs. lasting_bind (lasts.routine unit line callee xs) (λ results. lasting_spend 1 (lasting_give tt)))
    lasting_exec (Case line x arms o) = lasting_bind (lasting_eval line x) (λ r. lasting_exec_arms (number_of r) arms (lasting_exec_other line o))
    lasting_exec (Halt line) = lasting_stop Halted
    lasting_exec (Write line items ends_line) = lasting_write_items line items ends_line

    lasting_exec_all : (ss : Stmts) → Lasting (exec_all call g unit ss) (exec_all other (g + j) unit ss)
    lasting_exec_all none = lasting_give tt
    lasting_exec_all (next s ss) = lasting_bind (lasting_exec s) (λ _. lasting_exec_all ss)

    lasting_exec_arms : (z : ℤ) (arms : Arms) {fails fails2 : Computation (Unit {0})} → Lasting fails fails2 → Lasting (exec_arms call g unit z arms fails) (exec_arms other (g + j) unit z arms fails2)
    lasting_exec_arms z no_arm x = x
    lasting_exec_arms z (next_arm ranges s arms) x = lasting_tried call other g (g + j) unit z ranges (lasting_bind (lasting_exec s) (λ _. lasting_spend 1 (lasting_give tt))) (lasting_exec_arms z arms x)

    lasting_exec_other : (line : ℕ) (o : Other) → Lasting (exec_other call g unit line o) (exec_other other (g + j) unit line o)
    lasting_exec_other line no_other = lasting_stop (Error run_error.NO_CASE unit line)
    lasting_exec_other line (otherwise_do ss) = lasting_bind (lasting_exec_all ss) (λ _. lasting_spend 1 (lasting_give tt))

  -- a type that is elaborated
  lasting_elaborated : (t : TypeValue) → Lasting (elaborated call g unit t) (elaborated other (g + j) unit t)
  lasting_elaborated t = lasting_bind {c = change (with_type t)} {f = λ _. spend 1 (give t)} (lasting_change (grows_type t)) (λ _. lasting_spend 1 (lasting_give t))

  lasting_elaborated_where : (o : Option TypeValue) → Lasting (elaborated_where call g unit o) (elaborated_where other (g + j) unit o)
  lasting_elaborated_where None = lasting_cut
  lasting_elaborated_where (Some t) = lasting_elaborated t

  -- one that gets an initial state
  lasting_begins : (line : ℕ) (t : TypeValue) (r : Result) (u : TypeValue) → Lasting (begins call g unit line t r u) (begins other (g + j) unit line t r u)
  lasting_begins line t r u =
      lasting_if (suits (Some t) r)
      (lasting_bind {c = change (with_type u)} {f = λ _. spend (suc (size_of t)) (give u)} (lasting_change (grows_type u)) (λ _. lasting_spend (suc (size_of t)) (lasting_give u)))
      (lasting_stop (Error (misfit r) unit line))

  lasting_begins_where : (line : ℕ) (t : TypeValue) (r : Result) (o : Option Start) → Lasting (begins_where call g unit line t r o) (begins_where other (g + j) unit line t r o)
  lasting_begins_where line t r None = lasting_cut
  lasting_begins_where line t r (Some start) = lasting_begins line t r (type.Initial t start)

  module _ (line : ℕ) where
    mutual
      lasting_elaborate : (d : Denoter) → Lasting (elaborate call g unit line d) (elaborate other (g + j) unit line d)
      lasting_elaborate (Required r) = lasting_elaborated (required_type r)
      lasting_elaborate (Named index []) = lasts.named_type unit line index
      lasting_elaborate (Named index (b ∷ bs)) = lasting_cut
      lasting_elaborate (Subrange host low high) = lasting_elaborated_where (subrange_type low high)
      lasting_elaborate (Enumeration names) = lasting_elaborated_where (enumeration_type names)
      lasting_elaborate (Array index component) =
          lasting_bind (lasting_elaborate index) (λ t. lasting_bind (lasting_elaborate component) (λ u. lasting_elaborated_where (array_type (Some t) (Some u))))
      lasting_elaborate (Record ds) = lasting_bind (lasting_elaborate_each ds) (λ ts. lasting_elaborated (type.Record ts))
      lasting_elaborate (Set base) = lasting_bind (lasting_elaborate base) (λ t. lasting_elaborated_where (set_type (Some t)))
      lasting_elaborate (Initial of value) =
          lasting_bind (lasting_elaborate of) (λ t. lasting_bind (lasting_eval line value) (λ r. lasting_begins_where line t r (start_from r)))

      lasting_elaborate_each : (ds : Denoters) → Lasting (elaborate_each call g unit line ds) (elaborate_each other (g + j) unit line ds)
      lasting_elaborate_each no_denoter = lasting_give type.no_component
      lasting_elaborate_each (next_denoter d ds) = lasting_bind (lasting_elaborate d) (λ t. lasting_bind (lasting_elaborate_each ds) (λ ts. lasting_give (type.next_component t ts)))

  -- a variable that is allocated
  lasting_allocate : (number : ℕ) (t : TypeValue) → Lasting (allocate unit number t) (allocate unit number t)
  lasting_allocate number t =
      lasting_bind {c = change (counted t)} {f = λ _. spend (size_of t) (change (made unit number t))} (lasting_change (grows_counted t)) (λ _. lasting_spend (size_of t) (lasting_change (grows_made unit number t)))

  -- a variable
  lasting_make : (number : ℕ) (v : UnitVariable) → Lasting (make call g unit number v) (make other (g + j) unit number v)
  lasting_make number v = lasting_bind (lasting_elaborate v.line (denoter_of v.denoter)) (λ t. lasting_allocate number t)

  -- variables
  lasting_make_all : (number : ℕ) (vs : List UnitVariable) → Lasting (make_all call g unit number vs) (make_all other (g + j) unit number vs)
  lasting_make_all number [] = lasting_give tt
  lasting_make_all number (v ∷ vs) = lasting_bind (lasting_make number v) (λ _. lasting_make_all (suc number) vs)

  -- a variable of a routine that is allocated
  lasting_allocate_own : (number : ℕ) (t : TypeValue) → Lasting (allocate_own number t) (allocate_own number t)
  lasting_allocate_own number t =
      lasting_bind {c = change (counted t)} {f = λ _. spend (size_of t) (change (made_own number t))} (lasting_change (grows_counted t)) (λ _. lasting_spend (size_of t) (lasting_change (grows_made_own number t)))

  -- a variable of a routine
  lasting_make_own : (number : ℕ) (v : UnitVariable) → Lasting (make_own call g unit number v) (make_own other (g + j) unit number v)
  lasting_make_own number v = lasting_bind (lasting_elaborate v.line (denoter_of v.denoter)) (λ t. lasting_allocate_own number t)

  -- its variables
  lasting_make_all_own : (number : ℕ) (vs : List UnitVariable) → Lasting (make_all_own call g unit number vs) (make_all_own other (g + j) unit number vs)
  lasting_make_all_own number [] = lasting_give tt
  lasting_make_all_own number (v ∷ vs) = lasting_bind (lasting_make_own number v) (λ _. lasting_make_all_own (suc number) vs)

-- the start of a unit
lasting_start_of : (call other : Handler) → IsLastingHandler call other → (g j : ℕ) (u : TypedUnit) → Lasting (start_of call g u) (start_of other (g + j) u)
lasting_start_of call other lasts g j u = lasting_spend 1 (lasting_bind (lasting_make_all call other lasts g j u.name 0 (made_by_unit u)) (λ _. lasting_exec call other lasts g j u.name (stmt_of u.start)))

-- its stop
lasting_stop_of : (call other : Handler) → IsLastingHandler call other → (g j : ℕ) (u : TypedUnit) → Lasting (stop_of call g u) (stop_of other (g + j) u)
lasting_stop_of call other lasts g j u = lasting_spend 1 (lasting_exec call other lasts g j u.name (stmt_of u.stop))

-- the stops of units
lasting_stops_of : (call other : Handler) → IsLastingHandler call other → (g j : ℕ) (us : List TypedUnit) → Lasting (stops_of call g us) (stops_of other (g + j) us)
lasting_stops_of call other lasts g j [] = lasting_stop Normal
lasting_stops_of call other lasts g j (u ∷ us) = lasting_bind (lasting_stop_of call other lasts g j u) (λ _. lasting_stops_of call other lasts g j us)

-- the starts of units, and what is behind them
lasting_starts_of : (call other : Handler) → IsLastingHandler call other → (g j : ℕ) (us : List TypedUnit) {c d : Computation (Unit {0})} → Lasting c d → Lasting (starts_of call g us c) (starts_of other (g + j) us d)
lasting_starts_of call other lasts g j [] h = h
lasting_starts_of call other lasts g j (u ∷ us) h = lasting_bind (lasting_start_of call other lasts g j u) (λ _. lasting_starts_of call other lasts g j us h)

-- while a call is under way
pub lasting_in_call : {A : Type 0} (words levels : ℕ) (x : Call) {c d : Computation A} → Lasting c d → Lasting (in_call words levels x c) (in_call words levels x d)
lasting_in_call {A = A} words levels x {c = c} {d = d} p = record { steady = steady_in_call words levels x p.steady; by = λ m k s. go k s (c m (entered words levels x s)) (d (m + k) (entered words levels x s)) (p.by m k (entered words levels x s)) }
  where
    after : (s t : State) (o : Outcome A) → Grows t (state_of o) → Grows t (state_of (given_back s o))
    after s t (Gives left a u) h = record { events = h.events; lost = h.lost }
    after s t (Ends left e u) h = h
    after s t (Cut u) h = h

    go : (k : ℕ) (s : State) (o r : Outcome A) → IsLonger k o r → IsLonger k (given_back s o) (given_back s r)
    go k s (Gives left a t) r is = ap (given_back s) is
    go k s (Ends left e t) r is = ap (given_back s) is
    go k s (Cut t) r is = after s t r is

-- the first value of a variable
lasting_initialized : (unit : List ℕ) (line : ℕ) (t : TypeValue) (r : Result) → Lasting (initialized unit line t r) (initialized unit line t r)
lasting_initialized unit line t r = lasting_if (suits (Some t) r) (lasting_change (λ s. grows_quiet s (newest_assigned (value_of r) s) refl refl)) (lasting_stop (Error (misfit r) unit line))

module _ (call other : Handler) (lasts : IsLastingHandler call other) (g j : ℕ) (unit : List ℕ) where
  -- a formal parameter that takes its argument
  lasting_takes_value : (line number : ℕ) (f : Formal) (r : Result)
      → Lasting (bind (elaborate call g unit line (denoter_of f.denoter)) (λ t. bind (allocate_own number t) (λ _. initialized unit line t r))) (bind (elaborate other (g + j) unit line (denoter_of f.denoter)) (λ t. bind (allocate_own number t) (λ _. initialized unit line t r)))
  lasting_takes_value line number f r =
      lasting_bind (lasting_elaborate call other lasts g j unit line (denoter_of f.denoter)) (λ t. lasting_bind (lasting_allocate_own call other lasts g j unit number t) (λ _. lasting_initialized unit line t r))

  lasting_takes_variable : (number : ℕ) (v : Component) → Lasting (spend 1 (change (with_own_bound number v))) (spend 1 (change (with_own_bound number v)))
  lasting_takes_variable number v = lasting_spend 1 (lasting_change (λ s. grows_quiet s (with_own_bound number v s) refl refl))

  lasting_takes_by : (m : FormalMode) (line number : ℕ) (f : Formal) (x : Argument) → Lasting (takes_by call g unit m line number f x) (takes_by other (g + j) unit m line number f x)
  lasting_takes_by mode.Value line number f (Value r) = lasting_takes_value line number f r
  lasting_takes_by mode.Value line number f (argument_is.Variable n) = lasting_cut
  lasting_takes_by mode.ProtectedValue line number f (Value r) = lasting_takes_value line number f r
  lasting_takes_by mode.ProtectedValue line number f (argument_is.Variable n) = lasting_cut
  lasting_takes_by mode.Variable line number f (Value r) = lasting_cut
  lasting_takes_by mode.Variable line number f (argument_is.Variable n) = lasting_takes_variable number n
  lasting_takes_by mode.ProtectedVariable line number f (Value r) = lasting_cut
  lasting_takes_by mode.ProtectedVariable line number f (argument_is.Variable n) = lasting_takes_variable number n

  lasting_takes_all : (line number : ℕ) (fs : List Formal) (xs : List Argument) → Lasting (takes_all call g unit line number fs xs) (takes_all other (g + j) unit line number fs xs)
  lasting_takes_all line number [] [] = lasting_give tt
  lasting_takes_all line number [] (x ∷ xs) = lasting_cut
  lasting_takes_all line number (f ∷ fs) [] = lasting_cut
  lasting_takes_all line number (f ∷ fs) (x ∷ xs) = lasting_bind (lasting_takes_by f.mode line number f x) (λ _. lasting_takes_all line (suc number) fs xs)

-- what a routine gives
lasting_results_given : (unit : List ℕ) (line number : ℕ) (r : Option RoutineResult) → Lasting (results_given unit line number r) (results_given unit line number r)
lasting_results_given unit line number None = lasting_give []
lasting_results_given unit line number (Some r) =
    lasting_bind (lasting_fetch (Error run_error.UNDEFINED_VALUE unit line) (own_variable 0 number)) (λ v.
    lasting_using (Error run_error.DISPOSED unit line) v.allocation (lasting_bind (lasting_fetch_or (λ s. Error (unresulting (type_at v s)) unit line) (result_of v)) (λ r. lasting_give (r ∷ []))))

-- a routine
lasting_runs_routine : (call other : Handler) → IsLastingHandler call other → (g j : ℕ) (unit : List ℕ) (r : UnitRoutine) (xs : List Argument) → Lasting (runs_routine call g unit r xs) (runs_routine other (g + j) unit r xs)
lasting_runs_routine call other lasts g j unit r xs =
    lasting_bind (lasting_takes_all call other lasts g j unit r.line 0 r.formals xs)
    (λ _. lasting_bind (lasting_make_all_own call other lasts g j unit (length r.formals) (made_variables r))
    (λ _. lasting_bind (lasting_exec call other lasts g j unit (stmt_of r.block)) (λ _. lasting_results_given unit r.line (length r.formals) r.result)))

lasting_routine_does : (call other : Handler) → IsLastingHandler call other → (g j : ℕ) (from : List ℕ) (line : ℕ) (callee : Callee) (o : Option UnitRoutine) (xs : List Argument)
    → Lasting (routine_does call g from line callee o xs) (routine_does other (g + j) from line callee o xs)
lasting_routine_does call other lasts g j from line callee None xs = lasting_cut
lasting_routine_does call other lasts g j from line callee (Some r) xs =
    lasting_in_call activation_words callee.levels (activation r.name from line) (lasting_spend (suc (weights_of xs)) (lasting_runs_routine call other lasts g j callee.unit r xs))

-- the elaboration of a type
lasting_type_does : (call other : Handler) → IsLastingHandler call other → (g j : ℕ) (unit : List ℕ) (line : ℕ) (o : Option UnitType)
    → Lasting (type_does call g unit line o) (type_does other (g + j) unit line o)
lasting_type_does call other lasts g j unit line None = lasting_cut
lasting_type_does call other lasts g j unit line (Some t) =
    lasting_in_call 0 0 (activation [] unit line) (lasting_spend 1 (lasting_elaborate call other lasts g j unit (line_where t.line) (definition_of t)))

-- no steps for anything, and then some
lasting_from_cut : {A : Type 0} {c : Computation A} → Steady c → Lasting cut c
lasting_from_cut steady = record { steady = steady; by = λ m k s. steady.by (m + k) s }

-- where calls may nest deeper
lasting_handler_of : (units : List TypedUnit) (depth more : ℕ) → IsLastingHandler (handler_of units depth) (handler_of units (depth + more))
lasting_handler_of units zero more =
    let steady = steady_handler_of units (0 + more) in
    record {
      steady = steady;
      routine = λ from line callee arguments. lasting_from_cut (steady.routine from line callee arguments);
      named_type = λ from line index. lasting_from_cut (steady.named_type from line index);
    }
lasting_handler_of units (suc depth) more =
    let one : suc depth + more ≡ suc (depth + more) = omega arith in
    let below = lasting_handler_of units depth more in
    rw one (record {
      steady = steady_handler_of units (suc (depth + more));
      routine = λ from line callee arguments. lasting_routine_does (handler_of units depth) (handler_of units (depth + more)) below depth more from line callee (routine_in units callee.unit callee.number) arguments;
      named_type = λ from line index. lasting_type_does (handler_of units depth) (handler_of units (depth + more)) below depth more from line (type_in units from index);
    })

-- The meaning of units with more steps.
pub meanings_last : MeaningsLast
meanings_last units steps more =
    let calls = lasting_handler_of units steps more in
    let stops = lasting_stops_of (handler_of units steps) (handler_of units (steps + more)) calls steps more (stopped_units units) in
    let x = lasting_starts_of (handler_of units steps) (handler_of units (steps + more)) calls steps more units stops in
    x.by steps more first_state
