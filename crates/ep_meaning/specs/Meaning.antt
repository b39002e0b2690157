-- The meaning of typed trees, by recursion on them, in counted steps.
use Rattle.std.specs.Str.{bytes_eq}
use Rattle.std.specs.Prelude.{ℕ, ℤ, pos, negsuc, zero, suc, ◌+◌, int_le, Bool, true, false, not, List, [], ◌∷◌, length}
use Rattle.std.specs.Prelude.{drop, reverse, slice_get, Option, Some, None, if◌then◌else◌}
use Rattle.ep_meaning.specs.Calls.{Argument, Value, Handler, activation_words, in_call}
use Rattle.ep_meaning.specs.Calls as argument_is
use Rattle.ep_meaning.specs.Controls.{in_order, next_value, has_more, others}
use Rattle.ep_typed.specs.Denoters.{required_type, subrange_type, enumeration_type, array_type, set_type}
use Rattle.ep_typed.specs.Denoters.{definition_of}
use Rattle.ep_typed.specs.Trees.{Denoter, Required, Named, Subrange, Enumeration, Array, Record, Denoters, no_denoter}
use Rattle.ep_typed.specs.Trees.{next_denoter, Set, Initial, Callee, Place, Variable, Own, Standard, Indexed, Field}
use Rattle.ep_typed.specs.Trees.{Variant, Expr, Constant, Text, Read, One, Two, Short, Step, Function, IndexedValue}
use Rattle.ep_typed.specs.Trees.{FieldValue, VariantValue, SetOf, OnSets, Card, Designator, Single, Range, Designators}
use Rattle.ep_typed.specs.Trees.{no_member, next_member, Actual, Evaluated, Accessed, Actuals, no_actual, next_actual}
use Rattle.ep_typed.specs.Trees.{Item, Plain, Wide, Stmt, Stmts, Empty, Compound, Assign, Tagging, AssignTag, If}
use Rattle.ep_typed.specs.Trees.{While, Repeat, Control, For, MemberControl, ForIn, With, Procedure, Halt, Write, none}
use Rattle.ep_typed.specs.Trees.{next, Case, Arms, no_arm, next_arm, Other, no_other, otherwise_do, Entire, OfUnit}
use Rattle.ep_typed.specs.Trees.{OfRoutine, entire, SetConstant, Structured, Element, AtIndex, AtField, SameField}
use Rattle.ep_typed.specs.Trees.{AtRanges, AtIndexes, Elements, no_element, next_element}
use Rattle.ep_typed.specs.Routines.{made_variables, made_by_unit, routine_numbered}
use Rattle.ep_typed.specs.Viewed.{denoter_of, stmt_of}
use Rattle.ep_meaning.specs.Steps.{Call, Normal, Halted, Error, Outcome, Computation, give, cut, stop, ◌>>=◌, spend}
use Rattle.ep_meaning.specs.Steps.{change, fetch, fetch_or, with_events, assigned, type_at, whole, Component}
use Rattle.ep_meaning.specs.Steps.{component, component_number, is_number, tag_of, with_type, allocate, allocate_own}
use Rattle.ep_meaning.specs.Steps.{own_variable, newest_assigned, with_bound, with_own_bound, standard_file}
use Rattle.ep_meaning.specs.Steps.{first_state, using}
use Rattle.ep_values.specs.Values.{Undefined}
use Rattle.ep_typed.specs.Selections.{variant_number, variants_count}
use Rattle.ep_values.specs.TypeValues.{is_within, size_of}
use Rattle.ep_values.specs.Operations.{Answer, Number, Fault, unary_answer, binary_answer, step_answer, is_same}
use Rattle.ep_values.specs.Operations.{is_true, decides}
use Rattle.ep_typed.specs.CaseRanges.{is_in}
use Rattle.ep_meaning.specs.Nameless.{begins_nameless, fills_all, takes_nameless, with_depth}
use Rattle.ep_values.specs.Printing.{Result, Bytes, number_of, members_of, line_end, plain_text, wide_text}
use Rattle.ep_values.specs.Printing.{piece_events}
use Rattle.ep_values.specs.Printing as result
use Rattle.ep_meaning.specs.Results.{misfit, part_at, part_of, result_of, start_from, suits, unresulting, value_of}
use Rattle.ep_meaning.specs.Results.{weight_of}
use Rattle.ep_values.specs.SetOperations.{set_answer}
use Rattle.ep_values.specs.Sets.{least_member, with_number, with_numbers}
use Rattle.ep_typed.specs.declared.interface.Formal.{Formal}
use Rattle.ep_typed.specs.declared.interface.FormalMode.{FormalMode}
use Rattle.ep_typed.specs.declared.interface.FormalMode.TheVariants as mode
use Rattle.ep_typed.specs.declared.interface.RoutineResult.{RoutineResult}
use Rattle.ep_values.specs.declared.operations.Print.{Print}
use Rattle.ep_values.specs.declared.run_error.TheConstants as run_error
use Rattle.ep_typed.specs.declared.unit.UnitRoutine.{UnitRoutine}
use Rattle.ep_typed.specs.declared.tree.CaseRange.{CaseRange}
use Rattle.ep_typed.specs.declared.tree.Selection.{Selection}
use Rattle.ep_typed.specs.declared.unit.UnitType.{UnitType}
use Rattle.ep_typed.specs.declared.unit.UnitVariable.{UnitVariable}
use Rattle.ep_values.specs.TypeValues as type
use Rattle.ep_values.specs.TypeValues.{TypeValue, ComponentTypes, Start, set_size}
use Rattle.ep_typed.specs.declared.unit.Unit.{Unit as TypedUnit}

-- what a variable gives that is a result, where it is defined
abbrev pub looks : Component → Computation (Option Result)
looks v m s = give (result_of v s) m s

-- whether another variant is selected than before, or none was or is
abbrev pub is_another : Option ℕ → Option ℕ → Bool
is_another None now = true
is_another (Some j) None = true
is_another (Some j) (Some k) = not (is_number j k)

-- The forms at a line of a unit, where `call` does calls, and `g` is the most turns that a loop makes.
module _ (call : Handler) (g : ℕ) (unit : List ℕ) where
  abbrev pub answered : ℕ → Answer → Computation ℤ
  answered line (Number z) = give z
  answered line (Fault error) = stop (Error error unit line)

  -- the component of a variable at an index: an error where the variable has ended, and else where the index is
  -- outside of the bounds
  abbrev pub indexed : ℕ → Component → ℤ → Computation Component
  indexed line c z =
      using (Error run_error.DISPOSED unit line) c.allocation
      (fetch (Error run_error.INDEX unit line) (λ s. component_number (type_at c s) z)
      >>= λ k. spend 1 (give (component c k)))

  -- the component of a record with this number, likewise
  abbrev pub selected : ℕ → Component → ℕ → Computation Component
  selected line c k = using (Error run_error.DISPOSED unit line) c.allocation (spend 1 (give (component c k)))

  -- The ranges of some labels are tried in order, up to the first one that has the value. One that is tried spends a
  -- step.
  abbrev pub tried : {A : Type 0} → ℤ → List CaseRange → Computation A → Computation A → Computation A
  tried z [] fits fails = fails
  tried z (r ∷ rs) fits fails = spend 1 (if is_in r z then fits else tried z rs fits fails)

  -- What is done with the number of the variant that a value selects (ISO 10206, 6.4.3.4), of variants with these
  -- labels, so
  -- many of which are before them: the labels of all are tried in order. Where none has the value, the last thing is
  -- done.
  abbrev pub selecting : {A : Type 0} → ℤ → List (List CaseRange) → ℕ → (ℕ → Computation A) → Computation A
      → Computation A
  selecting z [] k chosen fails = fails
  selecting z (ranges ∷ more) k chosen fails = tried z ranges (chosen k) (selecting z more (suc k) chosen fails)

  -- the same of a variant part, which a variant may complete that is selected where no label has the value
  abbrev pub selects : {A : Type 0} → Selection → ℤ → (ℕ → Computation A) → Computation A → Computation A
  selects s z chosen fails = selecting z s.labels 0 chosen (if s.completed then chosen (length s.labels) else fails)

  -- the variant of a record with this number, where it is the one that is selected, and else an error
  abbrev pub chosen : ℕ → Component → Selection → ℕ → ℕ → Computation Component
  chosen line c s k j =
      if is_number j k then selected line c (variant_number s k) else stop (Error run_error.INACTIVE_VARIANT unit line)

  -- The variant of a record with this number (ISO 10206, 6.5.3.3): an error where the record has ended, and else where
  -- its tag
  -- is undefined, or selects another variant or none.
  abbrev pub active : ℕ → Component → Selection → ℕ → Computation Component
  active line c s k =
      using (Error run_error.DISPOSED unit line) c.allocation
      (fetch (Error run_error.INACTIVE_VARIANT unit line) (result_of (tag_of c s))
      >>= λ r. selects s (number_of r) (chosen line c s k) (stop (Error run_error.INACTIVE_VARIANT unit line)))

  -- the value of a variable: an error where its allocation has ended, and else where the value is undefined
  abbrev pub read : ℕ → Component → Computation Result
  read line c =
      using (Error run_error.DISPOSED unit line) c.allocation
      (fetch (Error run_error.UNDEFINED_VALUE unit line) (result_of c)
      >>= λ r. spend (suc (weight_of r)) (give r))

  -- the component with this number of a result: an error where it is undefined
  abbrev pub part : ℕ → Result → ℕ → Computation Result
  part line r k =
      fetch (Error run_error.UNDEFINED_VALUE unit line) (λ s. part_of r k)
      >>= λ p. spend (suc (weight_of p)) (give p)

  -- the one at an index: an error where that is outside of the bounds
  abbrev pub part_indexed : ℕ → Result → ℤ → Computation Result
  part_indexed line r z = fetch (Error run_error.INDEX unit line) (λ s. part_at r z) >>= λ k. part line r k

  -- the value of a tag, by its record, whose one component it is: an error of variants where it is undefined
  abbrev pub tag_read : ℕ → Result → Computation Result
  tag_read line t =
      fetch (Error run_error.INACTIVE_VARIANT unit line) (λ s. part_of t 0)
      >>= λ z. spend (suc (weight_of z)) (give z)

  -- the variant of a result with this number, where it is the one that is selected, and else an error
  abbrev pub chosen_part : ℕ → Result → Selection → ℕ → ℕ → Computation Result
  chosen_part line r s k j =
      if is_number j k then part line r (variant_number s k) else stop (Error run_error.INACTIVE_VARIANT unit line)

  -- The one with this number: what the result weighs is spent, and an error comes where its tag is undefined, or
  -- selects another
  -- variant or none.
  abbrev pub active_part : ℕ → Result → Selection → ℕ → Computation Result
  active_part line r s k =
      spend (suc (weight_of r))
      (part line r s.tag >>= λ t. tag_read line t
      >>= λ z. selects s (number_of z) (chosen_part line r s k) (stop (Error run_error.INACTIVE_VARIANT unit line)))

  -- what a call of a function gives, which has one result; what is none has no meaning
  abbrev pub one_result : List Result → Computation Result
  one_result [] = cut
  one_result (r ∷ []) = spend (suc (weight_of r)) (give r)
  one_result (r ∷ more) = cut

  -- the members, or an error where one is none of the ordinals that may be members
  abbrev pub members_found : ℕ → Option (List ℕ) → Computation (List ℕ)
  members_found line o = fetch (Error run_error.SET_MEMBER unit line) (λ s. o)

  -- The component of a structured value under way that is given next, at an index: an error where that is outside of
  -- the
  -- bounds. No step is spent for it.
  abbrev pub located : ℕ → Component → ℤ → Computation Component
  located line c z =
      using (Error run_error.DISPOSED unit line) c.allocation
      (fetch (Error run_error.INDEX unit line) (λ s. component_number (type_at c s) z)
      >>= λ k. give (component c k))

  -- the one at the first index in some ranges
  abbrev pub first_located : ℕ → Component → List CaseRange → Computation Component
  first_located line c [] = cut
  first_located line c (r ∷ more) = located line c r.low

  -- the one to which steps lead, each of which spends a step as the place of a field does
  abbrev pub reached : ℕ → Component → List ℕ → Computation Component
  reached line c [] = give c
  reached line c (k ∷ ks) = selected line c k >>= λ d. reached line d ks

  -- It is given a value, as an assignment gives one, which spends a step and what the value weighs.
  abbrev pub given_living : ℕ → Component → Result → Computation (Unit {0})
  given_living line c r m s =
      (if suits (type_at c s) r then spend (suc (weight_of r)) (change (assigned c (value_of r)))
      else stop (Error (misfit r) unit line))
      m s

  abbrev pub given : ℕ → Component → Result → Computation (Unit {0})
  given line c r = using (Error run_error.DISPOSED unit line) c.allocation (given_living line c r)

  -- Indexes from one to another, both of which are tested, the first one first. That spends a step, and a call is
  -- under way on the
  -- machine, whose depth counts.
  abbrev pub ranging : ℕ → Component → ℤ → ℤ → Computation CaseRange
  ranging line c low high =
      change with_depth >>= λ _. located line c low >>= λ _. located line c high
      >>= λ _. spend 1 (give (record { low = low; high = high }))

  -- The components with the indexes of a range are given a value: the first one, and then all of them have what it
  -- has. There are
  -- none where the first index is above the last one.
  abbrev pub given_from : ℕ → Component → CaseRange → Result → Computation (Unit {0})
  given_from line c range r =
      if int_le range.low range.high
      then (located line c range.low >>= λ d. change with_depth >>= λ _. given line d r
      >>= λ _. fills_all c r (range ∷ []))
      else give tt

  -- That spends a step and what the value weighs besides, and a call is under way on the machine.
  abbrev pub given_each : ℕ → Component → CaseRange → Result → Computation (Unit {0})
  given_each line c range r = spend (suc (weight_of r)) (change with_depth >>= λ _. given_from line c range r)

  -- what it is when all is given, which ends it
  abbrev pub taken : ℕ → ℕ → Computation Result
  taken line n = takes_nameless (Error run_error.DISPOSED unit line) (Error run_error.UNDEFINED_VALUE unit line) n

  abbrev mutual
    -- a place is a variable; an undefined value where that is not made yet
    pub place : ℕ → Place → Computation Component
    place line (Variable u k) =
        fetch (Error run_error.UNDEFINED_VALUE unit line) (λ s. s.variables u k) >>= λ c. spend 1 (give c)
    place line (Own levels k) =
        fetch (Error run_error.UNDEFINED_VALUE unit line) (own_variable levels k) >>= λ c. spend 1 (give c)
    place line (Standard file) = spend 1 (give (whole (standard_file file)))
    place line (Indexed p x) = place line p >>= λ c. eval line x >>= λ r. indexed line c (number_of r)
    place line (Field p number) = place line p >>= λ c. selected line c number
    place line (Variant p selection number) = place line p >>= λ c. active line c selection number

    -- an expression spends a step and its weight when it is done
    pub eval : ℕ → Expr → Computation Result
    eval line (Constant z) = spend 1 (give (result.Number z))
    eval line (Text bytes) = spend (suc (length bytes)) (give (Bytes bytes))
    eval line (Read p) = place line p >>= read line
    eval line (One operation x) =
        eval line x >>= λ a. answered line (unary_answer operation (number_of a))
        >>= λ z. spend 1 (give (result.Number z))
    eval line (Two operation x y) =
        eval line x >>= λ a. eval line y
        >>= λ b. answered line (binary_answer operation (number_of a) (number_of b))
        >>= λ z. spend 1 (give (result.Number z))
    eval line (Short operation x y) =
        eval line x
        >>= λ a. if decides operation (number_of a) then spend 1 (give a)
        else eval line y >>= λ b. spend 1 (give b)
    eval line (Step down low high x y) =
        eval line x >>= λ a. eval line y
        >>= λ b. answered line (step_answer down low high (number_of a) (number_of b))
        >>= λ z. spend 1 (give (result.Number z))
    eval line (Function callee given) =
        arguments line given >>= λ xs. call.routine unit line callee xs >>= one_result
    eval line (IndexedValue x y) = eval line x >>= λ a. eval line y >>= λ b. part_indexed line a (number_of b)
    eval line (FieldValue x number) = eval line x >>= λ a. part line a number
    eval line (VariantValue x selection number) = eval line x >>= λ a. active_part line a selection number
    -- a constant that is a set spends as many steps besides as it has words
    eval line (SetConstant ms) = spend (suc set_size) (give (result.Members ms))
    -- a set constructor spends its step when it is begun
    eval line (SetOf ds) = spend 1 (collected line [] ds >>= λ ms. give (result.Members ms))
    eval line (OnSets operation x y) =
        eval line x >>= λ a. eval line y >>= λ b. spend 1 (give (set_answer operation a b))
    eval line (Card x) = eval line x >>= λ a. spend 1 (give (result.Number (pos (length (members_of a)))))
    -- a structured value: its type is elaborated, a variable of it is made without a name, is given its components,
    -- and is taken
    eval line (Structured of es) =
        call.named_type unit line of >>= λ t. begins_nameless t >>= λ n. gives_all line (whole n) es
        >>= λ _. taken line n

    -- a component of a structured value under way: which one it is, and then its value
    pub gives : ℕ → Component → Element → Computation (Unit {0})
    gives line c (AtIndex x y) =
        eval line x >>= λ z. located line c (number_of z) >>= λ d. eval line y >>= given line d
    gives line c (AtField steps x) = reached line c steps >>= λ d. eval line x >>= given line d
    -- between the two components a call is under way on the machine, whose depth counts
    gives line c (SameField from to) =
        reached line c to >>= λ d. change with_depth >>= λ _. reached line c from >>= λ source. read line source
        >>= given line d
    -- the first of the components is given the value, and then all of them have it
    gives line c (AtRanges ranges x) =
        first_located line c ranges >>= λ d. eval line x >>= λ r. given line d r >>= λ _. fills_all c r ranges
    gives line c (AtIndexes ds x) = given_at line c ds (eval line x) >>= λ r. give tt

    -- The indexes of an element come first, in order, and then its value, which the components at them are given. The
    -- last ones
    -- get it first, which nothing can tell (own).
    pub given_at : ℕ → Component → Designators → Computation Result → Computation Result
    given_at line c no_member value = value
    given_at line c (next_member d ds) value =
        indexes line c d >>= λ range. given_at line c ds value >>= λ r. given_each line c range r >>= λ _. give r

    -- an index alone is a range of its own
    pub indexes : ℕ → Component → Designator → Computation CaseRange
    indexes line c (Single x) = eval line x >>= λ z. ranging line c (number_of z) (number_of z)
    indexes line c (Range x y) =
        eval line x >>= λ a. eval line y >>= λ b. ranging line c (number_of a) (number_of b)

    -- in order
    pub gives_all : ℕ → Component → Elements → Computation (Unit {0})
    gives_all line c no_element = give tt
    gives_all line c (next_element e more) = gives line c e >>= λ _. gives_all line c more

    -- an argument: a value, or a variable (ISO 10206, 6.7.3)
    pub argument : ℕ → Actual → Computation Argument
    argument line (Evaluated x) = eval line x >>= λ r. give (Value r)
    argument line (Accessed p) = place line p >>= λ c. give (argument_is.Variable c)

    -- arguments, from left to right
    pub arguments : ℕ → Actuals → Computation (List Argument)
    arguments line no_actual = give []
    arguments line (next_actual a more) = argument line a >>= λ x. arguments line more >>= λ xs. give (x ∷ xs)

    -- the set with what a member designator gives besides: an error where that may be no member
    pub extended : ℕ → List ℕ → Designator → Computation (List ℕ)
    extended line ms (Single x) = eval line x >>= λ a. members_found line (with_number (number_of a) ms)
    extended line ms (Range x y) =
        eval line x >>= λ a. eval line y >>= λ b. members_found line (with_numbers (number_of a) (number_of b) ms)

    -- from left to right
    pub collected : ℕ → List ℕ → Designators → Computation (List ℕ)
    collected line ms no_member = give ms
    collected line ms (next_member d more) = extended line ms d >>= λ ns. collected line ns more

  -- one piece spends a step and its length, and is then written
  abbrev pub write_piece : List ℕ → Computation (Unit {0})
  write_piece bytes = spend (suc (length bytes)) (change (with_events (piece_events bytes)))

  -- the width is an integer, and a negative one is an error
  abbrev pub write_wide : ℕ → Print → Result → ℤ → Computation (Unit {0})
  write_wide line print r (pos width) = write_piece (wide_text print width r)
  write_wide line print r (negsuc n) = stop (Error run_error.NEGATIVE_WIDTH unit line)

  abbrev pub write_item : ℕ → Item → Computation (Unit {0})
  write_item line (Plain print x) = eval line x >>= λ r. write_piece (plain_text print r)
  write_item line (Wide print x w) =
      eval line x >>= λ r. eval line w >>= λ width. write_wide line print r (number_of width)

  -- the items, then the line end where there is one, and then the statement's step
  abbrev pub write_items : ℕ → List Item → Bool → Computation (Unit {0})
  write_items line [] false = spend 1 (give tt)
  write_items line [] true = write_piece (line_end ∷ []) >>= λ _. spend 1 (give tt)
  write_items line (i ∷ is) ends_line = write_item line i >>= λ _. write_items line is ends_line

  -- an error where the value is outside the type of the variable, or of another type
  abbrev pub assign_living : ℕ → Component → Result → Computation (Unit {0})
  assign_living line c r m s =
      (if suits (type_at c s) r then spend 1 (change (assigned c (value_of r))) else stop (Error (misfit r) unit line))
      m s

  -- an error where the variable has ended, and else where the value is outside its type, or of another one
  abbrev pub assign : ℕ → Component → Result → Computation (Unit {0})
  assign line c r = using (Error run_error.DISPOSED unit line) c.allocation (assign_living line c r)

  -- an assignment: the place, and then the value
  abbrev pub assigns : ℕ → Place → Expr → Computation (Unit {0})
  assigns line p x = place line p >>= λ c. eval line x >>= λ r. assign line c r

  -- a variable becomes undefined: an error where it has ended
  abbrev pub undefines : ℕ → Place → Computation (Unit {0})
  undefines line p =
      place line p
      >>= λ c. using (Error run_error.DISPOSED unit line) c.allocation (spend 1 (change (assigned c Undefined)))

  -- at most so many turns; a turn spends a step, and so does the statement in the end
  abbrev pub turns : ℕ → Computation Result → Computation (Unit {0}) → Computation (Unit {0})
  turns zero test body = cut
  turns (suc g) test body =
      test
      >>= λ r. if is_true (number_of r) then (body >>= λ _. spend 1 (turns g test body)) else spend 1 (give tt)

  -- The body and then the test at least once, and at most so many times. A turn spends a step when its test is done,
  -- and so does the statement in the end.
  abbrev pub turns_until : ℕ → Computation (Unit {0}) → Computation Result → Computation (Unit {0})
  turns_until zero body test = cut
  turns_until (suc g) body test =
      body >>= λ _. test
      >>= λ r. spend 1 (if is_true (number_of r) then spend 1 (give tt) else turns_until g body test)

  -- The turns of a `for` whose final value is this, from the value that the control variable has, and at most so many:
  -- the
  -- body, and then the next value and the turns from that one on, unless it was the last. A turn spends a step.
  abbrev pub turns_to : ℕ → ℕ → Control → ℤ → Computation (Unit {0}) → Computation (Unit {0})
  turns_to zero line c last body = cut
  turns_to (suc g) line c last body =
      body >>= λ _. eval line (Read (entire c.variable))
      >>= λ r. spend 1 (if is_same last (number_of r) then give tt
      else assigns line (entire c.variable) (next_value c) >>= λ _. turns_to g line c last body)

  -- A `for` that has a turn, with its body: both bounds are values of the control variable's type, which has the
  -- initial
  -- one at first. The final value is the one that the auxiliary variable has then, since a `for` in the body has the
  -- same variables.
  abbrev pub counts : ℕ → Control → Computation (Unit {0}) → Computation (Unit {0})
  counts line c body =
      eval line (Read (entire c.last)) >>= λ b. assigns line (entire c.variable) (Read (entire c.last))
      >>= λ _. assigns line (entire c.variable) (Read (entire c.initial))
      >>= λ _. turns_to g line c (number_of b) body

  -- The control variable gets the least of the members that are still to come.
  abbrev pub takes_least : ℕ → MemberControl → Computation (Unit {0})
  takes_least line c =
      place line (entire c.variable) >>= λ v. eval line (Read (entire c.rest))
      >>= λ r. assign line v (result.Number (least_member (members_of r)))

  -- A turn of a `for` over members, with its body. The others are to come after it: they are found before the body,
  -- since a
  -- `for` in the body has the same auxiliary variable.
  abbrev pub member_turn : ℕ → MemberControl → Computation (Unit {0}) → Computation (Unit {0})
  member_turn line c body =
      takes_least line c >>= λ _. place line (entire c.rest) >>= λ v. eval line (others c) >>= λ r. body
      >>= λ _. assign line v r

  -- The variable of a `with` is this one from here on (ISO 10206, 6.9.3.10), which spends a step. It is one of the
  -- unit or
  -- of the routine that runs; what is none has no meaning.
  abbrev pub names : Entire → Component → Computation (Unit {0})
  names (OfUnit u k) c = spend 1 (change (with_bound u k c))
  names (OfRoutine zero k) c = spend 1 (change (with_own_bound k c))
  names (OfRoutine (suc up) k) c = cut

  -- The component of a record with this number becomes undefined, which spends a step and its size: an error where the
  -- record
  -- has ended. What has no type is no component of a valid record.
  abbrev pub clears : ℕ → Component → ℕ → Computation (Unit {0})
  clears line r k =
      using (Error run_error.DISPOSED unit line) r.allocation
      (spend 1 (fetch (Error run_error.UNDEFINED_VALUE unit line) (type_at (component r k))
      >>= λ t. spend (size_of t) (change (assigned (component r k) Undefined))))

  -- so do as many from this number on
  abbrev pub clears_all : ℕ → Component → ℕ → ℕ → Computation (Unit {0})
  clears_all line r k zero = give tt
  clears_all line r k (suc n) = clears line r k >>= λ _. clears_all line r (suc k) n

  -- The tag of a record that gets the value which is in the auxiliary variable: an error where the record has ended,
  -- and else
  -- where the value is outside of the tag's type.
  abbrev pub tag_tested : ℕ → Tagging → Component → Selection → Computation Component
  tag_tested line c r s =
      selected line r s.tag >>= λ t. selected line t 0 >>= λ v. eval line (Read (entire c.value))
      >>= λ z. if is_within (type.Ordinal c.low c.high) (number_of z) then give v
      else stop (Error run_error.OUTSIDE_TYPE unit line)

  -- the number of the variant that a tag selects with what it has, where it is defined and selects one
  abbrev pub selected_by : Selection → Option Result → Computation (Option ℕ)
  selected_by s None = give None
  selected_by s (Some r) = selects s (number_of r) (λ j. give (Some j)) (give None)

  -- so it does with the value that it has
  abbrev pub selected_now : ℕ → Component → Selection → Computation (Option ℕ)
  selected_now line v s = using (Error run_error.DISPOSED unit line) v.allocation (looks v >>= selected_by s)

  -- where the value in the auxiliary variable selects another variant than this one, all variants become undefined
  abbrev pub changes_variant : ℕ → Tagging → Component → Selection → Option ℕ → Computation (Unit {0})
  changes_variant line c r s before =
      eval line (Read (entire c.value)) >>= λ z. selected_by s (Some z)
      >>= λ now. if is_another before now then clears_all line r (variant_number s 0) (variants_count s) else give tt

  -- the tag of a record gets the value that is in the auxiliary variable
  abbrev pub sets_tag : ℕ → Tagging → Component → Selection → Computation (Unit {0})
  sets_tag line c r s =
      selected line r s.tag >>= λ t. selected line t 0 >>= λ v. eval line (Read (entire c.value)) >>= assign line v

  -- An assignment to a tag (ISO 10206, 6.5.3.3): the record, and then the value, which is kept in the auxiliary
  -- variable. Once it
  -- is tried, the variants become undefined where another one than before is selected; then the tag gets the value.
  abbrev pub assigns_tag : ℕ → Tagging → Place → Selection → Expr → Computation (Unit {0})
  assigns_tag line c p s x =
      place line p >>= λ r. assigns line (entire c.value) x >>= λ _. tag_tested line c r s
      >>= λ v. selected_now line v s >>= λ before. changes_variant line c r s before >>= λ _. sets_tag line c r s

  abbrev mutual
    -- a statement spends a step when it is done; the empty and the compound one spend none
    pub exec : Stmt → Computation (Unit {0})
    exec Empty = give tt
    exec (Compound ss) = exec_all ss
    exec (Assign line p x) = assigns line p x
    exec (AssignTag line c p s x) = assigns_tag line c p s x
    exec (If line x a b) =
        eval line x
        >>= λ r. if is_true (number_of r) then (exec a >>= λ _. spend 1 (give tt))
        else (exec b >>= λ _. spend 1 (give tt))
    exec (While line x s) = turns g (eval line x) (exec s)
    exec (Repeat line ss x) = turns_until g (exec_all ss) (eval line x)
    -- both bounds are evaluated once, and the control variable is undefined in the end, as it is where there is no
    -- turn
    exec (For line c x y s) =
        assigns line (entire c.initial) x >>= λ _. assigns line (entire c.last) y
        >>= λ _. (eval line (in_order c) >>= λ r. if is_true (number_of r) then counts line c (exec s) else give tt)
        >>= λ _. undefines line (entire c.variable) >>= λ _. spend 1 (give tt)
    -- The set is evaluated once, and the members are taken in rising order while there are any. The control variable
    -- is undefined in the end.
    exec (ForIn line c x s) =
        assigns line (entire c.rest) x >>= λ _. turns g (eval line (has_more c)) (member_turn line c (exec s))
        >>= λ _. undefines line (entire c.variable)
    -- the place is found once, and the body is done with what was found
    exec (With line v of p s) = place line p >>= λ c. names v c >>= λ _. exec s
    exec (Procedure line callee given) =
        arguments line given >>= λ xs. call.routine unit line callee xs >>= λ results. spend 1 (give tt)
    exec (Case line x arms o) = eval line x >>= λ r. exec_arms (number_of r) arms (exec_other line o)
    exec (Halt line) = stop Halted
    exec (Write line items ends_line) = write_items line items ends_line

    pub exec_all : Stmts → Computation (Unit {0})
    exec_all none = give tt
    exec_all (next s ss) = exec s >>= λ _. exec_all ss

    -- a `case`, whose selector has this value: the first arm with a range that has it, or what is done where none has
    -- it
    pub exec_arms : ℤ → Arms → Computation (Unit {0}) → Computation (Unit {0})
    exec_arms z no_arm fails = fails
    exec_arms z (next_arm ranges s arms) fails =
        tried z ranges (exec s >>= λ _. spend 1 (give tt)) (exec_arms z arms fails)

    pub exec_other : ℕ → Other → Computation (Unit {0})
    exec_other line no_other = stop (Error run_error.NO_CASE unit line)
    exec_other line (otherwise_do ss) = exec_all ss >>= λ _. spend 1 (give tt)

  -- A type value is counted, and then a step is spent for its node. Constant bounds spend none.
  abbrev pub elaborated : TypeValue → Computation TypeValue
  elaborated t = change (with_type t) >>= λ _. spend 1 (give t)

  -- A type gets an initial state (ISO 10206, 6.6), which a variable of it could be assigned: an error where it could
  -- not, and
  -- else the type value with it is counted, and a step is spent for its node and its size besides.
  abbrev pub begins : ℕ → TypeValue → Result → TypeValue → Computation TypeValue
  begins line t r with_start =
      if suits (Some t) r then (change (with_type with_start) >>= λ _. spend (suc (size_of t)) (give with_start))
      else stop (Error (misfit r) unit line)

  -- what is no initial state has no meaning
  abbrev pub begins_where : ℕ → TypeValue → Result → Option Start → Computation TypeValue
  begins_where line t r None = cut
  begins_where line t r (Some start) = begins line t r (type.Initial t start)

  -- what has no type value has no meaning, and no valid unit has it
  abbrev pub elaborated_where : Option TypeValue → Computation TypeValue
  elaborated_where None = cut
  elaborated_where (Some t) = elaborated t

  module _ (line : ℕ) where
    -- A type is elaborated on this line, its parts in the order of the text. What a name does is what a call does.
    abbrev mutual
      pub elaborate : Denoter → Computation TypeValue
      elaborate (Required r) = elaborated (required_type r)
      elaborate (Named index []) = call.named_type unit line index
      elaborate (Named index (b ∷ bs)) = cut
      elaborate (Subrange host low high) = elaborated_where (subrange_type low high)
      elaborate (Enumeration names) = elaborated_where (enumeration_type names)
      elaborate (Array index component) =
          elaborate index >>= λ t. elaborate component >>= λ u. elaborated_where (array_type (Some t) (Some u))
      elaborate (Record ds) = elaborate_each ds >>= λ ts. elaborated (type.Record ts)
      elaborate (Set base) = elaborate base >>= λ t. elaborated_where (set_type (Some t))
      -- the type, then its initial state
      elaborate (Initial of value) =
          elaborate of >>= λ t. eval line value >>= λ r. begins_where line t r (start_from r)

      -- the types of components, in order
      pub elaborate_each : Denoters → Computation ComponentTypes
      elaborate_each no_denoter = give type.no_component
      elaborate_each (next_denoter d ds) =
          elaborate d >>= λ t. elaborate_each ds >>= λ ts. give (type.next_component t ts)

  -- its type is elaborated, and then the variable is made, which spends its size
  abbrev pub make : ℕ → UnitVariable → Computation (Unit {0})
  make number v = elaborate v.line (denoter_of v.denoter) >>= λ t. allocate unit number t

  -- the variables from this number on, in order
  abbrev pub make_all : ℕ → List UnitVariable → Computation (Unit {0})
  make_all number [] = give tt
  make_all number (v ∷ vs) = make number v >>= λ _. make_all (suc number) vs

  -- a variable of a routine is made alike
  abbrev pub make_own : ℕ → UnitVariable → Computation (Unit {0})
  make_own number v = elaborate v.line (denoter_of v.denoter) >>= λ t. allocate_own number t

  abbrev pub make_all_own : ℕ → List UnitVariable → Computation (Unit {0})
  make_all_own number [] = give tt
  make_all_own number (v ∷ vs) = make_own number v >>= λ _. make_all_own (suc number) vs

-- The start of a unit spends the step of a call, makes the variables that it makes, and runs its block.
abbrev pub start_of : Handler → ℕ → TypedUnit → Computation (Unit {0})
start_of call g u =
    spend 1 (make_all call g u.name 0 (made_by_unit u) >>= λ _. exec call g u.name (stmt_of u.start))

-- The stop of a unit spends the step of a call, and runs its statement, in the frame of the unit's start.
abbrev pub stop_of : Handler → ℕ → TypedUnit → Computation (Unit {0})
stop_of call g u = spend 1 (exec call g u.name (stmt_of u.stop))

-- the starts of units in order, and what is done behind them
abbrev pub starts_of : Handler → ℕ → List TypedUnit → Computation (Unit {0}) → Computation (Unit {0})
starts_of call g [] behind = behind
starts_of call g (u ∷ us) behind = start_of call g u >>= λ _. starts_of call g us behind

-- the stops of units in order, and then the run ends
abbrev pub stops_of : Handler → ℕ → List TypedUnit → Computation (Unit {0})
stops_of call g [] = stop Normal
stops_of call g (u ∷ us) = stop_of call g u >>= λ _. stops_of call g us

-- the units that are stopped, in the order of their stops: all but the last one, which is the program, in reverse
-- (ISO 10206, 6.12)
abbrev pub stopped_units : List TypedUnit → List TypedUnit
stopped_units units = drop 1 (reverse units)

-- the routine of this number of the unit of this name
abbrev pub routine_in : List TypedUnit → List ℕ → ℕ → Option UnitRoutine
routine_in [] unit number = None
routine_in (u ∷ us) unit number =
    if bytes_eq u.name unit then routine_numbered u number else routine_in us unit number

-- the type at this place of its list of types
abbrev pub type_in : List TypedUnit → List ℕ → ℕ → Option UnitType
type_in [] unit index = None
type_in (u ∷ us) unit index = if bytes_eq u.name unit then slice_get u.types index else type_in us unit index

-- the activation of a routine of this name, in which nothing is made yet, by a call from a line of a unit
abbrev pub activation : List ℕ → List ℕ → ℕ → Call
activation routine from line =
    record { routine = routine; unit = from; line = line; variables = λ k. None; around = []; made = [] }

-- The newest variable of the routine, which is of a type, gets its value: an error where that is outside the type, or
-- of
-- another one.
abbrev pub initialized : List ℕ → ℕ → TypeValue → Result → Computation (Unit {0})
initialized unit line t r =
    if suits (Some t) r then change (newest_assigned (value_of r)) else stop (Error (misfit r) unit line)

module _ (call : Handler) (g : ℕ) (unit : List ℕ) where
  -- A formal parameter takes its argument (ISO 10206, 6.7.3.2 and 6.7.3.3): a value is the first one of a variable of
  -- the
  -- routine, which is made, and a variable is one of the routine's as it is, for which its type counts a step. What is
  -- no
  -- argument of it has no meaning.
  abbrev pub takes_by : FormalMode → ℕ → ℕ → Formal → Argument → Computation (Unit {0})
  takes_by mode.Value line number f (Value r) =
      elaborate call g unit line (denoter_of f.denoter) >>= λ t. allocate_own number t
      >>= λ _. initialized unit line t r
  takes_by mode.ProtectedValue line number f (Value r) =
      elaborate call g unit line (denoter_of f.denoter) >>= λ t. allocate_own number t
      >>= λ _. initialized unit line t r
  takes_by mode.Variable line number f (argument_is.Variable c) = spend 1 (change (with_own_bound number c))
  takes_by mode.ProtectedVariable line number f (argument_is.Variable c) = spend 1 (change (with_own_bound number c))
  takes_by mode line number f x = cut

  -- the formal parameters take their arguments in order, as the variables of the routine from this number on
  abbrev pub takes_all : ℕ → ℕ → List Formal → List Argument → Computation (Unit {0})
  takes_all line number [] [] = give tt
  takes_all line number [] (x ∷ xs) = cut
  takes_all line number (f ∷ fs) [] = cut
  takes_all line number (f ∷ fs) (x ∷ xs) =
      takes_by f.mode line number f x >>= λ _. takes_all line (suc number) fs xs

-- The value that the variable of this number of the routine has. One that is undefined is an error of its own, since
-- it is
-- the result of a function that was never given (ISO 10206, 6.7.2), but for a set, of which it is that of any
-- undefined value;
-- an array or a record has its components as they are.
abbrev pub result_at : List ℕ → ℕ → ℕ → Computation (List Result)
result_at unit line number =
    fetch (Error run_error.UNDEFINED_VALUE unit line) (own_variable 0 number)
    >>= λ c. using (Error run_error.DISPOSED unit line) c.allocation
    (fetch_or (λ s. Error (unresulting (type_at c s)) unit line) (result_of c) >>= λ r. give (r ∷ []))

-- what a routine gives when it is done: a function the value of the variable of this number, and a procedure nothing
abbrev pub results_given : List ℕ → ℕ → ℕ → Option RoutineResult → Computation (List Result)
results_given unit line number None = give []
results_given unit line number (Some r) = result_at unit line number

-- What a routine does in its activation: its formal parameters take the arguments, it makes the variable that has its
-- result, where it has one, those that it declares, and the auxiliary ones of `for`, runs its block, and gives its
-- result. An error in taking arguments
-- or in giving the result is on the line of the declaration (own).
abbrev pub runs_routine : Handler → ℕ → List ℕ → UnitRoutine → List Argument → Computation (List Result)
runs_routine call g unit r xs =
    takes_all call g unit r.line 0 r.formals xs
    >>= λ _. make_all_own call g unit (length r.formals) (made_variables r)
    >>= λ _. exec call g unit (stmt_of r.block) >>= λ _. results_given unit r.line (length r.formals) r.result

-- the steps that the values spend which are given
abbrev pub weights_of : List Argument → ℕ
weights_of [] = 0
weights_of (Value r ∷ xs) = weight_of r + weights_of xs
weights_of (argument_is.Variable c ∷ xs) = weights_of xs

-- What a call of a routine does: it spends a step, and once more what the values spend that it is given, and then the
-- routine runs. What is none has no meaning, and no valid unit calls one.
abbrev pub routine_does : Handler → ℕ → List ℕ → ℕ → Callee → Option UnitRoutine → List Argument
    → Computation (List Result)
routine_does call g from line callee None xs = cut
routine_does call g from line callee (Some r) xs =
    in_call activation_words callee.levels (activation r.name from line)
    (spend (suc (weights_of xs)) (runs_routine call g callee.unit r xs))

-- the line of a type's definition; one that another unit writes has none here
abbrev pub line_where : Option ℕ → ℕ
line_where None = 0
line_where (Some line) = line

-- What the elaboration of a type by its name does: it spends a step and what the definition spends, and counts as one
-- more
-- call while it goes on, for which no words are set aside (own). An error in it is on the line of the definition
-- (own). What is
-- no type has no meaning, and no valid unit names one.
abbrev pub type_does : Handler → ℕ → List ℕ → ℕ → Option UnitType → Computation TypeValue
type_does call g unit line None = cut
type_does call g unit line (Some t) =
    in_call 0 0 (activation [] unit line) (spend 1 (elaborate call g unit (line_where t.line) (definition_of t)))

-- What calls do, where they nest at most so deep, and loops turn at most so often in each.
abbrev pub handler_of : List TypedUnit → ℕ → Handler
handler_of units zero = record { routine = λ from line callee arguments. cut; named_type = λ from line index. cut }
handler_of units (suc depth) =
    record {
      routine =
          λ from line callee arguments. routine_does (handler_of units depth) depth from line callee
          (routine_in units callee.unit callee.number) arguments;
      named_type = λ from line index. type_does (handler_of units depth) depth from line (type_in units from index);
    }

-- The meaning of joined units within so many steps: they are started in order, and then all but the last one are
-- stopped in reverse. Loops turn and calls nest at most that often, which is enough, since each turn and each call
-- spends a step.
abbrev pub meaning : List TypedUnit → ℕ → Outcome (Unit {0})
meaning units steps =
    starts_of (handler_of units steps) steps units
    (stops_of (handler_of units steps) steps (stopped_units units)) steps first_state
