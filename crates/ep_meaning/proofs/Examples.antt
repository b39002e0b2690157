-- The meaning computes the answers of small programs.
use Rattle.std.proofs.Common.{◌≡◌, ℕ, ℤ, pos, negsuc, Bool, true, false, Some, None, [], ◌∷◌, refl, codes}
use Rattle.ep_values.specs.Events.{Trace, Write}
use Rattle.ep_typed.specs.Trees.{Variable, OfUnit, Indexed, Field, Expr, Constant, Function, Evaluated, no_actual, next_actual, Read, One, Two, SetConstant, SetOf, OnSets, Card, Single, Range, designators, Plain, Wide, Stmt, Compound, Assign, While, Repeat, For, With, Case, Short, Write, stmts, none, next, Other, no_other, otherwise_do, arms}
use Rattle.ep_typed.specs.Trees as tree
use Rattle.ep_values.specs.Sets.{members}
use Rattle.ep_values.specs.declared.operations.SetOperation.TheVariants as set
use Rattle.ep_values.specs.TypeValues.{TypeValue, Array, Record, Set, no_component, next_component, component_type, size_of}
use Rattle.ep_meaning.specs.Steps.{State, End, Normal, Halted, Error, Outcome, Gives, Ends, Cut, cut, give, spend, state_of, made, first_state}
use Rattle.ep_meaning.specs.Calls.{Handler}
use Rattle.ep_meaning.specs.Meaning.{eval, exec, handler_of}
use Rattle.ep_values.specs.Printing.{Result, Number}
use Rattle.ep_values.specs.declared.operations.Unary.TheVariants as unary
use Rattle.ep_values.specs.declared.operations.Binary.TheVariants as binary
use Rattle.ep_values.specs.declared.operations.ShortOperation.TheVariants as short
use Rattle.ep_values.specs.declared.operations.Print.TheVariants as print
use Rattle.ep_typed.specs.declared.tree.CaseRange.{CaseRange}
use Rattle.ep_values.specs.TypeValues.{Ordinal}
use Rattle.ep_values.specs.declared.run_error.TheConstants as run_error

-- what a statement of unit p comes to, with one variable x of type integer
abbrev run : Stmt → ℕ → Outcome (Unit {0})
run s m = exec (handler_of [] 0) m (codes "p") s m (made (codes "p") 0 (Ordinal (negsuc 9223372036854775806) (pos 9223372036854775807)) first_state)

abbrev end_of : Outcome (Unit {0}) → End
end_of (Gives left a s) = Normal
end_of (Ends left e s) = e
end_of (Cut s) = Normal

abbrev trace_of : Outcome (Unit {0}) → Trace
trace_of o = (state_of o).trace

-- whether an expression has this value
abbrev equals : Expr → ℤ → Expr
equals e z = Two binary.Equal e (Constant z)

abbrev x : tree.Place
x = Variable (codes "p") 0

overflow : end_of (run (Compound (next (Assign 3 x (Constant (pos 9223372036854775807))) (next (Assign 4 x (Two binary.Add (Read x) (Constant (pos 1)))) none))) 100) ≡ Error run_error.OVERFLOW (codes "p") 4
overflow = refl

division : trace_of (run (tree.Write 3 (Plain print.Boolean (equals (Two binary.Divide (One unary.Negate (Constant (pos 7))) (Constant (pos 2))) (negsuc 2)) ∷ Wide print.Boolean (equals (Two binary.Modulo (One unary.Negate (Constant (pos 7))) (Constant (pos 2))) (pos 1)) (Constant (pos 6)) ∷ []) true) 100)
    ≡ Write (codes "True") ∷ Write (codes "  True") ∷ Write (10 ∷ []) ∷ []
division = refl

negative_divisor : end_of (run (tree.Write 3 (Plain print.Integer (Two binary.Modulo (Constant (pos 7)) (One unary.Negate (Constant (pos 2)))) ∷ []) true) 100) ≡ Error run_error.DIVISOR (codes "p") 3
negative_divisor = refl

-- a loop without an end writes as long as there are steps
loop : trace_of (run (While 3 (Constant (pos 1)) (tree.Write 3 (Plain print.Char (Constant (pos 120)) ∷ []) false)) 20) ≡ Write (codes "x") ∷ Write (codes "x") ∷ Write (codes "x") ∷ []
loop = refl

-- the right operand would be an error, and is evaluated only where the left one decides nothing
abbrev failing : Expr
failing = equals (Two binary.Divide (Constant (pos 1)) (Constant (pos 0))) (pos 1)

not_evaluated : trace_of (run (tree.Write 3 (Plain print.Boolean (Short short.AndThen (Constant (pos 0)) failing) ∷ []) false) 100) ≡ Write (codes "False") ∷ []
not_evaluated = refl

evaluated : end_of (run (tree.Write 3 (Plain print.Boolean (Short short.OrElse (Constant (pos 0)) failing) ∷ []) false) 100) ≡ Error run_error.DIVISOR (codes "p") 3
evaluated = refl

-- a loop with its test behind its body runs once, and a turn spends a step besides
once : trace_of (run (Repeat 3 (next (tree.Write 4 (Plain print.Char (Constant (pos 120)) ∷ []) false) none) (Constant (pos 1))) 7) ≡ Write (codes "x") ∷ []
once = refl

until_false : trace_of (run (Repeat 3 (next (tree.Write 4 (Plain print.Char (Constant (pos 120)) ∷ []) false) none) (Constant (pos 0))) 20) ≡ Write (codes "x") ∷ Write (codes "x") ∷ Write (codes "x") ∷ []
until_false = refl

abbrev shows : ℕ → Stmt
shows n = tree.Write 4 (Plain print.Char (Constant (pos n)) ∷ []) false

abbrev range : ℕ → ℕ → CaseRange
range low high = record { low = pos low; high = pos high }

abbrev chosen : ℕ → Other → Stmt
chosen z o = Case 3 (Constant (pos z)) (arms ((range 1 2 ∷ [], shows 120) ∷ (range 7 7 ∷ range 3 4 ∷ [], shows 121) ∷ [])) o

-- The third range that is tried has the value: the selector spends a step, each range one, the statement four, and the `case` one.
third_range : trace_of (run (chosen 4 no_other) 9) ≡ Write (codes "y") ∷ []
third_range = refl

-- no range has the value
no_range : end_of (run (chosen 5 no_other) 4) ≡ Error run_error.NO_CASE (codes "p") 3
no_range = refl

otherwise : trace_of (run (chosen 5 (otherwise_do (next (shows 122) none))) 9) ≡ Write (codes "z") ∷ []
otherwise = refl

-- what every call gives after three steps
abbrev gives_five : Handler
gives_five = record { routine = λ from line callee arguments. spend 3 (give (Number (pos 5) ∷ [])); named_type = λ from line index. cut }

-- a function designator spends the steps of its arguments and of the call, and one of its own
abbrev designator : Outcome Result
designator = eval gives_five 0 (codes "p") 3 (Function (record { unit = codes "p"; number = 0; levels = 0 }) (next_actual (Evaluated (Constant (pos 1))) no_actual)) 5 first_state

given : designator ≡ Gives 0 (Number (pos 5)) first_state
given = refl

-- ---- `for`

-- a variable x of this type, and the auxiliary ones behind it
abbrev with_auxiliaries : TypeValue → State
with_auxiliaries t = made (codes "p") 2 (Ordinal (negsuc 9223372036854775806) (pos 9223372036854775807)) (made (codes "p") 1 (Ordinal (negsuc 9223372036854775806) (pos 9223372036854775807)) (made (codes "p") 0 t first_state))

abbrev counting : Bool → ℕ → ℕ → Stmt → Stmt
counting falls initial last body =
    For 3 (record { variable = OfUnit (codes "p") 0; initial = OfUnit (codes "p") 1; last = OfUnit (codes "p") 2; falls = falls; low = negsuc 9223372036854775806; high = pos 9223372036854775807 }) (Constant (pos initial)) (Constant (pos last)) body

-- x as a character
abbrev shows_x : Stmt
shows_x = tree.Write 4 (Plain print.Char (Read x) ∷ []) false

abbrev counts_in : TypeValue → Stmt → Outcome (Unit {0})
counts_in t s = exec (handler_of [] 0) 200 (codes "p") s 200 (with_auxiliaries t)

rising : trace_of (counts_in (Ordinal (pos 0) (pos 255)) (counting false 120 122 shows_x)) ≡ Write (codes "x") ∷ Write (codes "y") ∷ Write (codes "z") ∷ []
rising = refl

falling : trace_of (counts_in (Ordinal (pos 0) (pos 255)) (counting true 122 121 shows_x)) ≡ Write (codes "z") ∷ Write (codes "y") ∷ []
falling = refl

-- an inner statement has the same auxiliary variables
nested : trace_of (counts_in (Ordinal (pos 0) (pos 255)) (counting false 120 121 (Compound (next shows_x (next (tree.Assign 5 (Variable (codes "p") 2) (Constant (pos 0))) none))))) ≡ Write (codes "x") ∷ Write (codes "y") ∷ []
nested = refl

-- the values may be the last ones of the host
at_the_end : end_of (counts_in (Ordinal (pos 9223372036854775806) (pos 9223372036854775807)) (counting false 9223372036854775806 9223372036854775807 tree.Empty)) ≡ Normal
at_the_end = refl

-- where there is no turn nothing is tried, and the control variable is undefined
no_turn : end_of (counts_in (Ordinal (pos 1) (pos 5)) (Compound (next (Assign 3 x (Constant (pos 4))) (next (counting false 9 7 shows_x) (next shows_x none))))) ≡ Error run_error.UNDEFINED_VALUE (codes "p") 4
no_turn = refl

-- a bound outside of the type is an error before the first turn
outside : counts_in (Ordinal (pos 1) (pos 5)) (counting false 4 7 shows_x) ≡ counts_in (Ordinal (pos 1) (pos 5)) (counting false 4 7 tree.Empty)
outside = refl

outside_ends : end_of (counts_in (Ordinal (pos 1) (pos 5)) (counting false 4 7 shows_x)) ≡ Error run_error.OUTSIDE_TYPE (codes "p") 3
outside_ends = refl

-- ---- arrays

-- a variable a of type array [2..3] of array [Boolean] of -1..1
abbrev matrix : TypeValue
matrix = Array (pos 2) (pos 3) (Array (pos 0) (pos 1) (Ordinal (negsuc 0) (pos 1)))

abbrev a : tree.Place
a = Variable (codes "p") 0

abbrev element : ℕ → ℕ → tree.Place
element i j = Indexed (Indexed a (Constant (pos i))) (Constant (pos j))

abbrev in_matrix : Stmt → Outcome (Unit {0})
in_matrix s = exec (handler_of [] 0) 200 (codes "p") s 200 (made (codes "p") 0 matrix first_state)

-- its components stand one behind the other, the last index first
words : size_of matrix ≡ 4
words = refl

second_row : component_type matrix 1 ≡ Some (Array (pos 0) (pos 1) (Ordinal (negsuc 0) (pos 1)))
second_row = refl

no_third_row : component_type matrix 2 ≡ None
no_third_row = refl

-- what a component has been given, and no other one
given_back : trace_of (in_matrix (Compound (next (Assign 3 (element 3 0) (Constant (pos 1))) (next (Assign 4 (element 2 1) (Constant (negsuc 0))) (next (tree.Write 5 (Plain print.Boolean (equals (Two binary.Subtract (Read (element 3 0)) (Read (element 2 1))) (pos 2)) ∷ []) false) none)))))
    ≡ Write (codes "True") ∷ []
given_back = refl

undefined_element : end_of (in_matrix (Compound (next (Assign 3 (element 3 0) (Constant (pos 1))) (next (Assign 4 (element 2 1) (Read (element 3 1))) none)))) ≡ Error run_error.UNDEFINED_VALUE (codes "p") 4
undefined_element = refl

outside_first : end_of (in_matrix (Assign 3 (element 4 0) (Constant (pos 1)))) ≡ Error run_error.INDEX (codes "p") 3
outside_first = refl

outside_second : end_of (in_matrix (Assign 3 (element 2 2) (Constant (pos 1)))) ≡ Error run_error.INDEX (codes "p") 3
outside_second = refl

outside_type : end_of (in_matrix (Assign 3 (element 2 1) (Constant (pos 2)))) ≡ Error run_error.OUTSIDE_TYPE (codes "p") 3
outside_type = refl

-- an assignment to an element spends a step for its variable, two for each index, one for the value and one of its own
steps_of_an_element : end_of (exec (handler_of [] 0) 7 (codes "p") (Compound (next (Assign 3 (element 2 1) (Constant (pos 1))) (next (tree.Halt 4) none))) 7 (made (codes "p") 0 matrix first_state)) ≡ Halted
steps_of_an_element = refl

-- ---- `with`

-- a variable a of type array [1..2] of records of one character, an index i behind it, and the variable of a `with` behind both
abbrev points : TypeValue
points = Array (pos 1) (pos 2) (Record (next_component (Ordinal (pos 0) (pos 255)) no_component))

abbrev i : tree.Place
i = Variable (codes "p") 1

abbrev in_points : Stmt → Outcome (Unit {0})
in_points s = exec (handler_of [] 0) 200 (codes "p") s 200 (made (codes "p") 1 (Ordinal (pos 1) (pos 2)) (made (codes "p") 0 points first_state))

-- the field of the variable that a `with` accesses, and that of the element at an index
abbrev accessed : tree.Place
accessed = Field (Variable (codes "p") 2) 0

abbrev at_index : Expr → tree.Place
at_index e = Field (Indexed a e) 0

abbrev shows_element : ℕ → Stmt
shows_element n = tree.Write 9 (Plain print.Char (Read (at_index (Constant (pos n)))) ∷ []) false

-- The place is found once: a[i] stays a[1] though i becomes 2.
found_once : trace_of (in_points (Compound (next (Assign 3 i (Constant (pos 1))) (next (With 4 (OfUnit (codes "p") 2) 0 (Indexed a (Read i)) (Compound (next (Assign 5 i (Constant (pos 2))) (next (Assign 6 accessed (Constant (pos 120))) none)))) (next (shows_element 1) none)))))
    ≡ Write (codes "x") ∷ []
found_once = refl

-- an error in the place has the line of the statement
no_such_element : end_of (in_points (With 4 (OfUnit (codes "p") 2) 0 (Indexed a (Constant (pos 3))) (Assign 6 accessed (Constant (pos 120))))) ≡ Error run_error.INDEX (codes "p") 4
no_such_element = refl

-- it spends the steps of its place, and one of its own
steps_of_with : end_of (exec (handler_of [] 0) 4 (codes "p") (With 4 (OfUnit (codes "p") 2) 0 (Indexed a (Constant (pos 2))) (tree.Halt 5)) 4 (made (codes "p") 0 points first_state)) ≡ Halted
steps_of_with = refl

-- ---- sets

-- a variable s of type set of 1..9
abbrev in_set : Stmt → Outcome (Unit {0})
in_set s = exec (handler_of [] 0) 200 (codes "p") s 200 (made (codes "p") 0 (Set (pos 1) (pos 9)) first_state)

abbrev number : ℤ → Expr
number z = Constant z

-- [5, 3..4, 9..8, 3]
abbrev three : Expr
three = SetOf (designators (Single (number (pos 5)) ∷ Range (number (pos 3)) (number (pos 4)) ∷ Range (number (pos 9)) (number (pos 8)) ∷ Single (number (pos 3)) ∷ []))

abbrev tells : Expr → Stmt
tells e = tree.Write 9 (Plain print.Boolean e ∷ []) false

-- an empty range adds nothing, and a member counts once
members_counted : trace_of (in_set (Compound (next (Assign 3 x three) (next (tells (equals (Card (Read x)) (pos 3))) none)))) ≡ Write (codes "True") ∷ []
unfolding members
members_counted = refl

-- what is in one of two sets and not in the other
taken_away : trace_of (in_set (tells (OnSets set.Equal (OnSets set.Difference three (SetOf (designators (Single (number (pos 4)) ∷ Single (number (pos 7)) ∷ [])))) (SetOf (designators (Single (number (pos 3)) ∷ Single (number (pos 5)) ∷ [])))))) ≡ Write (codes "True") ∷ []
unfolding members
taken_away = refl

outside_base : end_of (in_set (Assign 3 x (SetOf (designators (Single (number (pos 0)) ∷ []))))) ≡ Error run_error.SET_MEMBER (codes "p") 3
unfolding members
outside_base = refl

no_ordinal : end_of (in_set (Assign 3 x (SetOf (designators (Range (number (pos 9)) (number (pos 256)) ∷ []))))) ≡ Error run_error.SET_MEMBER (codes "p") 3
no_ordinal = refl

-- nothing is refused of a range that is empty
empty_range : end_of (in_set (Assign 3 x (SetOf (designators (Range (number (pos 999)) (number (pos 256)) ∷ []))))) ≡ Normal
empty_range = refl

undefined_set : end_of (in_set (tells (OnSets set.In (number (pos 1)) (Read x)))) ≡ Error run_error.UNDEFINED_VALUE (codes "p") 9
undefined_set = refl

-- a constant is the set that its members make
constant_members : trace_of (in_set (tells (OnSets set.Equal (SetConstant (3 ∷ 4 ∷ 5 ∷ [])) three))) ≡ Write (codes "True") ∷ []
unfolding members
constant_members = refl

-- what is assigned to s, and then the end of the run, within so many steps
abbrev ends_within : ℕ → Expr → End
ends_within m e = end_of (exec (handler_of [] 0) m (codes "p") (Compound (next (Assign 3 x e) (next (tree.Halt 4) none))) m (made (codes "p") 0 (Set (pos 1) (pos 9)) first_state))

-- a constant spends nine steps, and a constructor one and those of its values, besides those of the variable and the assignment
steps_of_a_constant : ends_within 11 (SetConstant (3 ∷ 5 ∷ [])) ≡ Halted
steps_of_a_constant = refl

no_fewer_for_a_constant : ends_within 10 (SetConstant (3 ∷ 5 ∷ [])) ≡ Normal
no_fewer_for_a_constant = refl

steps_of_a_constructor : ends_within 5 (SetOf (designators (Single (number (pos 3)) ∷ Single (number (pos 5)) ∷ []))) ≡ Halted
unfolding members
steps_of_a_constructor = refl

-- ---- `for` over members

-- a variable x of this type, and the auxiliary one behind it
abbrev with_members : TypeValue → State
with_members t = made (codes "p") 1 (Set (pos 0) (pos 255)) (made (codes "p") 0 t first_state)

-- over the characters z and x
abbrev taking : Stmt → Stmt
taking body = tree.ForIn 3 (record { variable = OfUnit (codes "p") 0; rest = OfUnit (codes "p") 1 }) (SetOf (designators (Single (number (pos 122)) ∷ Single (number (pos 120)) ∷ []))) body

abbrev takes_in : TypeValue → Stmt → Outcome (Unit {0})
takes_in t s = exec (handler_of [] 0) 200 (codes "p") s 200 (with_members t)

-- in rising order
members_rise : trace_of (takes_in (Ordinal (pos 0) (pos 255)) (taking shows_x)) ≡ Write (codes "x") ∷ Write (codes "z") ∷ []
unfolding members
members_rise = refl

-- an inner statement has the same auxiliary variable
members_stay : trace_of (takes_in (Ordinal (pos 0) (pos 255)) (taking (Compound (next shows_x (next (Assign 5 (Variable (codes "p") 1) (SetOf (designators []))) none))))) ≡ Write (codes "x") ∷ Write (codes "z") ∷ []
unfolding members
members_stay = refl

-- a member outside of the type is an error when it comes
member_ends : end_of (takes_in (Ordinal (pos 1) (pos 121)) (taking shows_x)) ≡ Error run_error.OUTSIDE_TYPE (codes "p") 3
unfolding members
member_ends = refl

first_is_shown : trace_of (takes_in (Ordinal (pos 1) (pos 121)) (taking shows_x)) ≡ Write (codes "x") ∷ []
unfolding members
first_is_shown = refl

-- in the end the control variable is undefined
no_member_left : end_of (takes_in (Ordinal (pos 0) (pos 255)) (Compound (next (taking tree.Empty) (next shows_x none)))) ≡ Error run_error.UNDEFINED_VALUE (codes "p") 4
unfolding members
no_member_left = refl
