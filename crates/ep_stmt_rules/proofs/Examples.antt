-- What the rules say of small calls and assignments.
use Rattle.std.proofs.Common.{◌≡◌, ℕ, pos, true, false, List, [], ◌∷◌, Option, Some, None, refl, codes}
use Rattle.ep_tree.specs.Nodes.{expression_node, simple_node, term_node, access_node, argument_node}
use Rattle.ep_tree.specs.declared.expression.Access.{Access}
use Rattle.ep_tree.specs.declared.expression.Argument.{Argument}
use Rattle.ep_tree.specs.declared.expression.Expression.{Expression}
use Rattle.ep_tree.specs.declared.expression.Factor.{Factor}
use Rattle.ep_tree.specs.declared.expression.Factor.TheVariants as factor
use Rattle.ep_tree.specs.declared.expression.Selector.TheVariants as selector
use Rattle.ep_typed.specs.Trees as tree
use Rattle.ep_typed.specs.Trees.{Stmt, Accessed, Assign, Constant, Empty, Evaluated, ForIn, Indexed, Own, Procedure, Read, Variable, actuals}
use Rattle.ep_typed.specs.declared.denoter.Denoter.TheVariants as denoter
use Rattle.ep_typed.specs.declared.denoter.RequiredType.{RequiredType}
use Rattle.ep_typed.specs.declared.denoter.RequiredType.TheVariants as simple
use Rattle.ep_typed.specs.declared.interface.FormalMode.{FormalMode}
use Rattle.ep_typed.specs.declared.interface.FormalMode.TheVariants as mode
use Rattle.ep_typed.specs.declared.interface.Interface.{Interface}
use Rattle.ep_typed.specs.declared.value.Value.TheVariants as value
use Rattle.ep_scope.specs.declared.structure.Composition.TheVariants as composition
use Rattle.ep_scope.specs.declared.structure.StructuredType.{StructuredType}
use Rattle.ep_scope.specs.declared.kind.Host.{Host}
use Rattle.ep_scope.specs.declared.kind.Host.TheVariants as host
use Rattle.ep_scope.specs.declared.kind.Kind.{Kind}
use Rattle.ep_scope.specs.declared.kind.Kind.TheVariants as kind
use Rattle.ep_scope.specs.declared.parameter.FormalParameter.{FormalParameter}
use Rattle.ep_scope.specs.declared.parameter.TypeName.TheVariants as type_name
use Rattle.ep_scope.specs.declared.parameter.Protection.TheVariants as protection
use Rattle.ep_scope.specs.declared.rule.TheConstants as rule
use Rattle.ep_scope.specs.declared.thing.Declaration.{Declaration}
use Rattle.ep_scope.specs.declared.thing.Declaration.TheVariants as declaration
use Rattle.ep_scope.specs.declared.thing.Declared.{Declared}
use Rattle.ep_scope.specs.declared.thing.Thing.TheVariants as thing
use Rattle.ep_rules.specs.declared.access.Access.TheVariants as access
use Rattle.ep_check_expr.proofs.public.Nodes.{access-judged, argument-judged, expression-judged, indexes-judged, simple-judged, term-judged, name-judged, number-judged}
use Rattle.ep_check_expr.specs.Expressions.{judged}
use Rattle.ep_rules.specs.Judgements.{Judged, Accepts, Breaks, both}
use Rattle.ep_threats.specs.Callees.{Callees}
use Rattle.ep_threats.specs.RoutineForms.{RoutineForm}
use Rattle.ep_stmt_rules.specs.Statements.{At, Context, FunctionResult, MemberHead, OfRoutine, OfUnit, assigned, counted_by, declared_called, declared_control, declared_target, function_target, is_threatened_in, members_judged, stmt_threat, target_judged, unless_threatening}

-- an expression of one factor
abbrev bare : Factor → Expression
bare f = expression_node 1 (simple_node 1 None (term_node 1 f []) []) None

-- a name alone, and a number
abbrev name_alone : List ℕ → Expression
name_alone n = bare (factor.Access (access_node 1 n []))

abbrev number_alone : ℕ → Expression
number_alone n = bare (factor.Number 1 (pos n))

-- arguments of one factor
abbrev name : List ℕ → Argument
name n = argument_node 1 (name_alone n) None

abbrev number : ℕ → Argument
number n = argument_node 1 (number_alone n) None

-- a parameter, of a section of its own
abbrev parameter : List ℕ → FormalMode → ℕ → RequiredType → Host → FormalParameter
parameter n mode section type h = record { name = n; mode = mode; section = section; of = record { name = type_name.Required type; is = type_name.Required type }; kind = kind.Ordinal h }

-- procedure p(a: integer; var b: integer)
abbrev parameters : List FormalParameter
parameters = parameter (codes "a") mode.Value 0 simple.Integer host.Integer ∷ parameter (codes "b") mode.Variable 1 simple.Integer host.Integer ∷ []

abbrev declares_at : ℕ → ℕ → Declaration → Declared
declares_at level number what = record { unit = codes "u"; number = number; level = level; what = what }

abbrev declares : ℕ → Declaration → Declared
declares number what = declares_at 0 number what

-- no routine
abbrev nothing_called : Callees
nothing_called = record { own = []; given = [] }

-- the integer x and the char c
abbrev context : Context
context =
    record {
      unit = codes "u";
      scopes =
          record {
            entries =
                (codes "x", thing.Declared (declares 0 (declaration.Variable (type_name.Required simple.Integer) (kind.Ordinal host.Integer) protection.Unprotected)))
                ∷ (codes "c", thing.Declared (declares 1 (declaration.Variable (type_name.Required simple.Char) (kind.Ordinal host.Char) protection.Unprotected))) ∷ [];
            qualified = [];
            structures = [];
            records = [];
          } ∷ [];
      files = record { input = false; output = false };
      results = [];
      locals = OfUnit (codes "u") 2;
      members = 2;
      callees = nothing_called;
      withs = 3;
    }

-- a call of p
abbrev called : List Argument → Judged (Option Stmt)
called arguments = declared_called context 1 (declares 0 (declaration.Procedure parameters)) (declaration.Procedure parameters) arguments

-- p(3, x)
value_and_variable : called (number 3 ∷ name (codes "x") ∷ []) ≡ Accepts (Some (Procedure 1 (record { unit = codes "u"; number = 0; levels = 0 }) (actuals (Evaluated (Constant (pos 3)) ∷ Accessed (Variable (codes "u") 0) ∷ []))))
value_and_variable = simp (argument-judged, expression-judged, simple-judged, term-judged, number-judged, name-judged) refl

-- p(3)
one_argument : called (number 3 ∷ []) ≡ Breaks (rule.ARGUMENTS ∷ [])
one_argument = simp (argument-judged, expression-judged, simple-judged, term-judged, number-judged) refl

-- p(3, c)
other_type : called (number 3 ∷ name (codes "c") ∷ []) ≡ Breaks (rule.VARIABLE_ARGUMENT ∷ [])
other_type = simp (argument-judged, expression-judged, simple-judged, term-judged, number-judged, name-judged) refl

-- ---- control variables

abbrev x : Declaration
x = declaration.Variable (type_name.Required simple.Integer) (kind.Ordinal host.Integer) protection.Unprotected

-- a variable of a routine, or a formal parameter of it
abbrev own : Declaration
own = declaration.Own (type_name.Required simple.Integer) (kind.Ordinal host.Integer) protection.Unprotected

-- x counts in the block of the unit, and in no routine of it
counts : declared_control (OfUnit (codes "u") 2) 0 (declares 0 x) x ≡ Accepts (record { variable = tree.OfUnit (codes "u") 0; kind = kind.Ordinal host.Integer })
counts = refl

counts_in_no_routine : declared_control (OfRoutine 0 1 3) 1 (declares 0 x) x ≡ Breaks (rule.CONTROL_VARIABLE ∷ [])
counts_in_no_routine = refl

-- in a routine of one parameter the first variable that it declares counts, and the parameter does not
own_counts : declared_control (OfRoutine 0 1 3) 1 (declares_at 1 1 own) own ≡ Accepts (record { variable = tree.OfRoutine 0 1; kind = kind.Ordinal host.Integer })
own_counts = refl

parameter_does_not : declared_control (OfRoutine 0 1 3) 1 (declares_at 1 0 own) own ≡ Breaks (rule.CONTROL_VARIABLE ∷ [])
parameter_does_not = refl

-- nor does a variable of a routine around, whatever its number
around_does_not : declared_control (OfRoutine 4 1 3) 2 (declares_at 1 1 own) own ≡ Breaks (rule.CONTROL_VARIABLE ∷ [])
around_does_not = refl

-- what another unit exports as protected does not count, and its turns would threaten it; nor is it assigned to
abbrev imported : Declared
imported = record { unit = codes "m"; number = 0; level = 0; what = declaration.Variable (type_name.Required simple.Integer) (kind.Ordinal host.Integer) protection.Protected }

imported_does_not : declared_control (OfUnit (codes "u") 2) 0 imported imported.what ≡ Breaks (rule.CONTROL_VARIABLE ∷ rule.PROTECTED ∷ [])
imported_does_not = refl

imported_is_not_assigned : declared_target 0 (codes "u") [] imported imported.what ≡ Breaks (rule.PROTECTED ∷ [])
imported_is_not_assigned = refl

-- ---- threats from inside

-- a routine of this name, which has these around it, and these statements
abbrev form : List ℕ → List ℕ → Stmt → RoutineForm
form name around s = record { name = name; line = 1; formals = []; result = None; variables = []; around = around; block = s }

-- routine 0, in it 1, and in that 2, which assigns to variable 5 so many levels up
abbrev nested : ℕ → Callees
nested up = record { own = form (codes "a") [] Empty ∷ form (codes "b") (0 ∷ []) Empty ∷ form (codes "c") (1 ∷ 0 ∷ []) (Assign 1 (Own up 5) (Constant (pos 1))) ∷ []; given = [] }

-- it threatens the one of routine 0 two levels up, and that of routine 1 one level up, and its own in no other one
two_levels_up : is_threatened_in (OfRoutine 0 0 9) (nested 2) (tree.OfRoutine 0 5) ≡ true
two_levels_up = refl

one_level_up : is_threatened_in (OfRoutine 0 0 9) (nested 1) (tree.OfRoutine 0 5) ≡ false
one_level_up = refl

one_level_up_of_inner : is_threatened_in (OfRoutine 1 0 9) (nested 1) (tree.OfRoutine 0 5) ≡ true
one_level_up_of_inner = refl

by_itself : is_threatened_in (OfRoutine 2 0 9) (nested 0) (tree.OfRoutine 0 5) ≡ false
by_itself = refl

-- p(v) of another unit, whose heading has a variable parameter of p, threatens v, and so does one of this unit that has it
abbrev heading : Interface
heading =
    record {
      «module» = codes "m";
      imports = [];
      types = [];
      constants = [];
      variables = [];
      routines = record { name = codes "p"; formals = record { name = codes "a"; mode = mode.Variable; section = 0; denoter = denoter.Required simple.Integer } ∷ []; result = None } ∷ [];
      exports = [];
    }

abbrev calls : List ℕ → Stmt
calls unit = Procedure 1 (record { unit = unit; number = 0; levels = 0 }) (actuals (Accessed (Variable (codes "u") 0) ∷ []))

threatened_by_call : stmt_threat (record { own = []; given = heading ∷ [] }) (tree.OfUnit (codes "u") 0) (calls (codes "m")) ≡ true
threatened_by_call = refl

no_such_routine : stmt_threat (record { own = []; given = heading ∷ [] }) (tree.OfUnit (codes "u") 0) (calls (codes "u")) ≡ false
no_such_routine = refl

-- ---- the names of functions

-- in code of two routines, of which the outer one is the function 3, whose result is its variable 0
abbrev result : FunctionResult
result = record { function = 3; level = 1; variable = 0; kind = kind.Ordinal host.Integer }

assigned_deeper : function_target 2 (codes "u") (declares 3 x) (result ∷ []) ≡ Accepts (record { receiver = Some (At (Own 1 0)); kind = kind.Ordinal host.Integer })
assigned_deeper = refl

other_function : function_target 2 (codes "u") (declares 4 x) (result ∷ []) ≡ Breaks (rule.FUNCTION_ASSIGNED ∷ [])
other_function = refl

-- inside of `for x`, x := 3 and c := 3
abbrev inside : ℕ → Judged (Option Stmt)
inside number = unless_threatening (stmt_threat nothing_called) (tree.OfUnit (codes "u") 0 ∷ []) (Accepts (Some (Assign 1 (Variable (codes "u") number) (Constant (pos 3)))))

assigned_inside : inside 0 ≡ Breaks (rule.CONTROL_THREATENED ∷ [])
assigned_inside = refl

other_assigned : inside 1 ≡ Accepts (Some (Assign 1 (Variable (codes "u") 1) (Constant (pos 3))))
other_assigned = refl

-- ---- components

-- the colors, of which red is the first and blue the last one
abbrev color : Host
color = host.Enumeration (record { number = 0; last = 1 })

-- an array of integers by colors
abbrev row : StructuredType
row = record { number = 3; composition = composition.Array (record { index = color; low = pos 0; high = pos 1; component = type_name.Required simple.Integer; kind = kind.Ordinal host.Integer }) }

-- a variable of the array type of a number
abbrev array : ℕ → Declaration
array number = declaration.Variable (type_name.Entry number) (kind.Structured number) protection.Unprotected

-- a protected parameter of the type of the row
abbrev guarded : Declaration
guarded = declaration.Own (type_name.Entry 3) (kind.Structured 3) protection.Protected

-- the integer x, the color red, the row a, b of another array type, and the protected row g
abbrev rows : Context
rows =
    record context {
      scopes =
          record {
            entries =
                (codes "x", thing.Declared (declares 0 x)) ∷ (codes "red", thing.Declared (declares 0 (declaration.Constant (kind.Ordinal color) (value.Word (pos 0)) 1)))
                ∷ (codes "a", thing.Declared (declares 2 (array 3))) ∷ (codes "b", thing.Declared (declares 3 (array 4))) ∷ (codes "g", thing.Declared (declares 4 guarded)) ∷ [];
            qualified = [];
            structures = row ∷ [];
            records = [];
          } ∷ [];
    }

-- a name with an index
abbrev indexed : List ℕ → Expression → Access
indexed n index = access_node 1 n (selector.Index 1 (index ∷ []) ∷ [])

-- the assignment of an expression
abbrev assigns : Access → Expression → Judged (Option Stmt)
assigns a e = both (assigned rows.locals 1) (target_judged rows a) (judged rows.scopes e)

-- a[red] := 1
component_assigned : assigns (indexed (codes "a") (name_alone (codes "red"))) (number_alone 1) ≡ Accepts (Some (Assign 1 (Indexed (Variable (codes "u") 2) (Constant (pos 0))) (Constant (pos 1))))
component_assigned = simp (access-judged, indexes-judged, expression-judged, simple-judged, term-judged, name-judged, number-judged) refl

-- a[red] := red
other_component : assigns (indexed (codes "a") (name_alone (codes "red"))) (name_alone (codes "red")) ≡ Breaks (rule.ASSIGNMENT ∷ [])
other_component = simp (access-judged, indexes-judged, expression-judged, simple-judged, term-judged, name-judged) refl

-- a[1] := 1, where the index is a color
other_index : assigns (indexed (codes "a") (number_alone 1)) (number_alone 1) ≡ Breaks (rule.INDEX ∷ [])
other_index = simp (access-judged, indexes-judged, expression-judged, simple-judged, term-judged, number-judged) refl

-- x[1] := 1, where x is no array
no_array : assigns (indexed (codes "x") (number_alone 1)) (number_alone 1) ≡ Breaks (rule.INDEX ∷ [])
no_array = simp (access-judged, indexes-judged, expression-judged, simple-judged, term-judged, number-judged) refl

-- g[red] := 1
protected_component : assigns (indexed (codes "g") (name_alone (codes "red"))) (number_alone 1) ≡ Breaks (rule.PROTECTED ∷ [])
protected_component = simp (access-judged, indexes-judged, expression-judged, simple-judged, term-judged, name-judged, number-judged) refl

-- a := a
whole_array : assigns (access_node 1 (codes "a") []) (name_alone (codes "a")) ≡ Accepts (Some (Assign 1 (Variable (codes "u") 2) (Read (Variable (codes "u") 2))))
whole_array = simp (expression-judged, simple-judged, term-judged, name-judged) refl

-- a := b
other_array : assigns (access_node 1 (codes "a") []) (name_alone (codes "b")) ≡ Breaks (rule.ASSIGNMENT ∷ [])
other_array = simp (expression-judged, simple-judged, term-judged, name-judged) refl

-- g := a
protected_array : assigns (access_node 1 (codes "g") []) (name_alone (codes "a")) ≡ Breaks (rule.PROTECTED ∷ [])
protected_array = simp (expression-judged, simple-judged, term-judged, name-judged) refl

-- no array counts, so none is a control variable, nor is a component of one
array_does_not_count : counted_by (tree.OfUnit (codes "u") 2) (kind.Structured 3) ≡ Breaks (rule.ORDINAL ∷ [])
array_does_not_count = refl

-- a[v] := 3 threatens a, and not the control variable v
threatened_array : stmt_threat nothing_called (tree.OfUnit (codes "u") 2) (Assign 1 (Indexed (Variable (codes "u") 2) (Read (Variable (codes "u") 5))) (Constant (pos 3))) ≡ true
threatened_array = refl

index_is_no_threat : stmt_threat nothing_called (tree.OfUnit (codes "u") 5) (Assign 1 (Indexed (Variable (codes "u") 2) (Read (Variable (codes "u") 5))) (Constant (pos 3))) ≡ false
index_is_no_threat = refl

-- ---- `for` over members

-- the head of a `for` with a char as its control variable over a value of this kind
abbrev over : Kind → Judged (Option MemberHead)
over k = members_judged (OfUnit (codes "u") 2) 4 (record { variable = tree.OfUnit (codes "u") 1; host = host.Char }) (Accepts (record { form = Some (Read (Variable (codes "u") 7)); kind = k; depth = 1; access = access.Value }))

-- goes by the set with the auxiliary variable of its number
abbrev char_head : MemberHead
char_head = record { control = record { variable = tree.OfUnit (codes "u") 1; rest = tree.OfUnit (codes "u") 4 }; set = Read (Variable (codes "u") 7) }

own_set : over (kind.Set host.Char) ≡ Accepts (Some char_head)
own_set = refl

empty_set : over kind.EmptySet ≡ Accepts (Some char_head)
empty_set = refl

other_set : over (kind.Set host.Integer) ≡ Breaks (rule.ASSIGNMENT ∷ [])
other_set = refl

no_set : over (kind.Ordinal host.Char) ≡ Breaks (rule.ASSIGNMENT ∷ [])
no_set = refl

-- it threatens its control variable, and not its auxiliary one
control_threatened : stmt_threat nothing_called (tree.OfUnit (codes "u") 1) (ForIn 1 char_head.control char_head.set Empty) ≡ true
control_threatened = refl

rest_not_threatened : stmt_threat nothing_called (tree.OfUnit (codes "u") 4) (ForIn 1 char_head.control char_head.set Empty) ≡ false
rest_not_threatened = refl
