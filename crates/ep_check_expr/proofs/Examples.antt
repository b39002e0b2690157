-- What the rules say of small expressions.
use Rattle.std.proofs.Common.{◌≡◌, ℕ, pos, false, List, [], ◌∷◌, ◌++◌, Some, None, refl, codes}
use Rattle.ep_tree.specs.Nodes.{expression_node, comparison_node, simple_node, addend_node, term_node, multiplier_node, access_node, argument_node}
use Rattle.ep_tree.specs.declared.expression.Argument.{Argument}
use Rattle.ep_tree.specs.declared.expression.Expression.{Expression}
use Rattle.ep_tree.specs.declared.expression.Factor.{Factor}
use Rattle.ep_tree.specs.declared.expression.Factor.TheVariants as factor
use Rattle.ep_tree.specs.declared.expression.Selector.TheVariants as selector
use Rattle.ep_tree.specs.declared.expression.Simple.{Simple}
use Rattle.ep_tree.specs.declared.expression.Term.{Term}
use Rattle.ep_tree.specs.declared.operator.AddingOperator.TheVariants as adding
use Rattle.ep_tree.specs.declared.operator.MultiplyingOperator.TheVariants as multiplying
use Rattle.ep_tree.specs.declared.operator.RelationalOperator.TheVariants as relation
use Rattle.ep_typed.specs.Trees.{Expr, Field, Accessed, Callee, Constant, Evaluated, FieldValue, Function, Indexed, IndexedValue, OfUnit, Own, Place, Read, Two, Step, Variable, next_actual, no_actual}
use Rattle.ep_values.specs.declared.operations.Binary.TheVariants as binary
use Rattle.ep_typed.specs.declared.value.Value.TheVariants as value
use Rattle.ep_scope.specs.Scopes.{Region, empty_region, within}
use Rattle.ep_scope.specs.declared.structure.Composition.TheVariants as composition
use Rattle.ep_scope.specs.declared.structure.FieldType.{FieldType}
use Rattle.ep_scope.specs.declared.structure.StructuredType.{StructuredType}
use Rattle.ep_scope.specs.declared.kind.Host.{Host}
use Rattle.ep_scope.specs.declared.kind.Host.TheVariants as host
use Rattle.ep_scope.specs.declared.kind.Kind.{Kind}
use Rattle.ep_scope.specs.declared.kind.Kind.TheVariants as kind
use Rattle.ep_scope.specs.declared.rule.TheConstants as rule
use Rattle.ep_typed.specs.declared.denoter.RequiredType.TheVariants as simple
use Rattle.ep_typed.specs.declared.interface.FormalMode.{FormalMode}
use Rattle.ep_typed.specs.declared.interface.FormalMode.TheVariants as mode
use Rattle.ep_scope.specs.declared.parameter.FormalParameter.{FormalParameter}
use Rattle.ep_scope.specs.declared.parameter.Protection.TheVariants as protection
use Rattle.ep_scope.specs.declared.parameter.TypeName.{TypeName}
use Rattle.ep_scope.specs.declared.parameter.TypeName.TheVariants as type_name
use Rattle.ep_scope.specs.declared.parameter.WrittenType.{WrittenType}
use Rattle.ep_scope.specs.declared.thing.Declaration.{Declaration}
use Rattle.ep_scope.specs.declared.thing.Declaration.TheVariants as declaration
use Rattle.ep_scope.specs.declared.thing.Thing.{Thing}
use Rattle.ep_scope.specs.declared.thing.Thing.TheVariants as thing
use Rattle.ep_check_expr.proofs.public.Nodes.{expression-judged, comparison-judged, simple-judged, addend-judged, term-judged, multiplier-judged, name-judged, field-judged, indexes-judged, arguments-judged, argument-judged, wide-judged, number-judged, parenthesized-judged, string-judged}
use Rattle.ep_rules.specs.declared.access.Access.TheVariants as access
use Rattle.ep_rules.specs.Arguments.{given_to}
use Rattle.ep_check_expr.specs.Constants.{constant_expression, bound_judged}
use Rattle.ep_check_expr.specs.Expressions.{judged}
use Rattle.ep_rules.specs.Judgements.{Accepts, Breaks, when_accepted}
use Rattle.ep_rules.specs.Operators.{integer}

-- an expression of one factor
abbrev factor_term : Factor → Term
factor_term f = term_node 1 f []

abbrev simple_of : Factor → Simple
simple_of f = simple_node 1 None (factor_term f) []

abbrev pub bare : Factor → Expression
bare f = expression_node 1 (simple_of f) None

abbrev name : List ℕ → Factor
name n = factor.Access (access_node 1 n [])

abbrev number : ℕ → Factor
number n = factor.Number 1 (pos n)

-- a sum
abbrev sum : Factor → Factor → Expression
sum x y = expression_node 1 (simple_node 1 None (factor_term x) (addend_node adding.Plus (factor_term y) ∷ [])) None

abbrev text : List ℕ → Factor
text bytes = factor.Text 1 bytes

-- x div y
abbrev quotient : Factor → Factor → Expression
quotient x y = expression_node 1 (simple_node 1 None (term_node 1 x (multiplier_node multiplying.Div y ∷ [])) []) None

-- x = y
abbrev equality : Factor → Factor → Expression
equality x y = expression_node 1 (simple_of x) (Some (comparison_node relation.Equal (simple_of y)))

-- a call
abbrev pub call : List ℕ → List Argument → Factor
call f arguments = factor.Access (access_node 1 f (selector.Arguments 1 arguments ∷ []))

-- with indexes
abbrev indexed : List ℕ → List Expression → Factor
indexed a indexes = factor.Access (access_node 1 a (selector.Index 1 indexes ∷ []))

abbrev pub plain : Factor → Argument
plain x = argument_node 1 (bare x) None

abbrev wide : Factor → Factor → Argument
wide x w = argument_node 1 (bare x) (Some (bare w))

-- the colors, of which red is the first and blue the last one
abbrev pub color : Host
color = host.Enumeration (record { number = 0; last = 1 })

abbrev declares_at : ℕ → ℕ → Declaration → Thing
declares_at level number what = thing.Declared (record { unit = codes "p"; number = number; level = level; what = what })

abbrev pub declares : ℕ → Declaration → Thing
declares number what = declares_at 0 number what

-- a type by its own name
abbrev pub written : TypeName → WrittenType
written t = record { name = t; is = t }

-- a formal parameter of type integer
abbrev integer_parameter : FormalMode → FormalParameter
integer_parameter how = record { name = codes "n"; mode = how; section = 0; of = written (type_name.Required simple.Integer); kind = integer }

-- a function of an integer, whose result is a color
abbrev pub function_of : FormalMode → Declaration
function_of how = declaration.Function (integer_parameter how ∷ []) (written (type_name.Entry 0)) (kind.Ordinal color)

-- an array of integers by colors, and one of such arrays by Booleans
abbrev row : StructuredType
row = record { number = 3; composition = composition.Array (record { index = color; low = pos 0; high = pos 1; component = type_name.Required simple.Integer; kind = integer }) }

abbrev table : StructuredType
table = record { number = 4; composition = composition.Array (record { index = host.Boolean; low = pos 0; high = pos 1; component = type_name.Entry 3; kind = kind.Structured 3 }) }

-- a function of such an array, whose result is a color
abbrev row_parameter : FormalMode → FormalParameter
row_parameter how = record { name = codes "n"; mode = how; section = 0; of = written (type_name.Entry 3); kind = kind.Structured 3 }

abbrev function_of_row : FormalMode → Declaration
function_of_row how = declaration.Function (row_parameter how ∷ []) (written (type_name.Entry 0)) (kind.Ordinal color)

-- a function with these formal parameters, whose result is such an array
abbrev giving_row : List FormalParameter → Declaration
giving_row parameters = declaration.Function parameters (written (type_name.Entry 3)) (kind.Structured 3)

-- red, of the colors, the integer x, f with a value parameter, g with a variable parameter, h without any, the arrays a and b,
-- r with a value parameter and s without any, which give arrays, and k and l, which take one as f and g take an integer
abbrev scope : List Region
scope = record {
  entries = (codes "red", declares 0 (declaration.Constant (kind.Ordinal color) (value.Word (pos 0)) 1)) ∷ (codes "x", declares 0 (declaration.Variable (type_name.Required simple.Integer) integer protection.Unprotected))
      ∷ (codes "f", declares 0 (function_of mode.Value)) ∷ (codes "g", declares 1 (function_of mode.Variable)) ∷ (codes "h", declares 2 (declaration.Function [] (written (type_name.Required simple.Integer)) integer))
      ∷ (codes "a", declares 6 (declaration.Variable (type_name.Entry 3) (kind.Structured 3) protection.Unprotected)) ∷ (codes "b", declares 7 (declaration.Variable (type_name.Entry 4) (kind.Structured 4) protection.Unprotected))
      ∷ (codes "r", declares 3 (giving_row (integer_parameter mode.Value ∷ []))) ∷ (codes "s", declares 4 (giving_row [])) ∷ (codes "k", declares 5 (function_of_row mode.Value)) ∷ (codes "l", declares 6 (function_of_row mode.Variable)) ∷ [];
  qualified = [];
  structures = row ∷ table ∷ [];
  records = [];
} ∷ []

-- a function of the program
abbrev pub of_program : ℕ → Callee
of_program number = record { unit = codes "p"; number = number; levels = 0 }

-- an integer of a routine
abbrev integer_variable : Declaration
integer_variable = declaration.Own (type_name.Required simple.Integer) integer protection.Unprotected

-- In the block of a routine in a routine, of which the outer one has the integer y and the function i, and the inner one the integer z,
-- where nothing is around the block of the program.
abbrev inside : List Region
inside = record { entries = (codes "z", declares_at 2 4 integer_variable) ∷ []; qualified = []; structures = []; records = [] }
    ∷ record { entries = (codes "y", declares_at 1 3 integer_variable) ∷ (codes "i", declares_at 1 5 (declaration.Function [] (written (type_name.Required simple.Integer)) integer)) ∷ []; qualified = []; structures = []; records = [] } ∷ (scope ++ empty_region ∷ [])

-- y + z, by the levels between
levels_between : judged inside (sum (name (codes "y")) (name (codes "z"))) ≡ Accepts (record { form = Some (Two binary.Add (Read (Own 1 3)) (Read (Own 0 4))); kind = integer; depth = 3; access = access.Value })
levels_between = simp (expression-judged, simple-judged, addend-judged, term-judged, name-judged) refl

-- i + h: i is called by the routine in the one that has it
called_inside : judged inside (sum (name (codes "i")) (name (codes "h")))
    ≡ Accepts (record { form = Some (Two binary.Add (Function (record { unit = codes "p"; number = 5; levels = 2 }) no_actual) (Function (of_program 2) no_actual)); kind = integer; depth = 2; access = access.Value })
called_inside = simp (expression-judged, simple-judged, addend-judged, term-judged, name-judged) refl

-- 3
three : judged scope (bare (number 3)) ≡ Accepts (record { form = Some (Constant (pos 3)); kind = integer; depth = 1; access = access.Value })
three = simp (expression-judged, simple-judged, term-judged, number-judged) refl

-- x + 3
variable_and_number : judged scope (sum (name (codes "x")) (number 3)) ≡ Accepts (record { form = Some (Two binary.Add (Read (Variable (codes "p") 0)) (Constant (pos 3))); kind = integer; depth = 3; access = access.Value })
variable_and_number = simp (expression-judged, simple-judged, addend-judged, term-judged, name-judged, number-judged) refl

-- succ(red), within the colors
successor : judged scope (bare (call (codes "succ") (plain (name (codes "red")) ∷ []))) ≡ Accepts (record { form = Some (Step false (pos 0) (pos 1) (Constant (pos 0)) (Constant (pos 1))); kind = kind.Ordinal color; depth = 2; access = access.Value })
successor = simp (expression-judged, simple-judged, term-judged, name-judged, arguments-judged, argument-judged) refl

-- 1 + true
number_and_boolean : judged scope (sum (number 1) (name (codes "true"))) ≡ Breaks (rule.OPERANDS ∷ [])
number_and_boolean = simp (expression-judged, simple-judged, addend-judged, term-judged, name-judged, number-judged) refl

-- x = red
number_and_color : judged scope (equality (name (codes "x")) (name (codes "red"))) ≡ Breaks (rule.OPERANDS ∷ [])
number_and_color = simp (comparison-judged, simple-judged, term-judged, name-judged) refl

-- 'a' + 'b', which has no code yet
characters : judged scope (sum (text (codes "a")) (text (codes "b"))) ≡ Accepts (record { form = None; kind = kind.Text; depth = 2; access = access.Value })
characters = simp (expression-judged, simple-judged, addend-judged, term-judged, string-judged) refl

-- abs('a')
absolute : judged scope (bare (call (codes "abs") (plain (text (codes "a")) ∷ []))) ≡ Breaks (rule.REQUIRED_ARGUMENT ∷ [])
absolute = simp (expression-judged, simple-judged, term-judged, name-judged, arguments-judged, argument-judged, string-judged) refl

-- abs(1, 2)
two_arguments : judged scope (bare (call (codes "abs") (plain (number 1) ∷ plain (number 2) ∷ []))) ≡ Breaks (rule.ARGUMENTS ∷ [])
two_arguments = simp (expression-judged, simple-judged, term-judged, name-judged, arguments-judged, argument-judged, number-judged) refl

-- abs(1:2)
width : judged scope (bare (call (codes "abs") (wide (number 1) (number 2) ∷ []))) ≡ Breaks (rule.WIDTH ∷ [])
width = simp (expression-judged, simple-judged, term-judged, name-judged, arguments-judged, wide-judged, number-judged) refl

-- y + output, where neither is declared
other_names : judged scope (sum (name (codes "y")) (name (codes "output"))) ≡ Breaks (rule.UNDECLARED ∷ rule.STANDARD_FILE ∷ rule.UNDECLARED ∷ [])
other_names = simp (expression-judged, simple-judged, addend-judged, term-judged, name-judged) refl

-- 1 div 0, where no constant is asked for
quotient_by_zero : judged scope (quotient (number 1) (number 0)) ≡ Accepts (record { form = Some (Two binary.Divide (Constant (pos 1)) (Constant (pos 0))); kind = integer; depth = 2; access = access.Value })
quotient_by_zero = simp (expression-judged, simple-judged, term-judged, multiplier-judged, number-judged) refl

-- and where one is
constant_quotient_by_zero : constant_expression scope (quotient (number 1) (number 0)) ≡ Breaks (rule.CONSTANT ∷ [])
constant_quotient_by_zero = simp (expression-judged, simple-judged, term-judged, multiplier-judged, number-judged) refl

-- f(3)
called_by_value : judged scope (bare (call (codes "f") (plain (number 3) ∷ [])))
    ≡ Accepts (record { form = Some (Function (of_program 0) (next_actual (Evaluated (Constant (pos 3))) no_actual)); kind = kind.Ordinal color; depth = 2; access = access.Value })
called_by_value = simp (expression-judged, simple-judged, term-judged, name-judged, arguments-judged, argument-judged, number-judged) refl

-- g(x)
called_by_variable : judged scope (bare (call (codes "g") (plain (name (codes "x")) ∷ [])))
    ≡ Accepts (record { form = Some (Function (of_program 1) (next_actual (Accessed (Variable (codes "p") 0)) no_actual)); kind = kind.Ordinal color; depth = 3; access = access.Value })
called_by_variable = simp (expression-judged, simple-judged, term-judged, name-judged, arguments-judged, argument-judged) refl

-- h
called_alone : judged scope (bare (name (codes "h"))) ≡ Accepts (record { form = Some (Function (of_program 2) no_actual); kind = integer; depth = 1; access = access.Value })
called_alone = simp (expression-judged, simple-judged, term-judged, name-judged) refl

-- f
without_argument : judged scope (bare (name (codes "f"))) ≡ Breaks (rule.ARGUMENTS ∷ [])
without_argument = simp (expression-judged, simple-judged, term-judged, name-judged) refl

-- g(3)
value_for_variable : judged scope (bare (call (codes "g") (plain (number 3) ∷ []))) ≡ Breaks (rule.VARIABLE_NEEDED ∷ [])
value_for_variable = simp (expression-judged, simple-judged, term-judged, name-judged, arguments-judged, argument-judged, number-judged) refl

-- g(red), which is a constant
constant_for_variable : judged scope (bare (call (codes "g") (plain (name (codes "red")) ∷ []))) ≡ Breaks (rule.CONSTANT_THREATENED ∷ rule.VARIABLE_NEEDED ∷ [])
constant_for_variable = simp (expression-judged, simple-judged, term-judged, name-judged, arguments-judged, argument-judged) refl

-- g((x)), which is no variable
parenthesized_for_variable : judged scope (bare (call (codes "g") (plain (factor.Parenthesized 1 (bare (name (codes "x")))) ∷ []))) ≡ Breaks (rule.VARIABLE_NEEDED ∷ [])
parenthesized_for_variable = simp (expression-judged, simple-judged, term-judged, name-judged, arguments-judged, argument-judged, parenthesized-judged) refl

-- h, where a constant is asked for
constant_call : constant_expression scope (bare (name (codes "h"))) ≡ Breaks (rule.CONSTANT ∷ [])
constant_call = simp (expression-judged, simple-judged, term-judged, name-judged) refl

-- a bound that varies
varying_bound : bound_judged scope (bare (name (codes "x"))) ≡ Breaks (rule.BOUND_CONSTANT ∷ rule.CONSTANT ∷ [])
varying_bound = simp (expression-judged, simple-judged, term-judged, name-judged) refl

-- the place of a[red]
abbrev red_of_a : Place
red_of_a = Indexed (Variable (codes "p") 6) (Constant (pos 0))

-- a[red]
component : judged scope (bare (indexed (codes "a") (bare (name (codes "red")) ∷ [])))
    ≡ Accepts (record { form = Some (Read red_of_a); kind = integer; depth = 3; access = access.Variable (type_name.Required simple.Integer) protection.Unprotected })
component = simp (expression-judged, simple-judged, term-judged, name-judged, indexes-judged) refl

-- b[true, red]
component_of_component : judged scope (bare (indexed (codes "b") (bare (name (codes "true")) ∷ bare (name (codes "red")) ∷ [])))
    ≡ Accepts (record { form = Some (Read (Indexed (Indexed (Variable (codes "p") 7) (Constant (pos 1))) (Constant (pos 0)))); kind = integer; depth = 4; access = access.Variable (type_name.Required simple.Integer) protection.Unprotected })
component_of_component = simp (expression-judged, simple-judged, term-judged, name-judged, indexes-judged) refl

-- b[true][red]
selectors_in_a_row : judged scope (bare (factor.Access (access_node 1 (codes "b") (selector.Index 1 (bare (name (codes "true")) ∷ []) ∷ selector.Index 1 (bare (name (codes "red")) ∷ []) ∷ []))))
    ≡ judged scope (bare (indexed (codes "b") (bare (name (codes "true")) ∷ bare (name (codes "red")) ∷ [])))
selectors_in_a_row = simp (expression-judged, simple-judged, term-judged, name-judged, indexes-judged) refl

-- b[true], which is an array
array_of_arrays : judged scope (bare (indexed (codes "b") (bare (name (codes "true")) ∷ [])))
    ≡ Accepts (record { form = Some (Read (Indexed (Variable (codes "p") 7) (Constant (pos 1)))); kind = kind.Structured 3; depth = 3; access = access.Variable (type_name.Entry 3) protection.Unprotected })
array_of_arrays = simp (expression-judged, simple-judged, term-judged, name-judged, indexes-judged) refl

-- a[1], where the index is a color
other_index : judged scope (bare (indexed (codes "a") (bare (number 1) ∷ []))) ≡ Breaks (rule.INDEX ∷ [])
other_index = simp (expression-judged, simple-judged, term-judged, name-judged, indexes-judged, number-judged) refl

-- x[1], which is no array
no_array : judged scope (bare (indexed (codes "x") (bare (number 1) ∷ []))) ≡ Breaks (rule.INDEX ∷ [])
no_array = simp (expression-judged, simple-judged, term-judged, name-judged, indexes-judged, number-judged) refl

-- y[y], which is not declared
undeclared_both : judged scope (bare (indexed (codes "y") (bare (name (codes "y")) ∷ []))) ≡ Breaks (rule.UNDECLARED ∷ rule.UNDECLARED ∷ [])
undeclared_both = simp (expression-judged, simple-judged, term-judged, name-judged, indexes-judged) refl

-- a + 1
sum_of_array : judged scope (sum (name (codes "a")) (number 1)) ≡ Breaks (rule.OPERANDS ∷ [])
sum_of_array = simp (expression-judged, simple-judged, addend-judged, term-judged, name-judged, number-judged) refl

-- g(a[red])
component_for_variable : judged scope (bare (call (codes "g") (plain (indexed (codes "a") (bare (name (codes "red")) ∷ [])) ∷ [])))
    ≡ Accepts (record { form = Some (Function (of_program 1) (next_actual (Accessed red_of_a) no_actual)); kind = kind.Ordinal color; depth = 4; access = access.Value })
component_for_variable = simp (expression-judged, simple-judged, term-judged, name-judged, indexes-judged, arguments-judged, argument-judged) refl

-- f(a)
array_for_integer : judged scope (bare (call (codes "f") (plain (name (codes "a")) ∷ []))) ≡ Breaks (rule.ASSIGNMENT ∷ [])
array_for_integer = simp (expression-judged, simple-judged, term-judged, name-judged, arguments-judged, argument-judged) refl

-- a, where a constant is asked for
constant_array : constant_expression scope (bare (name (codes "a"))) ≡ Breaks (rule.CONSTANT ∷ [])
constant_array = simp (expression-judged, simple-judged, term-judged, name-judged) refl

-- r(3), an array
array_given : judged scope (bare (call (codes "r") (plain (number 3) ∷ [])))
    ≡ Accepts (record { form = Some (Function (of_program 3) (next_actual (Evaluated (Constant (pos 3))) no_actual)); kind = kind.Structured 3; depth = 2; access = access.Value })
array_given = simp (expression-judged, simple-judged, term-judged, name-judged, arguments-judged, argument-judged, number-judged) refl

-- r(3), where an integer is assigned to
given_array_assigned : when_accepted (λ t. given_to (λ x. x) integer t.kind t.form) (judged scope (bare (call (codes "r") (plain (number 3) ∷ [])))) ≡ Breaks (rule.ASSIGNMENT ∷ [])
given_array_assigned = rw array_given refl

-- r(s)
given_array_for_integer : judged scope (bare (call (codes "r") (plain (name (codes "s")) ∷ []))) ≡ Breaks (rule.ASSIGNMENT ∷ [])
given_array_for_integer = simp (expression-judged, simple-judged, term-judged, name-judged, arguments-judged, argument-judged) refl

-- s[red], which is no variable
abbrev red_of_s : Expr
red_of_s = IndexedValue (Function (of_program 4) no_actual) (Constant (pos 0))

component_given : judged scope (bare (indexed (codes "s") (bare (name (codes "red")) ∷ []))) ≡ Accepts (record { form = Some red_of_s; kind = integer; depth = 2; access = access.Value })
component_given = simp (expression-judged, simple-judged, term-judged, name-judged, indexes-judged) refl

-- s[red], where a constant and where a bound is asked for
constant_component_given : constant_expression scope (bare (indexed (codes "s") (bare (name (codes "red")) ∷ []))) ≡ Breaks (rule.CONSTANT ∷ [])
constant_component_given = simp (expression-judged, simple-judged, term-judged, name-judged, indexes-judged) refl

bound_component_given : bound_judged scope (bare (indexed (codes "s") (bare (name (codes "red")) ∷ []))) ≡ Breaks (rule.BOUND_CONSTANT ∷ rule.CONSTANT ∷ [])
bound_component_given = simp (expression-judged, simple-judged, term-judged, name-judged, indexes-judged) refl

-- g(s[red])
component_given_for_variable : judged scope (bare (call (codes "g") (plain (indexed (codes "s") (bare (name (codes "red")) ∷ [])) ∷ []))) ≡ Breaks (rule.VARIABLE_NEEDED ∷ [])
component_given_for_variable = simp (expression-judged, simple-judged, term-judged, name-judged, indexes-judged, arguments-judged, argument-judged) refl

-- r(3)[red]
component_of_call : judged scope (bare (factor.Access (access_node 1 (codes "r") (selector.Arguments 1 (plain (number 3) ∷ []) ∷ selector.Index 1 (bare (name (codes "red")) ∷ []) ∷ []))))
    ≡ Accepts (record { form = Some (IndexedValue (Function (of_program 3) (next_actual (Evaluated (Constant (pos 3))) no_actual)) (Constant (pos 0))); kind = integer; depth = 3; access = access.Value })
component_of_call = simp (expression-judged, simple-judged, term-judged, name-judged, indexes-judged, arguments-judged, argument-judged, number-judged) refl

-- f(3).x, of a color
field_of_color : judged scope (bare (factor.Access (access_node 1 (codes "f") (selector.Arguments 1 (plain (number 3) ∷ []) ∷ selector.Field 1 (codes "x") ∷ [])))) ≡ Breaks (rule.FIELD ∷ [])
field_of_color = simp (expression-judged, simple-judged, term-judged, name-judged, field-judged, arguments-judged, argument-judged, number-judged) refl

-- s[1], where the index is a color
other_index_given : judged scope (bare (indexed (codes "s") (bare (number 1) ∷ []))) ≡ Breaks (rule.INDEX ∷ [])
other_index_given = simp (expression-judged, simple-judged, term-judged, name-judged, indexes-judged, number-judged) refl

-- h[1], which gives no array
no_array_given : judged scope (bare (indexed (codes "h") (bare (number 1) ∷ []))) ≡ Breaks (rule.INDEX ∷ [])
no_array_given = simp (expression-judged, simple-judged, term-judged, name-judged, indexes-judged, number-judged) refl

-- k(s)
given_array_for_value : judged scope (bare (call (codes "k") (plain (name (codes "s")) ∷ [])))
    ≡ Accepts (record { form = Some (Function (of_program 5) (next_actual (Evaluated (Function (of_program 4) no_actual)) no_actual)); kind = kind.Ordinal color; depth = 2; access = access.Value })
given_array_for_value = simp (expression-judged, simple-judged, term-judged, name-judged, arguments-judged, argument-judged) refl

-- l(s)
given_array_for_variable : judged scope (bare (call (codes "l") (plain (name (codes "s")) ∷ []))) ≡ Breaks (rule.VARIABLE_NEEDED ∷ [])
given_array_for_variable = simp (expression-judged, simple-judged, term-judged, name-judged, arguments-judged, argument-judged) refl

-- s, where a constant is asked for
constant_given_array : constant_expression scope (bare (name (codes "s"))) ≡ Breaks (rule.CONSTANT ∷ [])
constant_given_array = simp (expression-judged, simple-judged, term-judged, name-judged) refl

-- ---- fields of records

-- a field of a record that is in no variant
abbrev pub plain_field : List ℕ → TypeName → Kind → ℕ → FieldType
plain_field name of k number = record { name = name; of = of; kind = k; path = []; number = number; tag = None }

-- a record of an integer x and a color y, and an array of such records by colors
abbrev point : StructuredType
point = record { number = 5; composition = composition.Record (plain_field (codes "x") (type_name.Required simple.Integer) integer 0 ∷ plain_field (codes "y") (type_name.Entry 0) (kind.Ordinal color) 1 ∷ []) }

abbrev points : StructuredType
points = record { number = 6; composition = composition.Array (record { index = color; low = pos 0; high = pos 1; component = type_name.Entry 5; kind = kind.Structured 5 }) }

-- the record c, the array d, a function e that gives such an array, the integer x, and an interface that exports a color x
abbrev with_records : List Region
with_records = record {
  entries = (codes "c", declares 8 (declaration.Variable (type_name.Entry 5) (kind.Structured 5) protection.Unprotected)) ∷ (codes "d", declares 9 (declaration.Variable (type_name.Entry 6) (kind.Structured 6) protection.Unprotected))
      ∷ (codes "e", declares 2 (declaration.Function [] (written (type_name.Entry 6)) (kind.Structured 6)))
      ∷ (codes "x", declares 0 (declaration.Variable (type_name.Required simple.Integer) integer protection.Unprotected)) ∷ (codes "red", declares 0 (declaration.Constant (kind.Ordinal color) (value.Word (pos 0)) 1)) ∷ [];
  qualified = (codes "shades", (codes "x", declares 1 (declaration.Constant (kind.Ordinal color) (value.Word (pos 1)) 1)) ∷ []) ∷ [];
  structures = point ∷ points ∷ [];
  records = [];
} ∷ []

abbrev pub field : List ℕ → List ℕ → Factor
field r f = factor.Access (access_node 1 r (selector.Field 1 f ∷ []))

-- c.y
second_field : judged with_records (bare (field (codes "c") (codes "y")))
    ≡ Accepts (record { form = Some (Read (Field (Variable (codes "p") 8) 1)); kind = kind.Ordinal color; depth = 3; access = access.Variable (type_name.Entry 0) protection.Unprotected })
second_field = simp (expression-judged, simple-judged, term-judged, name-judged, field-judged) refl

-- d[red].x
field_of_component : judged with_records (bare (factor.Access (access_node 1 (codes "d") (selector.Index 1 (bare (name (codes "red")) ∷ []) ∷ selector.Field 1 (codes "x") ∷ []))))
    ≡ Accepts (record { form = Some (Read (Field (Indexed (Variable (codes "p") 9) (Constant (pos 0))) 0)); kind = integer; depth = 4; access = access.Variable (type_name.Required simple.Integer) protection.Unprotected })
field_of_component = simp (expression-judged, simple-judged, term-judged, name-judged, indexes-judged, field-judged) refl

-- e[red].y
field_of_given : judged with_records (bare (factor.Access (access_node 1 (codes "e") (selector.Index 1 (bare (name (codes "red")) ∷ []) ∷ selector.Field 1 (codes "y") ∷ []))))
    ≡ Accepts (record { form = Some (FieldValue (IndexedValue (Function (of_program 2) no_actual) (Constant (pos 0))) 1); kind = kind.Ordinal color; depth = 3; access = access.Value })
field_of_given = simp (expression-judged, simple-judged, term-judged, name-judged, indexes-judged, field-judged) refl

-- e.y, of an array
field_of_given_array : judged with_records (bare (field (codes "e") (codes "y"))) ≡ Breaks (rule.FIELD ∷ [])
field_of_given_array = simp (expression-judged, simple-judged, term-judged, name-judged, field-judged) refl

-- c.z, which the record has not
no_such_field : judged with_records (bare (field (codes "c") (codes "z"))) ≡ Breaks (rule.FIELD ∷ [])
no_such_field = simp (expression-judged, simple-judged, term-judged, name-judged, field-judged) refl

-- x.y and d.x, which are no records
field_of_integer : judged with_records (bare (field (codes "x") (codes "y"))) ≡ Breaks (rule.FIELD ∷ [])
field_of_integer = simp (expression-judged, simple-judged, term-judged, name-judged, field-judged) refl

field_of_array : judged with_records (bare (field (codes "d") (codes "x"))) ≡ Breaks (rule.FIELD ∷ [])
field_of_array = simp (expression-judged, simple-judged, term-judged, name-judged, field-judged) refl

-- c[red], which is no array
index_of_record : judged with_records (bare (indexed (codes "c") (bare (name (codes "red")) ∷ []))) ≡ Breaks (rule.INDEX ∷ [])
index_of_record = simp (expression-judged, simple-judged, term-judged, name-judged, indexes-judged) refl

-- shades.x, which the interface has
constituent : judged with_records (bare (field (codes "shades") (codes "x"))) ≡ Accepts (record { form = Some (Constant (pos 1)); kind = kind.Ordinal color; depth = 1; access = access.Constant })
constituent = simp (expression-judged, simple-judged, term-judged, name-judged, field-judged) refl

-- tints.x, which stands for nothing
field_of_nothing : judged with_records (bare (field (codes "tints") (codes "x"))) ≡ Breaks (rule.UNDECLARED ∷ [])
field_of_nothing = simp (expression-judged, simple-judged, term-judged, name-judged, field-judged) refl

-- ---- records that are open

-- in the statement of a `with` that names c, which is protected
abbrev with_open : List Region
with_open =
    within
    (record {
      variable = OfUnit (codes "p") 20;
      guarded = protection.Protected;
      fields = plain_field (codes "x") (type_name.Required simple.Integer) integer 0 ∷ plain_field (codes "shades") (type_name.Entry 0) (kind.Ordinal color) 1 ∷ [];
    }) with_records

-- x, which hides the variable of its name
open_field : judged with_open (bare (name (codes "x"))) ≡ Accepts (record { form = Some (Read (Field (Variable (codes "p") 20) 0)); kind = integer; depth = 3; access = access.Variable (type_name.Required simple.Integer) protection.Protected })
open_field = simp (expression-judged, simple-judged, term-judged, name-judged) refl

-- red, which is no field
name_outside : judged with_open (bare (name (codes "red"))) ≡ Accepts (record { form = Some (Constant (pos 0)); kind = kind.Ordinal color; depth = 1; access = access.Constant })
name_outside = simp (expression-judged, simple-judged, term-judged, name-judged) refl

-- shades.x, where a field has the name of the interface
interface_hidden : judged with_open (bare (field (codes "shades") (codes "x"))) ≡ Breaks (rule.FIELD ∷ [])
interface_hidden = simp (expression-judged, simple-judged, term-judged, name-judged, field-judged) refl
