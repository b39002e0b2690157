-- The rules of operators, on operands that are accepted (ISO 10206, 6.8.3).
use Rattle.std.specs.Prelude.{ℕ, suc, max, nat_le, Bool, true, false, ◌&&◌, [], ◌∷◌, Option, Some, None, if◌then◌else◌}
use Rattle.std.specs.Option.{option_map}
use Rattle.ep_tree.specs.declared.operator.Sign.{Sign}
use Rattle.ep_tree.specs.declared.operator.Sign.TheVariants as sign
use Rattle.ep_tree.specs.declared.operator.AddingOperator.{AddingOperator}
use Rattle.ep_tree.specs.declared.operator.AddingOperator.TheVariants as adding
use Rattle.ep_tree.specs.declared.operator.MultiplyingOperator.{MultiplyingOperator}
use Rattle.ep_tree.specs.declared.operator.MultiplyingOperator.TheVariants as multiplying
use Rattle.ep_tree.specs.declared.operator.RelationalOperator.{RelationalOperator}
use Rattle.ep_tree.specs.declared.operator.RelationalOperator.TheVariants as relation
use Rattle.ep_typed.specs.Trees.{Expr, One, Two, Short, OnSets}
use Rattle.ep_values.specs.declared.operations.Unary.{Unary}
use Rattle.ep_values.specs.declared.operations.Unary.TheVariants as unary
use Rattle.ep_values.specs.declared.operations.Binary.{Binary}
use Rattle.ep_values.specs.declared.operations.Binary.TheVariants as binary
use Rattle.ep_values.specs.declared.operations.ShortOperation.{ShortOperation}
use Rattle.ep_values.specs.declared.operations.ShortOperation.TheVariants as short
use Rattle.ep_values.specs.declared.operations.SetOperation.{SetOperation}
use Rattle.ep_values.specs.declared.operations.SetOperation.TheVariants as on_sets
use Rattle.ep_scope.specs.Kinds.{same_host}
use Rattle.ep_scope.specs.declared.kind.Host.TheVariants as host
use Rattle.ep_scope.specs.declared.kind.Kind.{Kind}
use Rattle.ep_scope.specs.declared.kind.Kind.TheVariants.{Ordinal, Set, EmptySet, Text}
use Rattle.ep_scope.specs.declared.rule.TheConstants as rule
use Rattle.ep_rules.specs.Judgements.{Judged, Accepts, Breaks, Typed}
use Rattle.ep_rules.specs.declared.access.Access.TheVariants as access
use Rattle.ep_rules.specs.declared.forms.TheConstants as limit

-- the kinds of the required ordinal types
abbrev pub integer : Kind
integer = Ordinal host.Integer

abbrev pub character : Kind
character = Ordinal host.Char

abbrev pub boolean : Kind
boolean = Ordinal host.Boolean

abbrev pub is_integer : Kind → Bool
is_integer (Ordinal host.Integer) = true
is_integer _ = false

abbrev pub is_boolean : Kind → Bool
is_boolean (Ordinal host.Boolean) = true
is_boolean _ = false

-- a string type: `char`, or another one (ISO 10206, 6.4.3.3)
abbrev pub is_string : Kind → Bool
is_string (Ordinal host.Char) = true
is_string Text = true
is_string _ = false

-- two values of one ordinal type, or of its subranges (ISO 10206, 6.4.5)
abbrev pub are_compatible : Kind → Kind → Bool
are_compatible (Ordinal x) (Ordinal y) = same_host x y
are_compatible _ _ = false

-- two sets over one host; the empty set is one over each (ISO 10206, 6.4.5)
abbrev pub are_sets : Kind → Kind → Bool
are_sets (Set x) (Set y) = same_host x y
are_sets (Set x) EmptySet = true
are_sets EmptySet (Set y) = true
are_sets EmptySet EmptySet = true
are_sets _ _ = false

-- the kind of a set of what such sets have
abbrev pub joint_kind : Kind → Kind → Kind
joint_kind EmptySet k = k
joint_kind k l = k

-- a value, and a set over its host
abbrev pub may_be_in : Kind → Kind → Bool
may_be_in (Ordinal x) (Set y) = same_host x y
may_be_in (Ordinal x) EmptySet = true
may_be_in _ _ = false

-- at most so many typed nodes stand one below the other
abbrev pub within_depth : Option Expr → Kind → ℕ → Judged Typed
within_depth form kind depth =
    if nat_le depth limit.DEPTH
    then Accepts (record { form = form; kind = kind; depth = depth; access = access.Value })
    else Breaks (rule.TOO_DEEP ∷ [])

abbrev pub map_both : {A B C : Type 0} → (A → B → C) → Option A → Option B → Option C
map_both f (Some x) (Some y) = Some (f x y)
map_both f _ _ = None

abbrev pub unary_typed : Unary → Kind → Typed → Judged Typed
unary_typed operation kind x = within_depth (option_map (One operation) x.form) kind (suc x.depth)

abbrev pub binary_typed : Binary → Kind → Typed → Typed → Judged Typed
binary_typed operation kind x y =
    within_depth (map_both (Two operation) x.form y.form) kind (suc (max x.depth y.depth))

abbrev pub short_typed : ShortOperation → Kind → Typed → Typed → Judged Typed
short_typed operation kind x y =
    within_depth (map_both (Short operation) x.form y.form) kind (suc (max x.depth y.depth))

abbrev pub on_sets_typed : SetOperation → Kind → Typed → Typed → Judged Typed
on_sets_typed operation kind x y =
    within_depth (map_both (OnSets operation) x.form y.form) kind (suc (max x.depth y.depth))

-- accepted, but its code is not built yet
abbrev pub unbuilt_typed : Kind → Typed → Typed → Judged Typed
unbuilt_typed kind x y = within_depth None kind (suc (max x.depth y.depth))

-- the operands do not fit the operator
abbrev pub misfit : Judged Typed
misfit = Breaks (rule.OPERANDS ∷ [])

-- a sign asks for an integer (ISO 10206, 6.8.3.2)
abbrev pub sign_of : Sign → Unary
sign_of sign.Plus = unary.Same
sign_of sign.Minus = unary.Negate

abbrev pub signed : Option Sign → Typed → Judged Typed
signed None x = Accepts x
signed (Some s) x = if is_integer x.kind then unary_typed (sign_of s) integer x else misfit

-- `not` asks for a Boolean (ISO 10206, 6.8.3.3)
abbrev pub negated : Typed → Judged Typed
negated x = if is_boolean x.kind then unary_typed unary.Not boolean x else misfit

-- two integers give an integer (ISO 10206, 6.8.3.2)
abbrev pub arithmetic : Binary → Typed → Typed → Judged Typed
arithmetic operation x y =
    if is_integer x.kind && is_integer y.kind then binary_typed operation integer x y else misfit

-- two Booleans give a Boolean (ISO 10206, 6.8.3.3)
abbrev pub logical : Binary → Typed → Typed → Judged Typed
logical operation x y = if is_boolean x.kind && is_boolean y.kind then binary_typed operation boolean x y else misfit

-- so do `and_then` and `or_else`, whose right operand may not be evaluated (ISO 10206, 6.8.3.3)
abbrev pub short_circuit : ShortOperation → Typed → Typed → Judged Typed
short_circuit operation x y =
    if is_boolean x.kind && is_boolean y.kind then short_typed operation boolean x y else misfit

-- `+` besides joins two strings (ISO 10206, 6.8.3.6)
abbrev pub sum_typed : Typed → Typed → Judged Typed
sum_typed x y = if is_string x.kind && is_string y.kind then unbuilt_typed Text x y else arithmetic binary.Add x y

-- two sets over one host give a set (ISO 10206, 6.8.3.4), and what they are else is told by another rule
abbrev pub combined : SetOperation → Judged Typed → Typed → Typed → Judged Typed
combined operation other x y =
    if are_sets x.kind y.kind then on_sets_typed operation (joint_kind x.kind y.kind) x y else other

abbrev pub added : AddingOperator → Typed → Typed → Judged Typed
added adding.Plus = λ x y. combined on_sets.Union (sum_typed x y) x y
added adding.Minus = λ x y. combined on_sets.Difference (arithmetic binary.Subtract x y) x y
added adding.Or = logical binary.Or
added adding.SymmetricDifference = λ x y. combined on_sets.SymmetricDifference misfit x y
added adding.OrElse = short_circuit short.OrElse

abbrev pub multiplied : MultiplyingOperator → Typed → Typed → Judged Typed
multiplied multiplying.Times = λ x y. combined on_sets.Intersection (arithmetic binary.Multiply x y) x y
multiplied multiplying.Div = arithmetic binary.Divide
multiplied multiplying.Mod = arithmetic binary.Modulo
multiplied multiplying.And = logical binary.And
multiplied multiplying.AndThen = short_circuit short.AndThen

-- two values of one host give a Boolean, and so do two strings (ISO 10206, 6.8.3.5)
abbrev pub comparison : Binary → Typed → Typed → Judged Typed
comparison operation x y =
    if are_compatible x.kind y.kind then binary_typed operation boolean x y
    else (if is_string x.kind && is_string y.kind then unbuilt_typed boolean x y else misfit)

-- so do two sets over one host, which are not compared by `<` and `>` (ISO 10206, 6.8.3.5)
abbrev pub related : SetOperation → Judged Typed → Typed → Typed → Judged Typed
related operation other x y = if are_sets x.kind y.kind then on_sets_typed operation boolean x y else other

-- `in` looks for a value in a set over its host (ISO 10206, 6.8.3.5)
abbrev pub membership : Typed → Typed → Judged Typed
membership x y = if may_be_in x.kind y.kind then on_sets_typed on_sets.In boolean x y else misfit

abbrev pub compared : RelationalOperator → Typed → Typed → Judged Typed
compared relation.Equal = λ x y. related on_sets.Equal (comparison binary.Equal x y) x y
compared relation.NotEqual = λ x y. related on_sets.Unequal (comparison binary.Unequal x y) x y
compared relation.Less = comparison binary.Less
compared relation.Greater = comparison binary.Greater
compared relation.AtMost = λ x y. related on_sets.Subset (comparison binary.AtMost x y) x y
compared relation.AtLeast = λ x y. related on_sets.Superset (comparison binary.AtLeast x y) x y
compared relation.In = membership
