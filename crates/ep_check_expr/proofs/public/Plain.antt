-- A property that every value has that is no bare name: the rules of operators and of required functions give such values.
use Rattle.std.proofs.Common.{ℕ, ℤ, Bool, true, false, ◌&&◌, nat_le, [], ◌∷◌, Option, Some, None}
use Rattle.std.specs.Prelude.{if◌then◌else◌}
use Rattle.ep_tree.specs.declared.operator.AddingOperator.{AddingOperator}
use Rattle.ep_tree.specs.declared.operator.AddingOperator.TheVariants as adding
use Rattle.ep_tree.specs.declared.operator.MultiplyingOperator.{MultiplyingOperator}
use Rattle.ep_tree.specs.declared.operator.MultiplyingOperator.TheVariants as multiplying
use Rattle.ep_tree.specs.declared.operator.RelationalOperator.{RelationalOperator}
use Rattle.ep_tree.specs.declared.operator.RelationalOperator.TheVariants as relation
use Rattle.ep_tree.specs.declared.operator.Sign.{Sign}
use Rattle.ep_typed.specs.Hosts.{is_of_host}
use Rattle.ep_typed.specs.Trees.{Expr, Constant}
use Rattle.ep_values.specs.declared.operations.Unary.{Unary}
use Rattle.ep_values.specs.declared.operations.Binary.{Binary}
use Rattle.ep_values.specs.declared.operations.SetOperation.{SetOperation}
use Rattle.ep_values.specs.declared.operations.ShortOperation.{ShortOperation}
use Rattle.ep_scope.specs.declared.kind.Host.{Host}
use Rattle.ep_scope.specs.declared.kind.Kind.{Kind}
use Rattle.ep_scope.specs.declared.kind.Kind.TheVariants as kind
use Rattle.ep_scope.specs.declared.required.Function.{Function}
use Rattle.ep_scope.specs.declared.required.Function.TheVariants as function
use Rattle.ep_scope.specs.declared.rule.TheConstants as rule
use Rattle.ep_rules.specs.declared.access.Access.TheVariants as access
use Rattle.ep_rules.specs.Names.{spelled, leaf}
use Rattle.ep_rules.specs.Functions.{applied_one, card_by, applied_two, of_integer, ordinal_by, other_argument, step_typed, stepped_by, one}
use Rattle.ep_rules.specs.Hosts.{typed_host}
use Rattle.ep_rules.specs.Judgements.{Judged, Accepts, Breaks, Typed, unbuilt}
use Rattle.ep_rules.specs.Operators.{added, are_compatible, are_sets, combined, joint_kind, may_be_in, on_sets_typed, related, sum_typed, arithmetic, binary_typed, boolean, compared, comparison, integer, is_boolean, is_integer, is_string, logical, misfit, multiplied, negated, short_circuit, short_typed, sign_of, signed, unary_typed, unbuilt_typed, within_depth}
use Rattle.ep_rules.specs.declared.forms.TheConstants as limit
use Rattle.ep_check_expr.proofs.public.Keeping.{Satisfies, if-satisfies}

module _ (Q : Typed → Type 0) (every : (form : Option Expr) (k : Kind) (depth : ℕ) → Q (record { form = form; kind = k; depth = depth; access = access.Value })) where
  -- what is accepted has the property
  abbrev Has : Judged Typed → Type 0
  Has = Satisfies Q

  chosen : (b : Bool) (J K : Judged Typed) → Has J → Has K → Has (if b then J else K)
  chosen b J K p q = if-satisfies Q b J K (λ e. p) q

  pub deep-plain : (form : Option Expr) (k : Kind) (depth : ℕ) → Has (within_depth form k depth)
  deep-plain form k depth = chosen (nat_le depth limit.DEPTH) (Accepts (record { form = form; kind = k; depth = depth; access = access.Value })) (Breaks (rule.TOO_DEEP ∷ [])) (every form k depth) tt

  pub spelled-plain : (h : Host) (z : ℤ) → Has (spelled h z)
  spelled-plain h z = chosen (is_of_host (typed_host h) z) (leaf (Constant z) (kind.Ordinal h) access.Value) unbuilt (every (Some (Constant z)) (kind.Ordinal h) 1) tt

  pub signed-plain : (o : Option Sign) (x : Typed) → Q x → Has (signed o x)
  signed-plain None x p = p
  signed-plain (Some s) x p = chosen (is_integer x.kind) (unary_typed (sign_of s) integer x) misfit (deep-plain _ _ _) tt

  pub negated-plain : (x : Typed) → Has (negated x)
  negated-plain x = chosen (is_boolean x.kind) (unary_typed _ boolean x) misfit (deep-plain _ _ _) tt

  arithmetic-plain : (operation : Binary) (x y : Typed) → Has (arithmetic operation x y)
  arithmetic-plain operation x y = chosen (is_integer x.kind && is_integer y.kind) (binary_typed operation integer x y) misfit (deep-plain _ _ _) tt

  logical-plain : (operation : Binary) (x y : Typed) → Has (logical operation x y)
  logical-plain operation x y = chosen (is_boolean x.kind && is_boolean y.kind) (binary_typed operation boolean x y) misfit (deep-plain _ _ _) tt

  short-plain : (operation : ShortOperation) (x y : Typed) → Has (short_circuit operation x y)
  short-plain operation x y = chosen (is_boolean x.kind && is_boolean y.kind) (short_typed operation boolean x y) misfit (deep-plain _ _ _) tt

  combined-plain : (operation : SetOperation) (other : Judged Typed) (x y : Typed) → Has other → Has (combined operation other x y)
  combined-plain operation other x y o = chosen (are_sets x.kind y.kind) (on_sets_typed operation (joint_kind x.kind y.kind) x y) other (deep-plain _ _ _) o

  related-plain : (operation : SetOperation) (other : Judged Typed) (x y : Typed) → Has other → Has (related operation other x y)
  related-plain operation other x y o = chosen (are_sets x.kind y.kind) (on_sets_typed operation boolean x y) other (deep-plain _ _ _) o

  sum-plain : (x y : Typed) → Has (sum_typed x y)
  sum-plain x y = chosen (is_string x.kind && is_string y.kind) (unbuilt_typed kind.Text x y) (arithmetic _ x y) (deep-plain _ _ _) (arithmetic-plain _ x y)

  pub added-plain : (o : AddingOperator) (x y : Typed) → Has (added o x y)
  added-plain adding.Plus x y = combined-plain _ (sum_typed x y) x y (sum-plain x y)
  added-plain adding.Minus x y = combined-plain _ (arithmetic _ x y) x y (arithmetic-plain _ x y)
  added-plain adding.Or x y = logical-plain _ x y
  added-plain adding.SymmetricDifference x y = combined-plain _ misfit x y tt
  added-plain adding.OrElse x y = short-plain _ x y

  pub multiplied-plain : (o : MultiplyingOperator) (x y : Typed) → Has (multiplied o x y)
  multiplied-plain multiplying.Times x y = combined-plain _ (arithmetic _ x y) x y (arithmetic-plain _ x y)
  multiplied-plain multiplying.Div x y = arithmetic-plain _ x y
  multiplied-plain multiplying.Mod x y = arithmetic-plain _ x y
  multiplied-plain multiplying.And x y = logical-plain _ x y
  multiplied-plain multiplying.AndThen x y = short-plain _ x y

  comparison-plain : (operation : Binary) (x y : Typed) → Has (comparison operation x y)
  comparison-plain operation x y =
      chosen (are_compatible x.kind y.kind) (binary_typed operation boolean x y) (if is_string x.kind && is_string y.kind then unbuilt_typed boolean x y else misfit) (deep-plain _ _ _)
      (chosen (is_string x.kind && is_string y.kind) (unbuilt_typed boolean x y) misfit (deep-plain _ _ _) tt)

  pub compared-plain : (o : RelationalOperator) (x y : Typed) → Has (compared o x y)
  compared-plain relation.Equal x y = related-plain _ (comparison _ x y) x y (comparison-plain _ x y)
  compared-plain relation.NotEqual x y = related-plain _ (comparison _ x y) x y (comparison-plain _ x y)
  compared-plain relation.Less x y = comparison-plain _ x y
  compared-plain relation.Greater x y = comparison-plain _ x y
  compared-plain relation.AtMost x y = related-plain _ (comparison _ x y) x y (comparison-plain _ x y)
  compared-plain relation.AtLeast x y = related-plain _ (comparison _ x y) x y (comparison-plain _ x y)
  compared-plain relation.In x y = chosen (may_be_in x.kind y.kind) (on_sets_typed _ boolean x y) misfit (deep-plain _ _ _) tt

  of_integer-plain : (operation : Unary) (k : Kind) (x : Typed) → Has (of_integer operation k x)
  of_integer-plain operation k x = chosen (is_integer x.kind) (unary_typed operation k x) other_argument (deep-plain _ _ _) tt

  ordinal-plain : (k : Kind) (x : Typed) → Has (ordinal_by k x)
  ordinal-plain (kind.Ordinal h) x = deep-plain _ _ _
  ordinal-plain (kind.Structured n) x = tt
  ordinal-plain (kind.Set base) x = tt
  ordinal-plain kind.EmptySet x = tt
  ordinal-plain kind.Text x = tt
  ordinal-plain kind.File x = tt

  stepped-plain : (k : Kind) (down : Bool) (x count : Typed) → Has (stepped_by k down x count)
  stepped-plain (kind.Ordinal h) down x count = chosen (is_integer count.kind) (step_typed down h x count) other_argument (deep-plain _ _ _) tt
  stepped-plain (kind.Structured n) down x count = tt
  stepped-plain (kind.Set base) down x count = tt
  stepped-plain kind.EmptySet down x count = tt
  stepped-plain kind.Text down x count = tt
  stepped-plain kind.File down x count = tt

  card-plain : (k : Kind) (x : Typed) → Has (card_by k x)
  card-plain (kind.Set h) x = deep-plain _ _ _
  card-plain kind.EmptySet x = deep-plain _ _ _
  card-plain (kind.Ordinal h) x = tt
  card-plain (kind.Structured n) x = tt
  card-plain kind.Text x = tt
  card-plain kind.File x = tt

  pub applied_one-plain : (f : Function) (x : Typed) → Has (applied_one f x)
  applied_one-plain function.Absolute x = of_integer-plain _ _ x
  applied_one-plain function.Square x = of_integer-plain _ _ x
  applied_one-plain function.Odd x = of_integer-plain _ _ x
  applied_one-plain function.Ordinal x = ordinal-plain x.kind x
  applied_one-plain function.Character x = of_integer-plain _ _ x
  applied_one-plain function.Successor x = stepped-plain x.kind false x one
  applied_one-plain function.Predecessor x = stepped-plain x.kind true x one
  applied_one-plain function.Cardinality x = card-plain x.kind x

  pub applied_two-plain : (f : Function) (x y : Typed) → Has (applied_two f x y)
  applied_two-plain function.Successor x y = stepped-plain x.kind false x y
  applied_two-plain function.Predecessor x y = stepped-plain x.kind true x y
  applied_two-plain function.Absolute x y = tt
  applied_two-plain function.Square x y = tt
  applied_two-plain function.Odd x y = tt
  applied_two-plain function.Ordinal x y = tt
  applied_two-plain function.Character x y = tt
  applied_two-plain function.Cardinality x y = tt
