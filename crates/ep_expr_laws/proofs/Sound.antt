-- The rules give valid forms of valid parts.
use Rattle.std.proofs.Common.{◌≡◌, ℕ, pos, suc, max, Bool, true, false, ◌&&◌, nat_le, int_le, IsTrue, List, [], ◌∷◌, Option, Some, None, refl, subst}
use Rattle.std.specs.Prelude.{if◌then◌else◌}
use Rattle.std.specs.Option.{option_map}
use Rattle.ep_tree.specs.declared.operator.Sign.{Sign}
use Rattle.ep_tree.specs.declared.operator.Sign.TheVariants as sign
use Rattle.ep_tree.specs.declared.operator.AddingOperator.{AddingOperator}
use Rattle.ep_tree.specs.declared.operator.AddingOperator.TheVariants as adding
use Rattle.ep_tree.specs.declared.operator.MultiplyingOperator.{MultiplyingOperator}
use Rattle.ep_tree.specs.declared.operator.MultiplyingOperator.TheVariants as multiplying
use Rattle.ep_tree.specs.declared.operator.RelationalOperator.{RelationalOperator}
use Rattle.ep_tree.specs.declared.operator.RelationalOperator.TheVariants as relation
use Rattle.ep_typed.specs.Hosts.{least, greatest}
use Rattle.ep_values.specs.Operations.{maxint}
use Rattle.ep_typed.specs.Trees.{Card, Expr, One, Two, Short, Step, OnSets}
use Rattle.ep_meaning.specs.Valid.{Declarations, IsExpr, IsUnary, IsBinary}
use Rattle.ep_meaning.specs.Valid as valid
use Rattle.ep_values.specs.declared.operations.Unary.{Unary}
use Rattle.ep_values.specs.declared.operations.Unary.TheVariants as unary
use Rattle.ep_values.specs.declared.operations.Binary.{Binary}
use Rattle.ep_values.specs.declared.operations.Binary.TheVariants as binary
use Rattle.ep_values.specs.declared.operations.SetOperation.{SetOperation}
use Rattle.ep_values.specs.declared.operations.SetOperation.TheVariants as on_sets
use Rattle.ep_values.specs.declared.operations.ShortOperation.{ShortOperation}
use Rattle.ep_values.specs.declared.operations.ShortOperation.TheVariants as short
use Rattle.ep_scope.specs.Kinds.{same_host}
use Rattle.ep_scope.specs.declared.structure.StructuredType.{StructuredType}
use Rattle.ep_scope.specs.declared.kind.Host.{Host}
use Rattle.ep_scope.specs.declared.kind.Host.TheVariants as host
use Rattle.ep_scope.specs.declared.kind.Kind.{Kind}
use Rattle.ep_scope.specs.declared.kind.Kind.TheVariants as kind
use Rattle.ep_scope.specs.declared.required.Function.{Function}
use Rattle.ep_scope.specs.declared.required.Function.TheVariants as function
use Rattle.ep_expr_laws.specs.Agreement.{IsHost, IsFormOf, TypeValues}
use Rattle.ep_rules.specs.Functions.{card_by, of_integer, ordinal_by, step_typed, stepped_by, one, applied_one, applied_two}
use Rattle.ep_rules.specs.Hosts.{typed_host}
use Rattle.ep_rules.specs.Judgements.{Judged, Accepts, Breaks, Typed}
use Rattle.ep_rules.specs.Operators.{integer, boolean, is_integer, is_boolean, is_string, are_compatible, map_both, within_depth, unary_typed, binary_typed, short_typed, unbuilt_typed, signed, negated, arithmetic, logical, short_circuit, sum_typed, added, multiplied, comparison, compared, are_sets, combined, joint_kind, may_be_in, membership, misfit, on_sets_typed, related}
use Rattle.ep_rules.specs.declared.access.Access.TheVariants as access
use Rattle.ep_rules.specs.declared.forms.TheConstants as limit
use Rattle.ep_check_expr.proofs.public.Keeping.{Satisfies}
use Rattle.ep_expr_laws.proofs.public.SameHost.{host_same}
use Rattle.ep_expr_laws.proofs.SetForms.{IsCombining, IsRelating, card-form, combined-form, empty_card-form, membership-form, related-form}
use Rattle.ep_check_expr.proofs.public.Rows.{and_first, and_second}

-- the kind of a typed tree
abbrev of_host : Host → valid.ValueKind
of_host h = valid.Ordinal (typed_host h)

module _ (declared : Declarations) (types : TypeValues) (structures : List StructuredType) where
  -- what is accepted is valid
  abbrev pub Fits : Judged Typed → Type 0
  Fits = Satisfies (λ t. IsFormOf declared types structures t.kind t.form)

  pub within_depth-fits : (form : Option Expr) (k : Kind) (depth : ℕ) → IsFormOf declared types structures k form → Fits (within_depth form k depth)
  within_depth-fits form k depth s =
      elim (nat_le depth limit.DEPTH) as (λ b. Fits (if b then Accepts (record { form = form; kind = k; depth = depth; access = access.Value }) else Breaks (58 ∷ []))) [ true ↦ s | false ↦ tt ]

  pub if-fits : (b : Bool) (J K : Judged Typed) → (b ≡ true → Fits J) → Fits K → Fits (if b then J else K)
  if-fits true J K f s = f refl
  if-fits false J K f s = s

  one-form : (operation : Unary) (h r : Host) → IsUnary operation (of_host h) (of_host r) → IsHost r → (form : Option Expr) → IsFormOf declared types structures (kind.Ordinal h) form → IsFormOf declared types structures (kind.Ordinal r) (option_map (One operation) form)
  one-form operation h r u s None f = s
  one-form operation h r u s (Some x) f = (s, (of_host h, u, f.1))

  two-form : (operation : Binary) (h k r : Host) → IsBinary operation (of_host h) (of_host k) (of_host r) → IsHost r → (x y : Option Expr)
      → IsFormOf declared types structures (kind.Ordinal h) x → IsFormOf declared types structures (kind.Ordinal k) y → IsFormOf declared types structures (kind.Ordinal r) (map_both (Two operation) x y)
  two-form operation h k r u s None None f g = s
  two-form operation h k r u s None (Some y) f g = s
  two-form operation h k r u s (Some x) None f g = s
  two-form operation h k r u s (Some x) (Some y) f g = (s, (of_host h, of_host k, u, f.1, g.1))

  as_integer : (k : Kind) (form : Option Expr) → is_integer k ≡ true → IsFormOf declared types structures k form → IsFormOf declared types structures integer form
  as_integer (kind.Ordinal host.Integer) form e f = f
  as_integer (kind.Ordinal host.Char) form e f = cc
  as_integer (kind.Ordinal host.Boolean) form e f = cc
  as_integer (kind.Ordinal (host.Enumeration n)) form e f = cc
  as_integer (kind.Structured n) form e f = cc
  as_integer (kind.Set base) form e f = cc
  as_integer kind.EmptySet form e f = cc
  as_integer kind.Text form e f = cc
  as_integer kind.File form e f = cc

  as_boolean : (k : Kind) (form : Option Expr) → is_boolean k ≡ true → IsFormOf declared types structures k form → IsFormOf declared types structures boolean form
  as_boolean (kind.Ordinal host.Boolean) form e f = f
  as_boolean (kind.Ordinal host.Integer) form e f = cc
  as_boolean (kind.Ordinal host.Char) form e f = cc
  as_boolean (kind.Ordinal (host.Enumeration n)) form e f = cc
  as_boolean (kind.Structured n) form e f = cc
  as_boolean (kind.Set base) form e f = cc
  as_boolean kind.EmptySet form e f = cc
  as_boolean kind.Text form e f = cc
  as_boolean kind.File form e f = cc

  unary-fits : (operation : Unary) (h r : Host) → IsUnary operation (of_host h) (of_host r) → IsHost r → (x : Typed) → IsFormOf declared types structures (kind.Ordinal h) x.form → Fits (unary_typed operation (kind.Ordinal r) x)
  unary-fits operation h r u s x f = within_depth-fits (option_map (One operation) x.form) (kind.Ordinal r) (suc x.depth) (one-form operation h r u s x.form f)

  binary-fits : (operation : Binary) (h k r : Host) → IsBinary operation (of_host h) (of_host k) (of_host r) → IsHost r → (x y : Typed)
      → IsFormOf declared types structures (kind.Ordinal h) x.form → IsFormOf declared types structures (kind.Ordinal k) y.form → Fits (binary_typed operation (kind.Ordinal r) x y)
  binary-fits operation h k r u s x y f g =
      within_depth-fits (map_both (Two operation) x.form y.form) (kind.Ordinal r) (suc (max x.depth y.depth)) (two-form operation h k r u s x.form y.form f g)

  pub signed-fits : (s : Option Sign) (x : Typed) → IsFormOf declared types structures x.kind x.form → Fits (signed s x)
  signed-fits None x f = f
  signed-fits (Some sign.Plus) x f =
      if-fits (is_integer x.kind) (unary_typed unary.Same integer x) (Breaks (32 ∷ []))
      (λ e. unary-fits unary.Same host.Integer host.Integer ((typed_host host.Integer, refl, refl), refl) refl x (as_integer x.kind x.form e f)) tt
  signed-fits (Some sign.Minus) x f =
      if-fits (is_integer x.kind) (unary_typed unary.Negate integer x) (Breaks (32 ∷ []))
      (λ e. unary-fits unary.Negate host.Integer host.Integer (refl, refl) refl x (as_integer x.kind x.form e f)) tt

  pub negated-fits : (x : Typed) → IsFormOf declared types structures x.kind x.form → Fits (negated x)
  negated-fits x f =
      if-fits (is_boolean x.kind) (unary_typed unary.Not boolean x) (Breaks (32 ∷ []))
      (λ e. unary-fits unary.Not host.Boolean host.Boolean (refl, refl) refl x (as_boolean x.kind x.form e f)) tt

  arithmetic-fits : (operation : Binary) → IsBinary operation (of_host host.Integer) (of_host host.Integer) (of_host host.Integer) → (x y : Typed) → IsFormOf declared types structures x.kind x.form → IsFormOf declared types structures y.kind y.form → Fits (arithmetic operation x y)
  arithmetic-fits operation u x y f g =
      if-fits (is_integer x.kind && is_integer y.kind) (binary_typed operation integer x y) (Breaks (32 ∷ []))
      (λ e. binary-fits operation host.Integer host.Integer host.Integer u refl x y (as_integer x.kind x.form (and_first (is_integer x.kind) (is_integer y.kind) e) f) (as_integer y.kind y.form (and_second (is_integer x.kind) (is_integer y.kind) e) g)) tt

  logical-fits : (operation : Binary) → IsBinary operation (of_host host.Boolean) (of_host host.Boolean) (of_host host.Boolean) → (x y : Typed) → IsFormOf declared types structures x.kind x.form → IsFormOf declared types structures y.kind y.form → Fits (logical operation x y)
  logical-fits operation u x y f g =
      if-fits (is_boolean x.kind && is_boolean y.kind) (binary_typed operation boolean x y) (Breaks (32 ∷ []))
      (λ e. binary-fits operation host.Boolean host.Boolean host.Boolean u refl x y (as_boolean x.kind x.form (and_first (is_boolean x.kind) (is_boolean y.kind) e) f) (as_boolean y.kind y.form (and_second (is_boolean x.kind) (is_boolean y.kind) e) g)) tt

  short-form : (operation : ShortOperation) (x y : Option Expr) → IsFormOf declared types structures boolean x → IsFormOf declared types structures boolean y → IsFormOf declared types structures boolean (map_both (Short operation) x y)
  short-form operation None None f g = refl
  short-form operation None (Some y) f g = refl
  short-form operation (Some x) None f g = refl
  short-form operation (Some x) (Some y) f g = (refl, (refl, f.1, g.1))

  short_circuit-fits : (operation : ShortOperation) (x y : Typed) → IsFormOf declared types structures x.kind x.form → IsFormOf declared types structures y.kind y.form → Fits (short_circuit operation x y)
  short_circuit-fits operation x y f g =
      if-fits (is_boolean x.kind && is_boolean y.kind) (short_typed operation boolean x y) (Breaks (32 ∷ []))
      (λ e. within_depth-fits (map_both (Short operation) x.form y.form) boolean (suc (max x.depth y.depth)) (short-form operation x.form y.form (as_boolean x.kind x.form (and_first (is_boolean x.kind) (is_boolean y.kind) e) f) (as_boolean y.kind y.form (and_second (is_boolean x.kind) (is_boolean y.kind) e) g))) tt

  joined-fits : (x y : Typed) → Fits (unbuilt_typed kind.Text x y)
  joined-fits x y = within_depth-fits None kind.Text (suc (max x.depth y.depth)) tt

  -- an operation that makes a set, or what another rule gives
  combined-fits : (operation : SetOperation) → IsCombining declared types structures operation → (other : Judged Typed) (x y : Typed) → IsFormOf declared types structures x.kind x.form → IsFormOf declared types structures y.kind y.form → Fits other → Fits (combined operation other x y)
  combined-fits operation u other x y f g o =
      if-fits (are_sets x.kind y.kind) (on_sets_typed operation (joint_kind x.kind y.kind) x y) other
      (λ e. within_depth-fits (map_both (OnSets operation) x.form y.form) (joint_kind x.kind y.kind) (suc (max x.depth y.depth)) (combined-form declared types structures operation u x.kind y.kind x.form y.form e f g)) o

  related-fits : (operation : SetOperation) → IsRelating declared types structures operation → (other : Judged Typed) (x y : Typed) → IsFormOf declared types structures x.kind x.form → IsFormOf declared types structures y.kind y.form → Fits other → Fits (related operation other x y)
  related-fits operation u other x y f g o =
      if-fits (are_sets x.kind y.kind) (on_sets_typed operation boolean x y) other
      (λ e. within_depth-fits (map_both (OnSets operation) x.form y.form) boolean (suc (max x.depth y.depth)) (related-form declared types structures operation u x.kind y.kind x.form y.form e f g)) o

  membership-fits : (x y : Typed) → IsFormOf declared types structures x.kind x.form → IsFormOf declared types structures y.kind y.form → Fits (membership x y)
  membership-fits x y f g =
      if-fits (may_be_in x.kind y.kind) (on_sets_typed on_sets.In boolean x y) (Breaks (32 ∷ []))
      (λ e. within_depth-fits (map_both (OnSets on_sets.In) x.form y.form) boolean (suc (max x.depth y.depth)) (membership-form declared types structures x.kind y.kind x.form y.form e f g)) tt

  sum-fits : (x y : Typed) → IsFormOf declared types structures x.kind x.form → IsFormOf declared types structures y.kind y.form → Fits (sum_typed x y)
  sum-fits x y f g =
      if-fits (is_string x.kind && is_string y.kind) (unbuilt_typed kind.Text x y) (arithmetic binary.Add x y) (λ e. joined-fits x y) (arithmetic-fits binary.Add (refl, refl, refl) x y f g)

  pub added-fits : (operator : AddingOperator) (x y : Typed) → IsFormOf declared types structures x.kind x.form → IsFormOf declared types structures y.kind y.form → Fits (added operator x y)
  added-fits adding.Plus x y f g = combined-fits on_sets.Union (λ h. (h, refl, refl, refl)) (sum_typed x y) x y f g (sum-fits x y f g)
  added-fits adding.Minus x y f g = combined-fits on_sets.Difference (λ h. (h, refl, refl, refl)) (arithmetic binary.Subtract x y) x y f g (arithmetic-fits binary.Subtract (refl, refl, refl) x y f g)
  added-fits adding.Or x y f g = logical-fits binary.Or (refl, refl, refl) x y f g
  added-fits adding.SymmetricDifference x y f g = combined-fits on_sets.SymmetricDifference (λ h. (h, refl, refl, refl)) misfit x y f g tt
  added-fits adding.OrElse x y f g = short_circuit-fits short.OrElse x y f g

  pub multiplied-fits : (operator : MultiplyingOperator) (x y : Typed) → IsFormOf declared types structures x.kind x.form → IsFormOf declared types structures y.kind y.form → Fits (multiplied operator x y)
  multiplied-fits multiplying.Times x y f g = combined-fits on_sets.Intersection (λ h. (h, refl, refl, refl)) (arithmetic binary.Multiply x y) x y f g (arithmetic-fits binary.Multiply (refl, refl, refl) x y f g)
  multiplied-fits multiplying.Div x y f g = arithmetic-fits binary.Divide (refl, refl, refl) x y f g
  multiplied-fits multiplying.Mod x y f g = arithmetic-fits binary.Modulo (refl, refl, refl) x y f g
  multiplied-fits multiplying.And x y f g = logical-fits binary.And (refl, refl, refl) x y f g
  multiplied-fits multiplying.AndThen x y f g = short_circuit-fits short.AndThen x y f g

  -- two values of one host
  pub record OneHost (x y : Typed) : Type 0 where
    pub host : Host
    pub left : IsFormOf declared types structures (kind.Ordinal host) x.form
    pub right : IsFormOf declared types structures (kind.Ordinal host) y.form

  same-numbers : (h g : Host) → same_host h g ≡ true → IsHost g → IsHost h
  same-numbers h g s f = subst (λ t. IsTrue (int_le (greatest t) (pos maxint))) (host_same h g s) f

  -- a form of the same host
  same-form : (h g : Host) (form : Option Expr) → same_host h g ≡ true → IsFormOf declared types structures (kind.Ordinal g) form → IsFormOf declared types structures (kind.Ordinal h) form
  same-form h g None s f = same-numbers h g s f
  same-form h g (Some x) s f = (same-numbers h g s f.0, subst (λ t. IsExpr declared (valid.Ordinal t) x) (host_same h g s) f.1)

  pub compatible-form : (h : Host) (k : Kind) (form : Option Expr) → are_compatible (kind.Ordinal h) k ≡ true → IsFormOf declared types structures k form → IsFormOf declared types structures (kind.Ordinal h) form
  compatible-form h (kind.Ordinal g) form e f = same-form h g form e f
  compatible-form h (kind.Structured n) form e f = cc
  compatible-form h (kind.Set base) form e f = cc
  compatible-form h kind.EmptySet form e f = cc
  compatible-form h kind.Text form e f = cc
  compatible-form h kind.File form e f = cc

  compatible-host : (x y : Typed) (k l : Kind) → are_compatible k l ≡ true → IsFormOf declared types structures k x.form → IsFormOf declared types structures l y.form → OneHost x y
  compatible-host x y (kind.Ordinal h) l e f g = record { host = h; left = f; right = compatible-form h l y.form e g }
  compatible-host x y (kind.Structured n) l e f g = cc
  compatible-host x y (kind.Set base) l e f g = cc
  compatible-host x y kind.EmptySet l e f g = cc
  compatible-host x y kind.Text l e f g = cc
  compatible-host x y kind.File l e f g = cc

  -- an operation that compares
  abbrev IsComparing : Binary → Type 0
  IsComparing operation = (h : Host) → IsBinary operation (of_host h) (of_host h) (of_host host.Boolean)

  comparison-fits : (operation : Binary) → IsComparing operation → (x y : Typed) → IsFormOf declared types structures x.kind x.form → IsFormOf declared types structures y.kind y.form → Fits (comparison operation x y)
  comparison-fits operation u x y f g =
      if-fits (are_compatible x.kind y.kind) (binary_typed operation boolean x y) (if is_string x.kind && is_string y.kind then unbuilt_typed boolean x y else Breaks (32 ∷ []))
      (λ e. let p = compatible-host x y x.kind y.kind e f g in binary-fits operation p.host p.host host.Boolean (u p.host) refl x y p.left p.right)
      (if-fits (is_string x.kind && is_string y.kind) (unbuilt_typed boolean x y) (Breaks (32 ∷ [])) (λ e. within_depth-fits None boolean (suc (max x.depth y.depth)) refl) tt)

  pub compared-fits : (operator : RelationalOperator) (x y : Typed) → IsFormOf declared types structures x.kind x.form → IsFormOf declared types structures y.kind y.form → Fits (compared operator x y)
  compared-fits relation.Equal x y f g = related-fits on_sets.Equal (λ h. ((h, refl, refl), refl)) (comparison binary.Equal x y) x y f g (comparison-fits binary.Equal (λ h. ((typed_host h, refl, refl), refl)) x y f g)
  compared-fits relation.NotEqual x y f g = related-fits on_sets.Unequal (λ h. ((h, refl, refl), refl)) (comparison binary.Unequal x y) x y f g (comparison-fits binary.Unequal (λ h. ((typed_host h, refl, refl), refl)) x y f g)
  compared-fits relation.Less x y f g = comparison-fits binary.Less (λ h. ((typed_host h, refl, refl), refl)) x y f g
  compared-fits relation.Greater x y f g = comparison-fits binary.Greater (λ h. ((typed_host h, refl, refl), refl)) x y f g
  compared-fits relation.AtMost x y f g = related-fits on_sets.Subset (λ h. ((h, refl, refl), refl)) (comparison binary.AtMost x y) x y f g (comparison-fits binary.AtMost (λ h. ((typed_host h, refl, refl), refl)) x y f g)
  compared-fits relation.AtLeast x y f g = related-fits on_sets.Superset (λ h. ((h, refl, refl), refl)) (comparison binary.AtLeast x y) x y f g (comparison-fits binary.AtLeast (λ h. ((typed_host h, refl, refl), refl)) x y f g)
  compared-fits relation.In x y f g = membership-fits x y f g

  of_integer-fits : (operation : Unary) (r : Host) → IsUnary operation (of_host host.Integer) (of_host r) → IsHost r → (x : Typed) → IsFormOf declared types structures x.kind x.form → Fits (of_integer operation (kind.Ordinal r) x)
  of_integer-fits operation r u s x f =
      if-fits (is_integer x.kind) (unary_typed operation (kind.Ordinal r) x) (Breaks (57 ∷ [])) (λ e. unary-fits operation host.Integer r u s x (as_integer x.kind x.form e f)) tt

  -- the numbers of a host are integers
  pub form-host : (h : Host) (form : Option Expr) → IsFormOf declared types structures (kind.Ordinal h) form → IsHost h
  form-host h None f = f
  form-host h (Some x) f = f.0

  ordinal_by-fits : (k : Kind) (x : Typed) → IsFormOf declared types structures k x.form → Fits (ordinal_by k x)
  ordinal_by-fits (kind.Ordinal h) x f = unary-fits unary.Same h host.Integer ((typed_host h, refl, form-host h x.form f), refl) refl x f
  ordinal_by-fits (kind.Structured n) x f = tt
  ordinal_by-fits (kind.Set base) x f = tt
  ordinal_by-fits kind.EmptySet x f = tt
  ordinal_by-fits kind.Text x f = tt
  ordinal_by-fits kind.File x f = tt

  step-form : (down : Bool) (h : Host) (x y : Option Expr) → IsFormOf declared types structures (kind.Ordinal h) x → IsFormOf declared types structures integer y
      → IsFormOf declared types structures (kind.Ordinal h) (map_both (Step down (least (typed_host h)) (greatest (typed_host h))) x y)
  step-form down h None None f g = f
  step-form down h None (Some y) f g = f
  step-form down h (Some x) None f g = f.0
  step-form down h (Some x) (Some y) f g = (f.0, (typed_host h, refl, refl, refl, f.1, g.1))

  stepped_by-fits : (k : Kind) (down : Bool) (x y : Typed) → IsFormOf declared types structures k x.form → IsFormOf declared types structures y.kind y.form → Fits (stepped_by k down x y)
  stepped_by-fits (kind.Ordinal h) down x y f g =
      if-fits (is_integer y.kind) (step_typed down h x y) (Breaks (57 ∷ []))
      (λ e. within_depth-fits (map_both (Step down (least (typed_host h)) (greatest (typed_host h))) x.form y.form) (kind.Ordinal h) (suc (max x.depth y.depth)) (step-form down h x.form y.form f (as_integer y.kind y.form e g)))
      tt
  stepped_by-fits (kind.Structured n) down x y f g = tt
  stepped_by-fits (kind.Set base) down x y f g = tt
  stepped_by-fits kind.EmptySet down x y f g = tt
  stepped_by-fits kind.Text down x y f g = tt
  stepped_by-fits kind.File down x y f g = tt

  card_by-fits : (k : Kind) (x : Typed) → IsFormOf declared types structures k x.form → Fits (card_by k x)
  card_by-fits (kind.Set h) x f = within_depth-fits (option_map Card x.form) integer (suc x.depth) (card-form declared types structures h x.form f)
  card_by-fits kind.EmptySet x f = within_depth-fits (option_map Card x.form) integer (suc x.depth) (empty_card-form declared types structures x.form f)
  card_by-fits (kind.Ordinal h) x f = tt
  card_by-fits (kind.Structured n) x f = tt
  card_by-fits kind.Text x f = tt
  card_by-fits kind.File x f = tt

  one-fits : IsFormOf declared types structures one.kind one.form
  one-fits = (refl, (typed_host host.Integer, refl, refl))

  pub applied_one-fits : (fn : Function) (x : Typed) → IsFormOf declared types structures x.kind x.form → Fits (applied_one fn x)
  applied_one-fits function.Absolute x f = of_integer-fits unary.Absolute host.Integer (refl, refl) refl x f
  applied_one-fits function.Square x f = of_integer-fits unary.Square host.Integer (refl, refl) refl x f
  applied_one-fits function.Odd x f = of_integer-fits unary.Odd host.Boolean (refl, refl) refl x f
  applied_one-fits function.Ordinal x f = ordinal_by-fits x.kind x f
  applied_one-fits function.Character x f = of_integer-fits unary.Character host.Char (refl, refl) refl x f
  applied_one-fits function.Successor x f = stepped_by-fits x.kind false x one f one-fits
  applied_one-fits function.Predecessor x f = stepped_by-fits x.kind true x one f one-fits
  applied_one-fits function.Cardinality x f = card_by-fits x.kind x f

  pub applied_two-fits : (fn : Function) (x y : Typed) → IsFormOf declared types structures x.kind x.form → IsFormOf declared types structures y.kind y.form → Fits (applied_two fn x y)
  applied_two-fits function.Successor x y f g = stepped_by-fits x.kind false x y f g
  applied_two-fits function.Predecessor x y f g = stepped_by-fits x.kind true x y f g
  applied_two-fits function.Absolute x y f g = tt
  applied_two-fits function.Square x y f g = tt
  applied_two-fits function.Odd x y f g = tt
  applied_two-fits function.Ordinal x y f g = tt
  applied_two-fits function.Character x y f g = tt
  applied_two-fits function.Cardinality x y f g = tt
