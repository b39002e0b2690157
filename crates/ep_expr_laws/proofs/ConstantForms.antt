-- A valid form is a constant of its kind, if it is one.
use Rattle.std.proofs.Common.{◌≡◌, Bool, if◌then◌else◌, ℕ, pos, true, false, IsTrue, List, [], ◌∷◌, Option, Some, None, Ok, Err, refl, subst, arith}
use Rattle.std.proofs.lemmas.Bool.Decides.{nat_tests}
use Rattle.std.specs.Prelude.{⊤}
use Rattle.ep_typed.specs.Hosts.{Host, is_of_host}
use Rattle.ep_typed.specs.Hosts as host
use Rattle.ep_typed.specs.Trees as tree
use Rattle.ep_typed.specs.Trees.{Card, Constant, Elements, Expr, FieldValue, VariantValue, Function, IndexedValue, OnSets, One, Read, SetConstant, SetOf, Short, Step, Text, Two}
use Rattle.ep_values.specs.TypeValues.{TypeValue}
use Rattle.ep_meaning.specs.Valid as valid
use Rattle.ep_meaning.specs.Valid.{Declarations, IsExpr, IsStartFor, word_start, set_start}
use Rattle.ep_typed.specs.Viewed.{constant_expr}
use Rattle.ep_typed.specs.declared.unit.UnitType.{UnitType}
use Rattle.ep_typed.specs.declared.value.Value.TheVariants as value
use Rattle.ep_scope.specs.Scopes.{Region, depth_in}
use Rattle.ep_scope.specs.declared.kind.Host as scope
use Rattle.ep_scope.specs.declared.kind.Kind.{Kind}
use Rattle.ep_scope.specs.declared.kind.Kind.TheVariants as kind
use Rattle.ep_scope.specs.declared.rule.TheConstants as rule
use Rattle.ep_expr_laws.specs.Agreement.{AgreesBy, IsConstantIf, IsConstantOf, IsFile, IsFormOf, IsHost, IsValueOf, TypeValues, structures_of}
use Rattle.ep_check_expr.specs.Constants.{as_constant, constant_by, constant_of, known, may_be_constant, unbuilt_of}
use Rattle.ep_rules.specs.Folding.{folded}
use Rattle.ep_rules.specs.Hosts.{typed_host}
use Rattle.ep_rules.specs.Judgements.{Judged, Accepts, Breaks, Typed, when_accepted}
use Rattle.ep_check_expr.specs.StructuredConstants.{Constancy, constancy, known_constancy, value_in, value_known}
use Rattle.ep_rules.specs.declared.access.Access.{Access}
use Rattle.ep_check_expr.specs.declared.constants.ConstantForm.{ConstantForm}
use Rattle.ep_check_expr.specs.declared.constants.Purpose.{Purpose}
use Rattle.ep_rules.specs.declared.folding.Folded.{Folded}
use Rattle.ep_rules.specs.declared.folding.Folded.TheVariants.{Known, Varies, Errs}
use Rattle.ep_rules.specs.declared.folding.KnownValue.{KnownValue}
use Rattle.ep_rules.specs.declared.folding.KnownValue.TheVariants as known_value
use Rattle.ep_check_expr.specs.declared.structured_constants.ConstantValue.{ConstantValue}
use Rattle.ep_check_expr.specs.declared.structured_constants.ConstantValue.TheVariants as constant
use Rattle.ep_check_expr.specs.declared.structured_constants.NoConstant.TheVariants as reason
use Rattle.ep_check_expr.proofs.public.Keeping.{Satisfies}
use Rattle.ep_expr_laws.proofs.Known.{OfKind, known-of_kind}
use Rattle.ep_expr_laws.proofs.public.Passing.{structured-expr}
use Rattle.ep_expr_laws.proofs.SetsOver.{empty-over}
use Rattle.ep_expr_laws.proofs.StructuredConstants.{constancy-starts}

zero_of_host : (h : Host) → IsTrue (is_of_host h (pos 0))
zero_of_host host.Integer = refl
zero_of_host host.Char = refl
zero_of_host host.Boolean = refl
zero_of_host (host.Enumeration last) = grind (arith, nat_tests)

-- an array or a record that is written out
abbrev IsWrittenOut : Expr → Type 0
IsWrittenOut x = (n : ℕ) × (es : Elements) × (x ≡ tree.Structured n es)

-- any other form is a text, or else what is known of it counts
pub text_or_known : (P : Judged ConstantForm → Type 0) (scopes : List Region) (for : Purpose) (a : Access) (k : Kind) (depth : ℕ) (x : Expr) → (IsWrittenOut x → ⊥) → ((bytes : List ℕ) → x ≡ Text bytes → P (known k (value.Text bytes) 1))
    → P (constant_by for k depth (known_constancy (folded x))) → P (constant_of scopes for a k depth (Some x))
text_or_known P scopes for a k depth (Text bytes) other f g = f bytes refl
text_or_known P scopes for a k depth (Constant z) other f g = g
text_or_known P scopes for a k depth (Read place) other f g = g
text_or_known P scopes for a k depth (One operation x) other f g = g
text_or_known P scopes for a k depth (Two operation x y) other f g = g
text_or_known P scopes for a k depth (Short operation x y) other f g = g
text_or_known P scopes for a k depth (Step down low high x y) other f g = g
text_or_known P scopes for a k depth (Function callee given) other f g = g
text_or_known P scopes for a k depth (IndexedValue array index) other f g = g
text_or_known P scopes for a k depth (FieldValue whole number) other f g = g
text_or_known P scopes for a k depth (VariantValue whole selection number) other f g = g
text_or_known P scopes for a k depth (tree.Structured number es) other f g = absurd (other (number, es, refl))
text_or_known P scopes for a k depth (SetConstant members) other f g = g
text_or_known P scopes for a k depth (SetOf members) other f g = g
text_or_known P scopes for a k depth (OnSets operation x y) other f g = g
text_or_known P scopes for a k depth (Card x) other f g = g

-- what is accepted is of its kind
abbrev pub IsJudgedConstant : TypeValues → List UnitType → Judged ConstantForm → Type 0
IsJudgedConstant types list (Accepts c) = IsConstantIf c.built types list c.kind c.value
IsJudgedConstant types list (Breaks rules) = ⊤

module _ (declared : Declarations) (types : TypeValues) (scopes : List Region) (agrees : AgreesBy declared types (structures_of scopes) (depth_in scopes) scopes) (for : Purpose) where
  abbrev list : List UnitType
  list = declared.types

  abbrev Holds : Judged ConstantForm → Type 0
  Holds = IsJudgedConstant types list

  -- what is known is a constant of the kind where it is a value of that
  known-judged : (k : Kind) (depth : ℕ) (r : Folded) → ((y : KnownValue) → r ≡ Known y → IsConstantIf true types list k (value_known y)) → Holds (constant_by for k depth (known_constancy r))
  known-judged k depth (Known y) f = f y refl
  known-judged k depth Varies f = tt
  known-judged k depth Errs f = tt

  -- a text is of the kind of texts alone, and what is written out is of structured kinds
  no_text : (k : valid.ValueKind) (x : Expr) (bytes : List ℕ) → (k ≡ valid.Bytes → ⊥) → IsExpr declared k x → x ≡ Text bytes → ⊥
  no_text k x bytes other v e = other (subst (IsExpr declared k) e v)

  none_written : (k : valid.ValueKind) (x : Expr) → ((t : TypeValue) → k ≡ valid.Structured t → ⊥) → IsExpr declared k x → IsWrittenOut x → ⊥
  none_written k x other v w =
      let s = subst (IsExpr declared k) w.2 v in
      other _ s.1

  ordinal-constant : (h : scope.Host) (y : KnownValue) → IsHost h → OfKind (valid.Ordinal (typed_host h)) y → IsConstantOf types list (kind.Ordinal h) (value_known y)
  ordinal-constant h (known_value.Number z) s p = (s, p)
  ordinal-constant h (known_value.Members ms) s p = absurd p

  set-constant : (h : scope.Host) (y : KnownValue) → IsHost h → OfKind (valid.Set (typed_host h)) y → IsConstantOf types list (kind.Set h) (value_known y)
  set-constant h (known_value.Number z) s p = absurd p
  set-constant h (known_value.Members ms) s p = (s, p)

  empty-constant : (y : KnownValue) → ((h : Host) → OfKind (valid.Set h) y) → IsConstantOf types list kind.EmptySet (value_known y)
  empty-constant (known_value.Number z) p = absurd (p host.Boolean)
  empty-constant (known_value.Members ms) p = p

  -- none is known of a text that is not written
  none_text : (y : KnownValue) → OfKind valid.Bytes y → IsConstantOf types list kind.Text (value_known y)
  none_text (known_value.Number z) p = absurd p
  none_text (known_value.Members ms) p = absurd p

  -- what begins a structured type is an array or a record
  structured-constant : (n : ℕ) (t : TypeValue) (v : ConstantValue) → IsValueOf types n t → IsStartFor list t (constant_expr (value_in v)) → IsConstantOf types list (kind.Structured n) (value_in v)
  structured-constant n t (constant.Structured of es) is s = (t, is, s)
  structured-constant n t (constant.Known (known_value.Number z)) is (word_start low high h w of_type of_host) = absurd is.1
  structured-constant n t (constant.Known (known_value.Members ms)) is (set_start low high h members base set between) = absurd is.1

  structured-judged : (n depth : ℕ) (t : TypeValue) (r : Constancy ConstantValue) → IsValueOf types n t → ((v : ConstantValue) → r ≡ Ok v → IsStartFor list t (constant_expr (value_in v))) → Holds (constant_by for (kind.Structured n) depth r)
  structured-judged n depth t (Ok v) is f = λ built. structured-constant n t v is (f v refl)
  structured-judged n depth t (Err reason.Varies) is f = tt
  structured-judged n depth t (Err reason.Errs) is f = tt

  structured-fits : (a : Access) (n depth : ℕ) (x : Expr) (t : TypeValue) → IsValueOf types n t → IsExpr declared (valid.Structured t) x → Holds (constant_of scopes for a (kind.Structured n) depth (Some x))
  structured-fits a n depth (Text bytes) t is f = cc
  structured-fits a n depth x t is f = structured-judged n depth t (constancy scopes x) is (λ v e. constancy-starts declared types scopes agrees x (valid.Structured t) t v f e (refl, is.1))

  -- a file that is read is no constant
  file-fits : (a : Access) (depth : ℕ) (x : Expr) → IsFile x → Holds (constant_of scopes for a kind.File depth (Some x))
  file-fits a depth (Read place) s = known-judged kind.File depth Varies (λ y e. cc)
  file-fits a depth (Text bytes) s = absurd s
  file-fits a depth (Constant z) s = absurd s
  file-fits a depth (One operation x) s = absurd s
  file-fits a depth (Two operation x y) s = absurd s
  file-fits a depth (Short operation x y) s = absurd s
  file-fits a depth (Step down low high x y) s = absurd s
  file-fits a depth (Function callee given) s = absurd s
  file-fits a depth (IndexedValue array index) s = absurd s
  file-fits a depth (FieldValue whole number) s = absurd s
  file-fits a depth (VariantValue whole selection number) s = absurd s
  file-fits a depth (tree.Structured number es) s = absurd s
  file-fits a depth (SetConstant members) s = absurd s
  file-fits a depth (SetOf members) s = absurd s
  file-fits a depth (OnSets operation x y) s = absurd s
  file-fits a depth (Card x) s = absurd s

  -- a valid form is a constant of its kind, if it is one
  -- what stands for the value of a form that is not built is of the kind
  unbuilt-fits : (k : Kind) (b : Bool) → Holds (unbuilt_of k) → Holds (if b then unbuilt_of k else Breaks (rule.CONSTANT ∷ []))
  unbuilt-fits k true p = p
  unbuilt-fits k false p = tt

  constant-fits : (a : Access) (k : Kind) (depth : ℕ) (form : Option Expr) → IsFormOf declared types (structures_of scopes) k form → Holds (constant_of scopes for a k depth form)
  constant-fits a (kind.Ordinal h) depth None s = unbuilt-fits (kind.Ordinal h) (may_be_constant for a (kind.Ordinal h)) (s, zero_of_host (typed_host h))
  constant-fits a (kind.Ordinal h) depth (Some x) s =
      text_or_known Holds scopes for a (kind.Ordinal h) depth x (none_written (valid.Ordinal (typed_host h)) x (λ t o. cc) s.1) (λ bytes e. absurd (no_text (valid.Ordinal (typed_host h)) x bytes (λ o. cc) s.1 e))
      (known-judged (kind.Ordinal h) depth (folded x) (λ y e. ordinal-constant h y s.0 (known-of_kind declared x (valid.Ordinal (typed_host h)) y s.1 e)))
  constant-fits a (kind.Structured n) depth None s = unbuilt-fits (kind.Structured n) (may_be_constant for a (kind.Structured n)) (λ built. cc)
  constant-fits a (kind.Structured n) depth (Some x) s =
      let v = structured-expr declared types (structures_of scopes) n x s in
      structured-fits a n depth x v.0 v.1 v.2
  constant-fits a (kind.Set h) depth None s = unbuilt-fits (kind.Set h) (may_be_constant for a (kind.Set h)) (s, empty-over (typed_host h))
  constant-fits a (kind.Set h) depth (Some x) s =
      text_or_known Holds scopes for a (kind.Set h) depth x (none_written (valid.Set (typed_host h)) x (λ t o. cc) s.1) (λ bytes e. absurd (no_text (valid.Set (typed_host h)) x bytes (λ o. cc) s.1 e))
      (known-judged (kind.Set h) depth (folded x) (λ y e. set-constant h y s.0 (known-of_kind declared x (valid.Set (typed_host h)) y s.1 e)))
  constant-fits a kind.EmptySet depth None s = unbuilt-fits kind.EmptySet (may_be_constant for a kind.EmptySet) empty-over
  constant-fits a kind.EmptySet depth (Some x) s =
      text_or_known Holds scopes for a kind.EmptySet depth x (none_written (valid.Set host.Boolean) x (λ t o. cc) (s host.Boolean)) (λ bytes e. absurd (no_text (valid.Set host.Boolean) x bytes (λ o. cc) (s host.Boolean) e))
      (known-judged kind.EmptySet depth (folded x) (λ y e. empty-constant y (λ h. known-of_kind declared x (valid.Set h) y (s h) e)))
  constant-fits a kind.Text depth None s = unbuilt-fits kind.Text (may_be_constant for a kind.Text) tt
  constant-fits a kind.Text depth (Some x) s =
      text_or_known Holds scopes for a kind.Text depth x (none_written valid.Bytes x (λ t o. cc) s) (λ bytes e. tt)
      (known-judged kind.Text depth (folded x) (λ y e. none_text y (known-of_kind declared x valid.Bytes y s e)))
  constant-fits a kind.File depth None s = absurd s
  constant-fits a kind.File depth (Some x) s = file-fits a depth x s

  -- so is what is made of a form that is accepted
  pub as_constant-fits : (J : Judged Typed) → Satisfies (λ t. IsFormOf declared types (structures_of scopes) t.kind t.form) J → Holds (when_accepted (as_constant scopes for) J)
  as_constant-fits (Accepts t) p = constant-fits t.access t.kind t.depth t.form p
  as_constant-fits (Breaks rules) p = tt
