-- The laws of typed forms.
use Rattle.std.proofs.Common.{◌≡◌, Bool, if◌then◌else◌, ℕ, ℤ, true, false, List, ◌∷◌, [], Option, Some, None, Ok, Err, map, refl, ap, sym, subst}
use Rattle.ep_typed.specs.Hosts.{is_of_host}
use Rattle.ep_typed.specs.Trees.{Expr, Constant, Text}
use Rattle.ep_meaning.specs.Valid.{Declarations}
use Rattle.ep_typed.specs.declared.value.Value.{Value}
use Rattle.ep_typed.specs.declared.value.Value.TheVariants as value
use Rattle.ep_tree.specs.declared.expression.Access.{Access}
use Rattle.ep_tree.specs.declared.expression.Argument.{Argument, out-Argument}
use Rattle.ep_tree.specs.declared.expression.ComponentValue.{ComponentValue, out-ComponentValue}
use Rattle.ep_tree.specs.declared.expression.Expression.{Expression}
use Rattle.ep_scope.specs.Scopes.{Region, depth_in, meant, meant_in}
use Rattle.ep_scope.specs.declared.structure.StructuredType.{StructuredType}
use Rattle.ep_scope.specs.declared.kind.Host.{Host}
use Rattle.ep_scope.specs.declared.kind.Host.TheVariants as host
use Rattle.ep_scope.specs.declared.kind.Kind.{Kind}
use Rattle.ep_scope.specs.declared.kind.Kind.TheVariants as kind
use Rattle.ep_scope.specs.declared.rule.TheConstants as rule
use Rattle.ep_expr_laws.specs.Agreement.{AgreesBy, AreActuals, IsAccessOf, IsFormOf, IsHost, TypeValues, structures_of}
use Rattle.ep_expr_laws.specs.Agreement.{IsSoundConstant}
use Rattle.ep_check_expr.specs.Constants.{as_constant, constant_by, constant_expression, constant_of, known, may_be_constant, nesting, purpose_of, stand_in, unbuilt_of}
use Rattle.ep_check_expr.specs.Expressions.{given, judged, judged_value, name_judged}
use Rattle.ep_rules.specs.Names.{spelled, leaf}
use Rattle.ep_rules.specs.Hosts.{typed_host}
use Rattle.ep_rules.specs.Judgements.{Judged, Accepts, Breaks, Typed, unbuilt, when_accepted}
use Rattle.ep_expr_laws.specs.Laws.{ExpressionsAreSound, AccessesAreSound, VariablesAreSound, ArgumentsAreSound, ValuesAreSound, ConstantsAreSound, BoundsAreSound, LabelsAreSound, InitialStatesAreSound, ExpressionsAreKnown, ConstantsAreKnown, BoundsAreKnown}
use Rattle.ep_expr_laws.specs.Origins.{IsKnownKind}
use Rattle.ep_rules.specs.declared.access.Access as accessed
use Rattle.ep_rules.specs.declared.access.Access.TheVariants as access
use Rattle.ep_rules.specs.Constructors.{set_judged}
use Rattle.ep_rules.specs.Functions.{applied_one, applied_two}
use Rattle.ep_rules.specs.Operators.{signed, negated, added, multiplied, compared}
use Rattle.ep_check_expr.specs.declared.constants.ConstantForm.{ConstantForm}
use Rattle.ep_check_expr.specs.declared.constants.Purpose.{Purpose}
use Rattle.ep_check_expr.specs.declared.constants.Purpose.TheVariants as purpose
use Rattle.ep_check_expr.specs.declared.structured_constants.ConstantValue.{ConstantValue}
use Rattle.ep_check_expr.specs.declared.structured_constants.NoConstant.TheVariants as reason
use Rattle.ep_check_expr.proofs.public.Plain.{spelled-plain, signed-plain, negated-plain, added-plain, multiplied-plain, compared-plain, applied_one-plain, applied_two-plain}
use Rattle.ep_expr_laws.proofs.public.Passing.{IsForm, arguments-fit}
use Rattle.ep_check_expr.proofs.public.Nodes.{given-value}
use Rattle.ep_check_expr.proofs.public.Accepted.{accesses-fit, expressions-fit, values-fit}
use Rattle.ep_expr_laws.proofs.Hosted.{IsKnown, knowledge_is_kept}
use Rattle.ep_expr_laws.proofs.Designated.{designated-fits}
use Rattle.ep_expr_laws.proofs.Indexed.{indexed-fits}
use Rattle.ep_check_expr.proofs.public.Keeping.{AreGiven, IsKept, Satisfies, if-satisfies, pair-satisfies, weaker-satisfies}
use Rattle.ep_expr_laws.proofs.ConstantForms.{IsJudgedConstant, as_constant-fits}
use Rattle.ep_expr_laws.proofs.public.Meant.{called-fits, meant-declared, meant_in-declared, value_named-fits}
use Rattle.ep_check_expr.proofs.public.Labels.{constructed-plain, labels-weaker}
use Rattle.ep_expr_laws.proofs.Constructed.{constructed-fits}
use Rattle.ep_expr_laws.proofs.Structures.{components-weaker, structure-fits}
use Rattle.ep_check_expr.proofs.public.AnyStructure.{structure-any}
use Rattle.ep_check_expr.specs.StructuredConstants.{Constancy, constancy, value_in}
use Rattle.ep_check_expr.specs.StructuredValues.{structure_judged}
use Rattle.ep_expr_laws.proofs.Sound.{Fits, signed-fits, negated-fits, added-fits, multiplied-fits, compared-fits, applied_one-fits, applied_two-fits}

-- a number or a character of the text
spelled-fits : (declared : Declarations) (types : TypeValues) (structures : List StructuredType) (h : Host) → IsHost h → (z : ℤ) → Fits declared types structures (spelled h z)
spelled-fits declared types structures h s z = if-satisfies (λ t. IsFormOf declared types structures t.kind t.form) (is_of_host (typed_host h) z) (leaf (Constant z) (kind.Ordinal h) access.Value) unbuilt (λ e. (s, (typed_host h, refl, e))) tt

text-fits : (declared : Declarations) (types : TypeValues) (structures : List StructuredType) (bytes : List ℕ) → Fits declared types structures (leaf (Text bytes) kind.Text access.Value)
text-fits declared types structures bytes = refl

module _ (declared : Declarations) (types : TypeValues) (scopes : List Region) where
  -- a valid form where these scopes are in view
  abbrev IsValid : Typed → Type 0
  IsValid = IsForm declared types (structures_of scopes)

  -- what is accepted is valid, of its kind and by what it is the bare name of
  abbrev Holds : Judged Typed → Type 0
  Holds = Satisfies IsValid

  -- alike, of its kind alone
  abbrev HasForm : Judged Typed → Type 0
  HasForm = Fits declared types (structures_of scopes)

  -- read of a variable of its type, where it is one
  abbrev IsRead : Typed → Type 0
  IsRead t = IsAccessOf declared types t.access t.form

  plain : (form : Option Expr) (k : Kind) (depth : ℕ) → IsRead (record { form = form; kind = k; depth = depth; access = access.Value })
  plain form k depth = tt

  holds : (J : Judged Typed) → HasForm J → Satisfies IsRead J → Holds J
  holds J p q = pair-satisfies (λ t. IsFormOf declared types (structures_of scopes) t.kind t.form) IsRead J p q

  of_kind : (J : Judged Typed) → Holds J → HasForm J
  of_kind J p = weaker-satisfies IsValid (λ t. IsFormOf declared types (structures_of scopes) t.kind t.form) J (λ t q. q.0) p

  module _ (agrees : AgreesBy declared types (structures_of scopes) (depth_in scopes) scopes) where
    -- each rule gives valid forms of valid ones
    validity_is_kept : IsKept IsValid scopes
    validity_is_kept = record {
      number = λ z. holds (spelled host.Integer z) (spelled-fits declared types (structures_of scopes) host.Integer refl z) (spelled-plain IsRead plain host.Integer z);
      character = λ z. holds (spelled host.Char z) (spelled-fits declared types (structures_of scopes) host.Char refl z) (spelled-plain IsRead plain host.Char z);
      text = λ bytes. (text-fits declared types (structures_of scopes) bytes, tt);
      named = λ name. value_named-fits declared types (structures_of scopes) (depth_in scopes) name (meant scopes name) (meant-declared declared types (structures_of scopes) (depth_in scopes) scopes name agrees);
      within = λ interface name. value_named-fits declared types (structures_of scopes) (depth_in scopes) name (meant_in scopes interface name) (meant_in-declared declared types (structures_of scopes) (depth_in scopes) scopes interface name agrees);
      called = λ name. called-fits declared types (structures_of scopes) (depth_in scopes) (meant scopes name) (meant-declared declared types (structures_of scopes) (depth_in scopes) scopes name agrees);
      indexes = λ x i p q. indexed-fits declared types scopes x i p q;
      fields = λ name x p. designated-fits declared types scopes name x p;
      parenthesizes = λ x p. (p.0, tt);
      signs = λ o x p. holds (signed o x) (signed-fits declared types (structures_of scopes) o x p.0) (signed-plain IsRead plain o x p.1);
      negates = λ x p. holds (negated x) (negated-fits declared types (structures_of scopes) x p.0) (negated-plain IsRead plain x);
      adds = λ o x y p q. holds (added o x y) (added-fits declared types (structures_of scopes) o x y p.0 q.0) (added-plain IsRead plain o x y);
      multiplies = λ o x y p q. holds (multiplied o x y) (multiplied-fits declared types (structures_of scopes) o x y p.0 q.0) (multiplied-plain IsRead plain o x y);
      compares = λ o x y p q. holds (compared o x y) (compared-fits declared types (structures_of scopes) o x y p.0 q.0) (compared-plain IsRead plain o x y);
      applies_one = λ f x p. holds (applied_one f x) (applied_one-fits declared types (structures_of scopes) f x p.0) (applied_one-plain IsRead plain f x);
      constructs = λ ls p. holds (set_judged ls) (constructed-fits declared types (structures_of scopes) ls (labels-weaker IsValid (λ t. IsFormOf declared types (structures_of scopes) t.kind t.form) (λ t q. q.0) ls p)) (constructed-plain IsRead plain ls);
      structures = λ c p n.
          holds (structure_judged scopes c n) (structure-fits declared types scopes agrees c (components-weaker IsValid (λ t. IsFormOf declared types (structures_of scopes) t.kind t.form) (λ t q. q.0) c p) n)
          (structure-any IsRead n (λ form depth. tt) scopes c);
      applies_two = λ f x y p q. holds (applied_two f x y) (applied_two-fits declared types (structures_of scopes) f x y p.0 q.0) (applied_two-plain IsRead plain f x y);
    }

    -- so every expression and every value that is accepted is valid
    pub expression-holds : (e : Expression) → Holds (judged scopes e)
    expression-holds e = expressions-fit IsValid scopes validity_is_kept e

    -- and so are arguments
    arguments-hold : (arguments : List Argument) → AreGiven IsValid (map (given scopes) arguments)
    arguments-hold [] = tt
    arguments-hold (a ∷ more) = (subst Holds (sym (given-value scopes a)) (expression-holds (out-Argument a).value), arguments-hold more)

    value-holds : (v : ComponentValue) (asked : Option ℕ) → Holds (judged_value scopes v asked)
    value-holds v asked = values-fit IsValid scopes validity_is_kept v asked

    access-holds : (a : Access) → Holds (name_judged scopes a)
    access-holds a = accesses-fit IsValid scopes validity_is_kept a

    expression-fits : (e : Expression) → HasForm (judged scopes e)
    expression-fits e = of_kind (judged scopes e) (expression-holds e)

    value-fits : (v : ComponentValue) (asked : Option ℕ) → HasForm (judged_value scopes v asked)
    value-fits v asked = of_kind (judged_value scopes v asked) (value-holds v asked)

pub expressions_are_sound : ExpressionsAreSound
expressions_are_sound scopes e t accepted declared types agrees = subst (HasForm declared types scopes) accepted (expression-fits declared types scopes agrees e)

pub accesses_are_sound : AccessesAreSound
accesses_are_sound scopes e t accepted declared types agrees = (subst (Holds declared types scopes) accepted (expression-holds declared types scopes agrees e)).1

pub variables_are_sound : VariablesAreSound
variables_are_sound scopes a t accepted =
    (λ declared types agrees. (subst (Holds declared types scopes) accepted (access-holds declared types scopes agrees a)).0, λ declared types agrees. (subst (Holds declared types scopes) accepted (access-holds declared types scopes agrees a)).1)

pub arguments_are_sound : ArgumentsAreSound
arguments_are_sound scopes ps arguments t accepted declared types agrees list fs is =
    subst (Satisfies (λ x. AreActuals declared list fs x.actuals)) accepted (arguments-fit declared types (structures_of scopes) list ps fs (map (given scopes) arguments) is (arguments-hold declared types scopes agrees arguments))

pub values_are_sound : ValuesAreSound
values_are_sound scopes v asked t accepted declared types agrees = subst (HasForm declared types scopes) accepted (value-fits declared types scopes agrees v asked)

-- a constant of a valid form is of its kind, whatever it is asked for
constant_is_sound : (scopes : List Region) (for : Purpose) (J : Judged Typed) (c : ConstantForm) → when_accepted (as_constant scopes for) J ≡ Accepts c
    → ((declared : Declarations) (types : TypeValues) → AgreesBy declared types (structures_of scopes) (depth_in scopes) scopes → HasForm declared types scopes J) → IsSoundConstant scopes c
constant_is_sound scopes for J c accepted form declared types agrees =
    subst (IsJudgedConstant types declared.types) accepted (as_constant-fits declared types scopes agrees for J (form declared types agrees))

pub constants_are_sound : ConstantsAreSound
constants_are_sound scopes v c accepted = constant_is_sound scopes (purpose_of (out-ComponentValue v)) (judged_value scopes v None) c accepted (λ declared types agrees. value-fits declared types scopes agrees v None)

-- so is a constant expression
pub constant_expressions_are_sound : (scopes : List Region) (e : Expression) (c : ConstantForm) → constant_expression scopes e ≡ Accepts c → IsSoundConstant scopes c
constant_expressions_are_sound scopes e c accepted = constant_is_sound scopes purpose.Expression (judged scopes e) c accepted (λ declared types agrees. expression-fits declared types scopes agrees e)

pub bounds_are_sound : BoundsAreSound
bounds_are_sound scopes e c accepted = constant_is_sound scopes purpose.Bound (judged scopes e) c accepted (λ declared types agrees. expression-fits declared types scopes agrees e)

pub labels_are_sound : LabelsAreSound
labels_are_sound scopes e c accepted = constant_is_sound scopes purpose.Label (judged scopes e) c accepted (λ declared types agrees. expression-fits declared types scopes agrees e)

pub initial_states_are_sound : InitialStatesAreSound
initial_states_are_sound scopes asked v c accepted =
    constant_is_sound scopes purpose.InitialState (judged_value scopes v asked) c accepted (λ declared types agrees. value-fits declared types scopes agrees v asked)

-- ---- hosts

known_kind : (k : Kind) (v : Value) (depth : ℕ) (c : ConstantForm) → known k v depth ≡ Accepts c → k ≡ c.kind
known_kind k v depth c e = let is : record { value = v; kind = k; depth = depth; built = true } ≡ c = cc in ap (λ y. y.kind) is

unbuilt_kind : (k : Kind) (c : ConstantForm) → unbuilt_of k ≡ Accepts c → k ≡ c.kind
unbuilt_kind k c e = let is : record { value = stand_in k; kind = k; depth = 1; built = false } ≡ c = cc in ap (λ x. x.kind) is

-- what stands for a form that is not built has its kind too
unbuilt_kind_if : (k : Kind) (b : Bool) (c : ConstantForm) → (if b then unbuilt_of k else Breaks (rule.CONSTANT ∷ [])) ≡ Accepts c → k ≡ c.kind
unbuilt_kind_if k true c e = unbuilt_kind k c e
unbuilt_kind_if k false c e = cc

kind_by : (for : Purpose) (k : Kind) (depth : ℕ) (r : Constancy ConstantValue) (c : ConstantForm) → constant_by for k depth r ≡ Accepts c → k ≡ c.kind
kind_by for k depth (Ok v) c e = known_kind k (value_in v) (nesting v depth) c e
kind_by for k depth (Err reason.Varies) c e = cc
kind_by for k depth (Err reason.Errs) c e = cc

same_kind : (scopes : List Region) (for : Purpose) (a : accessed.Access) (k : Kind) (depth : ℕ) (form : Option Expr) (c : ConstantForm) → constant_of scopes for a k depth form ≡ Accepts c → k ≡ c.kind
same_kind scopes for a k depth None c e = unbuilt_kind_if k (may_be_constant for a k) c e
same_kind scopes for a k depth (Some (Text bytes)) c e = known_kind k (value.Text bytes) 1 c e
same_kind scopes for a k depth (Some x) c e = kind_by for k depth (constancy scopes x) c e

pub expressions_are_known : ExpressionsAreKnown
expressions_are_known scopes e t accepted = subst (Satisfies (IsKnown scopes)) accepted (expressions-fit (IsKnown scopes) scopes (knowledge_is_kept scopes) e)

-- of a judgement whose kind is known, the constant's is, which is the same
constant_known : (scopes : List Region) (for : Purpose) (J : Judged Typed) (c : ConstantForm) → Satisfies (IsKnown scopes) J → when_accepted (as_constant scopes for) J ≡ Accepts c → IsKnownKind scopes c.kind
constant_known scopes for (Accepts t) c p e = subst (IsKnownKind scopes) (same_kind scopes for t.access t.kind t.depth t.form c e) p
constant_known scopes for (Breaks rules) c p e = cc

pub constants_are_known : ConstantsAreKnown
constants_are_known scopes v c accepted = constant_known scopes (purpose_of (out-ComponentValue v)) (judged_value scopes v None) c (values-fit (IsKnown scopes) scopes (knowledge_is_kept scopes) v None) accepted

pub bounds_are_known : BoundsAreKnown
bounds_are_known scopes e c accepted = constant_known scopes purpose.Bound (judged scopes e) c (expressions-fit (IsKnown scopes) scopes (knowledge_is_kept scopes) e) accepted
