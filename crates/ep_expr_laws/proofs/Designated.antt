-- What the name of a field gives of a valid form is valid.
use Rattle.std.proofs.Common.{◌≡◌, ◌+◌, ℕ, nat_le, List, [], ◌∷◌, slice_get, Option, Some, None, refl, subst, sym}
use Rattle.std.specs.Prelude.{All}
use Rattle.ep_typed.specs.Trees as tree
use Rattle.ep_typed.specs.Trees.{Elements, Place, Expr, Constant, Text, Read, One, Two, Short, Step, Function, IndexedValue, FieldValue, VariantValue, SetConstant, SetOf, OnSets, Card, Field}
use Rattle.ep_meaning.specs.Valid.{Declarations}
use Rattle.ep_typed.specs.declared.unit.UnitType.{UnitType}
use Rattle.ep_scope.specs.Scopes.{Region}
use Rattle.ep_scope.specs.declared.kind.Kind.TheVariants as kind
use Rattle.ep_scope.specs.declared.parameter.Protection.{Protection}
use Rattle.ep_scope.specs.declared.rule.TheConstants as rule
use Rattle.ep_scope.specs.declared.structure.Composition.TheVariants as composition
use Rattle.ep_scope.specs.declared.structure.FieldType.{FieldType}
use Rattle.ep_scope.specs.declared.structure.StructuredType.{StructuredType}
use Rattle.ep_expr_laws.specs.Agreement.{HoldsStructure, IsAccessOf, IsFormOf, IsStructuredAt, IsStructuredValue, TypeValues, structures_of}
use Rattle.ep_rules.specs.FieldDesignators.{along, designated, field_access, field_form, field_typed, part_form, part_taken, reached, steps_to, variable_access}
use Rattle.ep_rules.specs.Judgements.{Judged, Accepts, Breaks, Typed}
use Rattle.ep_rules.specs.declared.access.Access.{Access}
use Rattle.ep_rules.specs.declared.access.Access.TheVariants as access
use Rattle.ep_rules.specs.declared.forms.TheConstants as limit
use Rattle.ep_expr_laws.proofs.public.Components.{HasComponents, built-form, component-type, field-component, known-field, unbuilt-form}
use Rattle.ep_expr_laws.proofs.FieldPlaces.{field-place, field-tagged, read-access, some-field, unread-access}
use Rattle.ep_check_expr.proofs.public.Keeping.{Satisfies, if-satisfies}
use Rattle.ep_expr_laws.proofs.public.Passing.{IsForm}
use Rattle.ep_expr_laws.proofs.public.Places.{made_so, structure_in-holds}
use Rattle.ep_check_expr.proofs.public.Selected.{field-given}

-- ---- valid forms
module _ (declared : Declarations) (types : TypeValues) (structures : List StructuredType) where
  -- what is accepted is valid
  abbrev Holds : Judged Typed → Type 0
  Holds = Satisfies (IsForm declared types structures)

  module _ (n : ℕ) (fs : List FieldType) (number : ℕ) (f : FieldType) (there : slice_get fs number ≡ Some f) (in_view : (list : List UnitType) → All (HoldsStructure types list) structures → HoldsStructure types list (made_so n (composition.Record fs))) where
    -- the field has a valid form, where the record has one
    abbrev IsFieldForm : Access → Option Expr → Type 0
    IsFieldForm whole x = IsFormOf declared types structures f.kind (field_form f x) × IsAccessOf declared types (field_access f whole) (field_form f x)

    some-kind : HasComponents declared types structures f.kind
    some-kind = some-field declared types structures n fs in_view number f there

    -- where the record is not built
    unbuilt-access : (whole : Access) → IsAccessOf declared types (field_access f whole) None
    unbuilt-access (access.Variable outer guarded) = unread-access declared types f.of guarded f.tag
    unbuilt-access (access.Tag outer guarded tag) = unread-access declared types f.of guarded f.tag
    unbuilt-access access.File = tt
    unbuilt-access access.Constant = tt
    unbuilt-access access.Value = tt

    unbuilt-field : (list : List UnitType) → All (HoldsStructure types list) structures → (whole : Access) → IsFieldForm whole None
    unbuilt-field list all whole = (unbuilt-form declared types structures f.kind some-kind list all, unbuilt-access whole)

    -- where it is read of a variable
    read-variable : (place : Place) → IsStructuredAt declared types structures n place → (guarded : Protection) → IsAccessOf declared types (variable_access f.of guarded f.tag) (Some (Read (reached f place)))
    read-variable place at guarded =
        read-access declared types f.of guarded f.tag f.number (along f.path place)
        (component-type declared types structures f.of (reached f place) f.kind (field-place declared types structures n fs in_view number f there place at)) (field-tagged declared types structures n fs in_view number f there place at)

    reading-access : (place : Place) → IsStructuredAt declared types structures n place → (whole : Access) → IsAccessOf declared types (field_access f whole) (Some (Read (reached f place)))
    reading-access place at (access.Variable outer guarded) = read-variable place at guarded
    reading-access place at (access.Tag outer guarded tag) = read-variable place at guarded
    reading-access place at access.File = tt
    reading-access place at access.Constant = tt
    reading-access place at access.Value = tt

    read-field : (place : Place) → IsStructuredAt declared types structures n place → (whole : Access) → IsFieldForm whole (Some (Read place))
    read-field place at whole = (built-form declared types structures f.of (reached f place) f.kind (field-place declared types structures n fs in_view number f there place at), reading-access place at whole)

    -- where it is a value, of which no field is a variable
    value-access : (x : Expr) → ((place : Place) → x ≡ Read place → ⊥) → (whole : Access) → IsAccessOf declared types whole (Some x) → (field : Option Expr) → IsAccessOf declared types (field_access f whole) field
    value-access x unread (access.Variable outer guarded) h field = absurd (unread h.0 h.1)
    value-access x unread (access.Tag outer guarded tag) h field = absurd (unread (Field (Field h.0 h.1) 0) h.2)
    value-access x unread access.File h field = tt
    value-access x unread access.Constant h field = tt
    value-access x unread access.Value h field = tt

    value-field : (x : Expr) → part_form f x ≡ part_taken f x → ((place : Place) → x ≡ Read place → ⊥) → IsStructuredValue declared types structures n x → (whole : Access) → IsAccessOf declared types whole (Some x) → IsFieldForm whole (Some x)
    value-field x is unread v whole g = (
      subst (λ y. IsFormOf declared types structures f.kind (Some y)) (sym is) (field-component declared types structures n x unread v fs number f there (in_view v.1.0 v.1.1)),
      value-access x unread whole g (Some (part_form f x)),
    )

    -- where it is written out
    written-field : (m : ℕ) (es : Elements) → IsStructuredValue declared types structures n (tree.Structured m es) → (whole : Access) → IsAccessOf declared types whole (Some (tree.Structured m es)) → IsFieldForm whole (Some (tree.Structured m es))
    written-field m es v whole g = (
      known-field declared types structures n (tree.Structured m es) (λ place e. cc) v fs number f there (in_view v.1.0 v.1.1) m es refl,
      value-access (tree.Structured m es) (λ place e. cc) whole g (Some (part_form f (tree.Structured m es))),
    )

    -- each way
    field-valid : (x : Option Expr) → IsFormOf declared types structures (kind.Structured n) x → (whole : Access) → IsAccessOf declared types whole x → IsFieldForm whole x
    field-valid None g whole h = unbuilt-field g.0 g.1 whole
    field-valid (Some (Read place)) g whole h = read-field place g whole
    field-valid (Some (Function callee given)) g whole h = value-field (Function callee given) refl (λ place e. cc) g whole h
    field-valid (Some (IndexedValue array index)) g whole h = value-field (IndexedValue array index) refl (λ place e. cc) g whole h
    field-valid (Some (FieldValue inner k)) g whole h = value-field (FieldValue inner k) refl (λ place e. cc) g whole h
    field-valid (Some (VariantValue inner selection k)) g whole h = value-field (VariantValue inner selection k) refl (λ place e. cc) g whole h
    field-valid (Some (tree.Structured m es)) g whole h = written-field m es g whole h
    field-valid (Some (Constant z)) g whole h = absurd g
    field-valid (Some (Text bytes)) g whole h = absurd g
    field-valid (Some (One operation x)) g whole h = absurd g
    field-valid (Some (Two operation x y)) g whole h = absurd g
    field-valid (Some (Short operation x y)) g whole h = absurd g
    field-valid (Some (Step down low high x y)) g whole h = absurd g
    field-valid (Some (SetConstant members)) g whole h = absurd g
    field-valid (Some (SetOf members)) g whole h = absurd g
    field-valid (Some (OnSets operation x y)) g whole h = absurd g
    field-valid (Some (Card x)) g whole h = absurd g

    -- a field of a valid record is valid
    field-fits : (x : Typed) → IsFormOf declared types structures (kind.Structured n) x.form → IsAccessOf declared types x.access x.form → Holds (field_typed f x)
    field-fits x g h =
        let c = field-valid x.form g x.access h in
        if-satisfies (IsForm declared types structures) (nat_le (steps_to f + x.depth) limit.DEPTH) (Accepts _) (Breaks (rule.TOO_DEEP ∷ [])) (λ e. c) tt

module _ (declared : Declarations) (types : TypeValues) (scopes : List Region) where
  -- what the name of a field gives of a valid form is one
  pub designated-fits : (name : List ℕ) (x : Typed) → IsForm declared types (structures_of scopes) x → Satisfies (IsForm declared types (structures_of scopes)) (designated scopes name x)
  designated-fits name x p =
      field-given (IsForm declared types (structures_of scopes)) scopes x.kind name x
      (λ n fs number f is e there.
      field-fits declared types (structures_of scopes) n fs number f there (λ list all. structure_in-holds (HoldsStructure types list) n scopes (composition.Record fs) all e) x (subst (λ k. IsFormOf declared types (structures_of scopes) k x.form) is p.0) p.1)
