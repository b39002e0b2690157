-- What is known of a component of a valid constant is a valid form of its kind.
use Rattle.std.proofs.Common.{◌≡◌, ◌∙◌, ℕ, ℤ, Bool, true, false, List, [], ◌∷◌, Option, Some, None, refl, sym, ap, subst, ◌++◌, map}
use Rattle.std.proofs.lemmas.Option.{same_Some}
use Rattle.std.proofs.lemmas.Slice.Eq.{bytes_eq-Decides}
use Rattle.std.specs.Option.{option_and_then, option_or}
use Rattle.std.specs.Prelude.{if◌then◌else◌}
use Rattle.std.specs.Str.{bytes_eq}
use Rattle.ep_typed.specs.Hosts.{greatest, is_of_host, least}
use Rattle.ep_typed.specs.Trees as tree
use Rattle.ep_typed.specs.Trees.{AtField, AtIndex, AtIndexes, AtRanges, Constant, Elements, Expr, SameField, SetConstant, Text, next_element, no_element}
use Rattle.ep_values.specs.TypeValues as type
use Rattle.ep_values.specs.TypeValues.{ComponentTypes, TypeValue, bare_of}
use Rattle.ep_meaning.specs.Valid as valid
use Rattle.ep_meaning.specs.Valid.{AreElements, Declarations, IsExpr, IsStructured, IsTypeOfKind, LeadTo}
use Rattle.ep_scope.specs.declared.kind.Kind.{Kind}
use Rattle.ep_scope.specs.declared.kind.Kind.TheVariants as kind
use Rattle.ep_scope.specs.declared.structure.StructuredType.{StructuredType}
use Rattle.ep_scope.specs.declared.structure.FieldType.{FieldType}
use Rattle.ep_scope.specs.declared.structure.TagType.{TagType}
use Rattle.ep_scope.specs.declared.structure.VariantStep.{VariantStep}
use Rattle.ep_expr_laws.specs.Agreement.{AreHeld, IsFieldValue, IsFormOf, IsPartValue, IsValueAlong, IsValueOfKind, TypeValues}
use Rattle.ep_rules.specs.ConstantAccesses.{are_of_host, constant_as, element_known, has_index, value_at, value_for, value_of_field}
use Rattle.ep_rules.specs.Folding.{number_in}
use Rattle.ep_rules.specs.Hosts.{typed_host}
use Rattle.ep_rules.specs.KnownFields.{are_selected, field_known}
use Rattle.ep_rules.specs.VariantSteps.{field_steps, part_steps, variant_step}
use Rattle.ep_rules.specs.declared.folding.Folded.{Folded}
use Rattle.ep_rules.specs.declared.folding.Folded.TheVariants.{Known, Varies, Errs}
use Rattle.ep_expr_laws.proofs.public.Leading.{Leads, leads_once, step_leads}
use Rattle.ep_expr_laws.proofs.public.Betweens.{between_all}

same_bytes : (a b : List ℕ) → bytes_eq a b ≡ true → a ≡ b
same_bytes a b e = (bytes_eq-Decides a b).0 e

-- a structured type has one kind
structured_kind : (k : valid.ValueKind) (t : TypeValue) → IsStructured t → IsTypeOfKind k t → k ≡ valid.Structured t
structured_kind (valid.Structured u) t s p = ap valid.Structured p.0
structured_kind (valid.Ordinal h) (type.Array low high of) s p = absurd p
structured_kind (valid.Ordinal h) (type.Record ts) s p = absurd p
structured_kind (valid.Ordinal h) (type.Ordinal low high) s p = absurd s
structured_kind (valid.Ordinal h) type.Text s p = absurd s
structured_kind (valid.Ordinal h) (type.Set low high) s p = absurd s
structured_kind (valid.Ordinal h) (type.Initial of start) s p = absurd s
structured_kind valid.Bytes t s p = absurd p
structured_kind (valid.Set h) (type.Array low high of) s p = absurd p
structured_kind (valid.Set h) (type.Record ts) s p = absurd p
structured_kind (valid.Set h) (type.Ordinal low high) s p = absurd s
structured_kind (valid.Set h) type.Text s p = absurd s
structured_kind (valid.Set h) (type.Set low high) s p = absurd s
structured_kind (valid.Set h) (type.Initial of start) s p = absurd s

module _ (declared : Declarations) where
  -- a component of the type value is given the expression; an array or a record is one of the type value
  abbrev IsGivenFor : TypeValue → Expr → Type 0
  IsGivenFor of x = (k : valid.ValueKind) × IsExpr declared k x × ((u : TypeValue) → k ≡ valid.Structured u → (u ≡ of) × IsStructured u)

  of_its_kind : (k : valid.ValueKind) (of : TypeValue) (x : Expr) → IsTypeOfKind k of → IsExpr declared k x → IsGivenFor of x
  of_its_kind k of x t e = (k, e, λ u is. subst (λ j. IsTypeOfKind j of) is t)

  -- the component of a record to which the steps lead is
  abbrev IsGivenAt : ComponentTypes → List ℕ → Expr → Type 0
  IsGivenAt ts steps x = (of : TypeValue) × LeadTo ts steps of × IsGivenFor of x

  -- ---- what is given

  at-given : (low high : ℤ) (of : TypeValue) (es : Elements) (z : ℤ) (x : Expr) → AreElements declared (type.Array low high of) es → value_at es z ≡ Some x → IsGivenFor of x
  at-given low high of no_element z x es e = cc
  at-given low high of (next_element (AtIndex i y) more) z x es e = at-given low high of more z x es.1 e
  at-given low high of (next_element (AtField steps y) more) z x es e = at-given low high of more z x es.1 e
  at-given low high of (next_element (SameField from to) more) z x es e = at-given low high of more z x es.1 e
  at-given low high of (next_element (AtIndexes ds y) more) z x es e = at-given low high of more z x es.1 e
  at-given low high of (next_element (AtRanges ranges y) more) z x es e = later (value_at more z) (has_index ranges z) (at-given low high of more z x es.1) e
    where
      later : (o : Option Expr) (b : Bool) → (o ≡ Some x → IsGivenFor of x) → option_or o (if b then Some y else None) ≡ Some x → IsGivenFor of x
      later (Some w) b rest f = rest f
      later None true rest f = subst (IsGivenFor of) (same_Some y x f) (of_its_kind es.0.3.0 of y es.0.3.1 es.0.3.2)
      later None false rest f = cc

  field-given : (ts : ComponentTypes) (own : List ℕ) (y : Expr) → ((k : valid.ValueKind) × ((of : TypeValue) × LeadTo ts own of × IsTypeOfKind k of) × IsExpr declared k y) → (steps : List ℕ) → bytes_eq own steps ≡ true → IsGivenAt ts steps y
  field-given ts own y f steps same = (f.1.0, subst (λ s. LeadTo ts s f.1.0) (same_bytes own steps same) f.1.1, of_its_kind f.0 f.1.0 y f.1.2 f.2)

  of_field-given : (ts : ComponentTypes) (es : Elements) (steps : List ℕ) (x : Expr) → AreElements declared (type.Record ts) es → value_of_field es steps ≡ Some x → IsGivenAt ts steps x
  of_field-given ts no_element steps x es e = cc
  of_field-given ts (next_element (AtIndex i y) more) steps x es e = of_field-given ts more steps x es.1 e
  of_field-given ts (next_element (AtRanges ranges y) more) steps x es e = of_field-given ts more steps x es.1 e
  of_field-given ts (next_element (SameField from to) more) steps x es e = of_field-given ts more steps x es.1 e
  of_field-given ts (next_element (AtIndexes ds y) more) steps x es e = of_field-given ts more steps x es.1 e
  of_field-given ts (next_element (AtField own y) more) steps x es e = chosen (bytes_eq own steps) refl (of_field-given ts more steps x es.1) e
    where
      chosen : (b : Bool) → bytes_eq own steps ≡ b → (value_of_field more steps ≡ Some x → IsGivenAt ts steps x) → (if b then Some y else value_of_field more steps) ≡ Some x → IsGivenAt ts steps x
      chosen true same rest f = subst (IsGivenAt ts steps) (same_Some y x f) (field-given ts own y es.0 steps same)
      chosen false same rest f = rest f

  -- a second field is of the type of the first one, where that is structured
  same-given : (ts : ComponentTypes) (from to : List ℕ) (x : Expr) → ((k : valid.ValueKind) × ((of : TypeValue) × LeadTo ts from of × IsTypeOfKind k of) × ((of : TypeValue) × LeadTo ts to of × IsTypeOfKind k of)) → IsGivenAt ts from x → IsGivenAt ts to x
  same-given ts from to x s g = (
    s.2.0,
    s.2.1,
    (
      g.2.0,
      g.2.1,
      λ u is.
          let first = g.2.2 u is in
          let one : u ≡ s.1.0 = first.0 ∙ leads_once ts from g.0 s.1.0 g.1 s.1.1 in
          let structured : IsStructured s.1.0 = subst IsStructured one first.1 in
          let second = subst (λ j. IsTypeOfKind j s.2.0) (structured_kind s.0 s.1.0 structured s.1.2) s.2.2 in
          (one ∙ second.0, first.1),
    ),
  )

  for-given : (ts : ComponentTypes) (all es : Elements) (steps : List ℕ) (x : Expr) → AreElements declared (type.Record ts) all → AreElements declared (type.Record ts) es → value_for all es steps ≡ Some x → IsGivenAt ts steps x
  for-given ts all no_element steps x whole es e = cc
  for-given ts all (next_element (AtIndex i y) more) steps x whole es e = for-given ts all more steps x whole es.1 e
  for-given ts all (next_element (AtRanges ranges y) more) steps x whole es e = for-given ts all more steps x whole es.1 e
  for-given ts all (next_element (AtIndexes ds y) more) steps x whole es e = for-given ts all more steps x whole es.1 e
  for-given ts all (next_element (AtField own y) more) steps x whole es e = chosen (bytes_eq own steps) refl (for-given ts all more steps x whole es.1) e
    where
      chosen : (b : Bool) → bytes_eq own steps ≡ b → (value_for all more steps ≡ Some x → IsGivenAt ts steps x) → (if b then Some y else value_for all more steps) ≡ Some x → IsGivenAt ts steps x
      chosen true same rest f = subst (IsGivenAt ts steps) (same_Some y x f) (field-given ts own y es.0 steps same)
      chosen false same rest f = rest f
  for-given ts all (next_element (SameField from to) more) steps x whole es e = chosen (bytes_eq to steps) refl (for-given ts all more steps x whole es.1) e
    where
      chosen : (b : Bool) → bytes_eq to steps ≡ b → (value_for all more steps ≡ Some x → IsGivenAt ts steps x) → (if b then value_of_field all from else value_for all more steps) ≡ Some x → IsGivenAt ts steps x
      chosen true same rest f = subst (λ s. IsGivenAt ts s x) (same_bytes to steps same) (same-given ts from to x es.0 (of_field-given ts all from x whole f))
      chosen false same rest f = rest f

module _ (declared : Declarations) (types : TypeValues) (structures : List StructuredType) where
  -- ---- what is known

  form-as : (k : Kind) (of : TypeValue) (x y : Expr) → IsValueOfKind types k of → AreHeld types structures → IsGivenFor declared of x → constant_as k x ≡ Some y → IsFormOf declared types structures k (Some y)
  form-as (kind.Ordinal h) of (Constant z) y v held g e = chosen (is_of_host (typed_host h) z) refl e
    where
      chosen : (b : Bool) → is_of_host (typed_host h) z ≡ b → (if b then Some (Constant z) else None) ≡ Some y → IsFormOf declared types structures (kind.Ordinal h) (Some y)
      chosen true is f = subst (λ w. IsFormOf declared types structures (kind.Ordinal h) (Some w)) (same_Some (Constant z) y f) (v.0, (typed_host h, refl, is))
      chosen false is f = cc
  form-as (kind.Ordinal h) of _ y v held g e = cc
  form-as (kind.Set h) of (SetConstant ms) y v held g e = chosen (are_of_host h ms) refl e
    where
      chosen : (b : Bool) → are_of_host h ms ≡ b → (if b then Some (SetConstant ms) else None) ≡ Some y → IsFormOf declared types structures (kind.Set h) (Some y)
      chosen true is f = subst (λ w. IsFormOf declared types structures (kind.Set h) (Some w)) (same_Some (SetConstant ms) y f) (v.0, (typed_host h, refl, g.1.2, between_all (least (typed_host h)) (greatest (typed_host h)) ms ∙ is))
      chosen false is f = cc
  form-as (kind.Set h) of _ y v held g e = cc
  form-as (kind.Structured n) of (tree.Structured m es) y v held g e =
      let same = g.2 (bare_of g.1.0.type_value) g.1.1 in
      let valid_form : IsExpr declared (valid.Structured of) (tree.Structured m es) = subst (λ j. IsExpr declared j (tree.Structured m es)) (g.1.1 ∙ ap valid.Structured same.0) g.1 in
      subst (λ w. IsFormOf declared types structures (kind.Structured n) (Some w)) (same_Some (tree.Structured m es) y e) ((of, v, valid_form), held)
  form-as (kind.Structured n) of _ y v held g e = cc
  form-as kind.EmptySet of x y v held g e = absurd v
  form-as kind.Text of x y v held g e = absurd v
  form-as kind.File of x y v held g e = absurd v

  form-if : (k : Kind) (of : TypeValue) (o : Option Expr) (y : Expr) → IsValueOfKind types k of → AreHeld types structures → ((x : Expr) → o ≡ Some x → IsGivenFor declared of x) → option_and_then (constant_as k) o ≡ Some y → IsFormOf declared types structures k (Some y)
  form-if k of None y v held g e = cc
  form-if k of (Some x) y v held g e = form-as k of x y v held (g x refl) e

  -- a component of an array
  pub element_known-fits : (k : Kind) (low high : ℤ) (of : TypeValue) (es : Elements) (r : Folded) (y : Expr) → IsValueOfKind types k of → AreHeld types structures → AreElements declared (type.Array low high of) es → element_known k es r ≡ Some y
      → IsFormOf declared types structures k (Some y)
  element_known-fits k low high of es (Known z) y v held given e = form-if k of (value_at es (number_in z)) y v held (λ x f. at-given declared low high of es (number_in z) x given f) e
  element_known-fits k low high of es Varies y v held given e = cc
  element_known-fits k low high of es Errs y v held given e = cc

  -- the steps to a field lead to a component with a type value of its kind
  part-leads : (tag : Option TagType) (number : ℕ) (k : Kind) (ts : ComponentTypes) → IsPartValue types tag number k ts → Leads types ts k (part_steps tag number)
  part-leads None number k ts p = (p.0, p.1, p.2)
  part-leads (Some tag) number k ts p = (p.0, (type.next_component p.0 type.no_component, p.1, refl), p.2)

  along-leads : (path : List VariantStep) (tag : Option TagType) (number : ℕ) (k : Kind) (ts : ComponentTypes) → IsValueAlong (IsPartValue types tag number k) path ts → Leads types ts k (map variant_step path ++ part_steps tag number)
  along-leads [] tag number k ts p = part-leads tag number k ts p
  along-leads (s ∷ path) tag number k ts p =
      let l = along-leads path tag number k p.1 p.3 in
      (l.0, step_leads ts p.1 (variant_step s) (map variant_step path ++ part_steps tag number) l.0 p.2 l.1, l.2)

  -- a field of a record
  pub field_known-fits : (f : FieldType) (ts : ComponentTypes) (es : Elements) (y : Expr) → IsFieldValue types f ts → AreHeld types structures → AreElements declared (type.Record ts) es → field_known f es ≡ Some y
      → IsFormOf declared types structures f.kind (Some y)
  field_known-fits f ts es y p held given e = chosen (are_selected es [] f.path) e
    where
      chosen : (b : Bool) → (if b then option_and_then (constant_as f.kind) (value_for es es (field_steps f)) else None) ≡ Some y → IsFormOf declared types structures f.kind (Some y)
      chosen true h =
          let l = along-leads f.path f.tag f.number f.kind ts p in
          form-if f.kind l.0 (value_for es es (field_steps f)) y l.2 held
          (λ x g.
          let m = for-given declared ts es es (field_steps f) x given given g in
          subst (λ t. IsGivenFor declared t x) (leads_once ts (field_steps f) m.0 l.0 m.1 l.1) m.2) h
      chosen false h = cc
