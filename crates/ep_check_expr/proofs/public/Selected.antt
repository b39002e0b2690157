-- What is selected of an expression that is accepted keeps what each rule keeps.
use Rattle.std.proofs.Common.{◌≡◌, ◌+◌, ℕ, List, [], ◌∷◌, slice_get, Option, Some, None, refl, true}
use Rattle.ep_typed.specs.Trees.{Text}
use Rattle.ep_scope.specs.Fields.{field_number}
use Rattle.ep_scope.specs.Scopes.{Region, structure_in}
use Rattle.ep_scope.specs.declared.kind.Kind.{Kind}
use Rattle.ep_scope.specs.declared.kind.Kind.TheVariants as kind
use Rattle.ep_scope.specs.declared.structure.Composition.{Composition}
use Rattle.ep_scope.specs.declared.structure.Composition.TheVariants as composition
use Rattle.ep_scope.specs.declared.structure.FieldType.{FieldType}
use Rattle.ep_rules.specs.FieldDesignators.{designated_by, field_by, field_if, field_typed, field_within}
use Rattle.ep_rules.specs.Judgements.{Typed}
use Rattle.ep_check_expr.proofs.public.Keeping.{Satisfies, if-satisfies}
use Rattle.ep_scope.specs.declared.structure.ArrayType.{ArrayType}
use Rattle.ep_rules.specs.Indexing.{component_typed, indexed_by, indexed_if, no_index}
use Rattle.ep_rules.specs.Operators.{are_compatible, character, is_integer, unbuilt_typed}

-- what the name of a field gives: a field of a record type in view
module _ (Q : Typed → Type 0) (scopes : List Region) where
  field_if-given : (fs : List FieldType) (number : ℕ) (o : Option FieldType) → slice_get fs number ≡ o → (x : Typed) → ((f : FieldType) → slice_get fs number ≡ Some f → Satisfies Q (field_typed f x)) → Satisfies Q (field_if o x)
  field_if-given fs number None e x c = tt
  field_if-given fs number (Some f) e x c = c f e

  field_by-given : (fs : List FieldType) (o : Option ℕ) (x : Typed) → ((number : ℕ) (f : FieldType) → slice_get fs number ≡ Some f → Satisfies Q (field_typed f x)) → Satisfies Q (field_by fs o x)
  field_by-given fs None x c = tt
  field_by-given fs (Some number) x c = field_if-given fs number (slice_get fs number) refl x (c number)

  -- of a record, by its number
  field_within-given : (n : ℕ) (o : Option Composition) → structure_in scopes n ≡ o → (name : List ℕ) (x : Typed)
      → ((fs : List FieldType) (number : ℕ) (f : FieldType) → structure_in scopes n ≡ Some (composition.Record fs) → slice_get fs number ≡ Some f → Satisfies Q (field_typed f x)) → Satisfies Q (field_within o name x)
  field_within-given n None e name x c = tt
  field_within-given n (Some (composition.Array a)) e name x c = tt
  field_within-given n (Some (composition.Record fs)) e name x c = field_by-given fs (field_number fs name) x (λ number f there. c fs number f e there)

  pub field-given : (k : Kind) (name : List ℕ) (x : Typed)
      → ((n : ℕ) (fs : List FieldType) (number : ℕ) (f : FieldType) → k ≡ kind.Structured n → structure_in scopes n ≡ Some (composition.Record fs) → slice_get fs number ≡ Some f → Satisfies Q (field_typed f x))
      → Satisfies Q (designated_by scopes k name x)
  field-given (kind.Ordinal h) name x c = tt
  field-given (kind.Structured n) name x c = field_within-given n (structure_in scopes n) refl name x (λ fs number f. c n fs number f refl)
  field-given kind.Text name x c = tt
  field-given (kind.Set base) name x c = tt
  field-given kind.EmptySet name x c = tt
  field-given kind.File name x c = tt

-- what any index gives: a component of an array type in view, or a character
module _ (Q : Typed → Type 0) (scopes : List Region) where
  -- of an array, by its number
  component-given : (n : ℕ) (o : Option Composition) → structure_in scopes n ≡ o → (x i : Typed)
      → ((a : ArrayType) → structure_in scopes n ≡ Some (composition.Array a) → are_compatible (kind.Ordinal a.index) i.kind ≡ true → Satisfies Q (component_typed a x i)) → Satisfies Q (indexed_if o x i)
  component-given n None e x i c = tt
  component-given n (Some (composition.Array a)) e x i c = if-satisfies Q (are_compatible (kind.Ordinal a.index) i.kind) (component_typed a x i) no_index (λ fits. c a e fits) tt
  component-given n (Some (composition.Record fs)) e x i c = tt

  pub index-given : (k : Kind) (x i : Typed)
      → ((n : ℕ) (a : ArrayType) → k ≡ kind.Structured n → structure_in scopes n ≡ Some (composition.Array a) → are_compatible (kind.Ordinal a.index) i.kind ≡ true → Satisfies Q (component_typed a x i))
      → Satisfies Q (unbuilt_typed character x i) → Satisfies Q (indexed_by scopes k x i)
  index-given (kind.Ordinal h) x i c u = tt
  index-given (kind.Structured n) x i c u = component-given n (structure_in scopes n) refl x i (λ a. c n a refl)
  index-given (kind.Set base) x i c u = tt
  index-given kind.EmptySet x i c u = tt
  index-given kind.Text x i c u = if-satisfies Q (is_integer i.kind) (unbuilt_typed character x i) no_index (λ e. u) tt
  index-given kind.File x i c u = tt
