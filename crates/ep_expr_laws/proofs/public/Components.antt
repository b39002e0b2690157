-- A component is valid: what is read of a structured variable, and what is taken of a structured value.
use Rattle.std.proofs.Common.{◌≡◌, ◌∙◌, ℕ, List, [], ◌∷◌, slice_get, Option, Some, None, refl, sym, subst}
use Rattle.std.proofs.lemmas.Option.{same_Some}
use Rattle.std.specs.Prelude.{All, unwrap_or}
use Rattle.ep_typed.specs.Denoters.{host_of, bare_type_of}
use Rattle.ep_typed.specs.Trees as tree
use Rattle.ep_typed.specs.Trees.{Denoter, Elements, Expr, Field, FieldValue, IndexedValue, Place, Read, VariantValue}
use Rattle.ep_values.specs.TypeValues as type
use Rattle.ep_values.specs.TypeValues.{ComponentTypes, TypeValue, bare_of}
use Rattle.ep_meaning.specs.Valid as valid
use Rattle.ep_meaning.specs.Valid.{AreElements, Declarations, IsExpr, IsOfKind, IsTypeOfKind}
use Rattle.ep_typed.specs.declared.unit.UnitType.{UnitType}
use Rattle.ep_scope.specs.declared.kind.Kind.{Kind}
use Rattle.ep_scope.specs.declared.kind.Kind.TheVariants as kind
use Rattle.ep_scope.specs.declared.parameter.TypeName.{TypeName}
use Rattle.ep_scope.specs.declared.parameter.TypeName.TheVariants as type_name
use Rattle.ep_scope.specs.declared.structure.ArrayType.{ArrayType}
use Rattle.ep_scope.specs.declared.structure.Composition.TheVariants as composition
use Rattle.ep_scope.specs.declared.structure.FieldType.{FieldType}
use Rattle.ep_scope.specs.declared.structure.StructuredType.{StructuredType}
use Rattle.ep_scope.specs.declared.structure.TagType.{TagType}
use Rattle.ep_scope.specs.declared.structure.VariantStep.{VariantStep}
use Rattle.ep_expr_laws.specs.Agreement.{AreHeld, HasKind, HoldsStructure, IsAccessOf, IsFieldAt, IsFieldValue, IsFormOf, IsHost, IsOfType, IsPartValue, IsStoredIn, IsStructuredAt, IsStructuredValue, IsValueAlong, IsValueOf, IsValueOfKind, TypeValues}
use Rattle.ep_rules.specs.ConstantAccesses.{element_known}
use Rattle.ep_rules.specs.FieldDesignators.{component_taken, part_taken, reached, taken_along}
use Rattle.ep_rules.specs.KnownFields.{field_known}
use Rattle.ep_rules.specs.declared.folding.Folded.{Folded}
use Rattle.ep_expr_laws.proofs.ConstantAccesses.{element_known-fits, field_known-fits}
use Rattle.ep_rules.specs.Hosts.{typed_host}
use Rattle.ep_rules.specs.Indexing.{component_access}
use Rattle.ep_rules.specs.declared.access.Access.{Access}
use Rattle.ep_rules.specs.declared.access.Access.TheVariants as access
use Rattle.ep_expr_laws.proofs.FieldPlaces.{all_of_each, all_there, field-place, field-tagged}
use Rattle.ep_expr_laws.proofs.public.Places.{IsComponent, IsComponentAt, made_so, place_at, place_wider}

module _ (declared : Declarations) (types : TypeValues) (structures : List StructuredType) where
  -- some denoter of a list that holds the structured types is of the kind
  abbrev pub HasComponents : Kind → Type 0
  HasComponents k = (list : List UnitType) → All (HoldsStructure types list) structures → (d : Denoter) × HasKind types list d k

  -- a component that is not built has a valid form
  pub unbuilt-form : (k : Kind) → HasComponents k → (list : List UnitType) → All (HoldsStructure types list) structures → IsFormOf declared types structures k None
  unbuilt-form (kind.Ordinal h) some list all = (some list all).1.0
  unbuilt-form (kind.Structured m) some list all = (list, all)
  unbuilt-form (kind.Set h) some list all = (some list all).1.0
  unbuilt-form kind.EmptySet some list all = tt
  unbuilt-form kind.Text some list all = tt
  unbuilt-form kind.File some list all = (some list all).1

  module _ (of : TypeName) (place : Place) where
    -- so has one that is
    pub built-form : (k : Kind) → IsComponentAt declared types structures of k place → IsFormOf declared types structures k (Some (Read place))
    built-form (kind.Ordinal h) at =
        let p = place_at declared (IsComponent declared types structures of (kind.Ordinal h)) place at in (
          p.2.0.0.0,
          place_wider declared (IsComponent declared types structures of (kind.Ordinal h)) (λ list d. host_of list d ≡ Some (typed_host h)) place (λ list d c. c.0.0.1) at,
        )
    built-form (kind.Structured m) at =
        place_wider declared (IsComponent declared types structures of (kind.Structured m)) (λ list d. HasKind types list d (kind.Structured m) × All (HoldsStructure types list) structures) place (λ list d c. (c.0.0, c.1)) at
    built-form (kind.Set h) at =
        let p = place_at declared (IsComponent declared types structures of (kind.Set h)) place at in
        (p.2.0.0.0, place_wider declared (IsComponent declared types structures of (kind.Set h)) (IsOfKind (valid.Set (typed_host h))) place (λ list d c. c.0.0.1) at)
    built-form kind.EmptySet at = absurd (place_at declared (IsComponent declared types structures of kind.EmptySet) place at).2.0.0
    built-form kind.Text at = absurd (place_at declared (IsComponent declared types structures of kind.Text) place at).2.0.0
    built-form kind.File at = absurd (place_at declared (IsComponent declared types structures of kind.File) place at).2.0.0

    -- the component has its type
    pub component-type : (k : Kind) → IsComponentAt declared types structures of k place → IsOfType declared types place of
    component-type k at =
        let t = (place_at declared (IsComponent declared types structures of k) place at).2.0.1 in
        (t.0, t.1, place_wider declared (IsComponent declared types structures of k) (λ list d. bare_type_of list d ≡ Some t.0) place (λ list d c. c.0.1.2 ∙ (sym c.0.1.1 ∙ t.1)) at)

    -- and it is read of a variable of that type where the whole is a variable
    built-access : (k : Kind) → IsComponentAt declared types structures of k place → (whole : Access) → IsAccessOf declared types (component_access of whole) (Some (Read place))
    built-access k at (access.Variable outer guarded) = (place, refl, component-type k at)
    built-access k at (access.Tag outer guarded tag) = (place, refl, component-type k at)
    built-access k at access.File = tt
    built-access k at access.Constant = tt
    built-access k at access.Value = tt

  -- nothing is asked of what is not built
  unbuilt-access : (of : TypeName) (whole : Access) → IsAccessOf declared types (component_access of whole) None
  unbuilt-access of (access.Variable outer guarded) = tt
  unbuilt-access of (access.Tag outer guarded tag) = tt
  unbuilt-access of access.File = tt
  unbuilt-access of access.Constant = tt
  unbuilt-access of access.Value = tt

  -- a component of this type and kind is valid, of a whole that is such an access
  abbrev pub IsComponentForm : TypeName → Kind → Access → Option Expr → Type 0
  IsComponentForm of k whole form = IsFormOf declared types structures k form × IsAccessOf declared types (component_access of whole) form

  pub unbuilt-component : (of : TypeName) (k : Kind) → HasComponents k → (list : List UnitType) → All (HoldsStructure types list) structures → (whole : Access) → IsComponentForm of k whole None
  unbuilt-component of k some list all whole = (unbuilt-form k some list all, unbuilt-access of whole)

  -- what is read of it is
  pub built-component : (of : TypeName) (k : Kind) (place : Place) → IsComponentAt declared types structures of k place → (whole : Access) → IsComponentForm of k whole (Some (Read place))
  built-component of k place at whole = (built-form of place k at, built-access of place k at whole)

  -- what is known of a variable is known of it
  stored-component : (of : TypeName) (place : Place) (k : Kind) → IsComponentAt declared types structures of k place → IsStoredIn declared types structures place k
  stored-component of place (kind.Ordinal h) at = built-form of place (kind.Ordinal h) at
  stored-component of place (kind.Structured m) at = built-form of place (kind.Structured m) at
  stored-component of place (kind.Set h) at = built-form of place (kind.Set h) at
  stored-component of place kind.EmptySet at = absurd (place_at declared (IsComponent declared types structures of kind.EmptySet) place at).2.0.0
  stored-component of place kind.Text at = absurd (place_at declared (IsComponent declared types structures of kind.Text) place at).2.0.0
  stored-component of place kind.File at = tt

  -- a record at a place has the fields of its type
  pub fields-at : (depth n : ℕ) (fs : List FieldType) → ((list : List UnitType) → All (HoldsStructure types list) structures → HoldsStructure types list (made_so n (composition.Record fs))) → (place : Place) → IsStructuredAt declared types structures n place
      → All (λ f. IsFieldAt declared types structures depth f place) fs
  fields-at depth n fs in_view place at =
      all_of_each (λ f. IsFieldAt declared types structures depth f place) fs
      (λ number f there.
      let field = field-place declared types structures n fs in_view number f there place at in
      (stored-component f.of (reached f place) f.kind field, component-type f.of (reached f place) f.kind field, field-tagged declared types structures n fs in_view number f there place at))

  -- ---- components of values

  -- what is taken of a value is of the kind
  abbrev IsTaken : Kind → Expr → Type 0
  IsTaken (kind.Ordinal h) x = IsHost h × IsExpr declared (valid.Ordinal (typed_host h)) x
  IsTaken (kind.Structured m) x = IsStructuredValue declared types structures m x
  IsTaken (kind.Set h) x = IsHost h × IsExpr declared (valid.Set (typed_host h)) x
  IsTaken kind.EmptySet x = ⊥
  IsTaken kind.Text x = ⊥
  IsTaken kind.File x = ⊥

  -- where it is of the kinds of its type value
  taken-value : (k : Kind) (t : TypeValue) (x : Expr) → IsValueOfKind types k t → AreHeld types structures → ((w : valid.ValueKind) → IsTypeOfKind w t → IsExpr declared w x) → IsTaken k x
  taken-value (kind.Ordinal h) t x v held is = (v.0, is (valid.Ordinal (typed_host h)) v.1)
  taken-value (kind.Structured m) t x v held is = ((t, v, is (valid.Structured t) (refl, v.1)), held)
  taken-value (kind.Set h) t x v held is = (v.0, is (valid.Set (typed_host h)) v.1)
  taken-value kind.EmptySet t x v held is = v
  taken-value kind.Text t x v held is = v
  taken-value kind.File t x v held is = v

  indexed-form : (k : Kind) (array index : Expr) → IsTaken k (IndexedValue array index) → IsFormOf declared types structures k (Some (IndexedValue array index))
  indexed-form (kind.Ordinal h) array index p = p
  indexed-form (kind.Structured m) array index p = p
  indexed-form (kind.Set h) array index p = p
  indexed-form kind.EmptySet array index p = absurd p
  indexed-form kind.Text array index p = absurd p
  indexed-form kind.File array index p = absurd p

  field-form : (k : Kind) (whole : Expr) (number : ℕ) → IsTaken k (FieldValue whole number) → IsFormOf declared types structures k (Some (FieldValue whole number))
  field-form (kind.Ordinal h) whole number p = p
  field-form (kind.Structured m) whole number p = p
  field-form (kind.Set h) whole number p = p
  field-form kind.EmptySet whole number p = absurd p
  field-form kind.Text whole number p = absurd p
  field-form kind.File whole number p = absurd p

  -- a component of the value of a record
  part-form : (x : Expr) (ts : ComponentTypes) → AreHeld types structures → IsExpr declared (valid.Structured (type.Record ts)) x → (k : Kind) (number : ℕ) (tag : Option TagType) → IsPartValue types tag number k ts
      → IsFormOf declared types structures k (Some (component_taken tag number x))
  part-form x ts held whole k number None p = field-form k x number (taken-value k p.0 (FieldValue x number) p.2 held (λ w q. (ts, p.0, whole, p.1, q)))
  part-form x ts held whole k number (Some tag) p =
      let own = type.next_component p.0 type.no_component in
      field-form k (FieldValue x number) 0 (taken-value k p.0 (FieldValue (FieldValue x number) 0) p.2 held (λ w q. (own, p.0, (ts, type.Record own, whole, p.1, (refl, tt)), refl, q)))

  -- a field of the variant to which steps lead from it
  along-form : (x : Expr) (ts : ComponentTypes) → AreHeld types structures → IsExpr declared (valid.Structured (type.Record ts)) x → (k : Kind) (number : ℕ) (tag : Option TagType) (path : List VariantStep) → IsValueAlong (IsPartValue types tag number k) path ts
      → IsFormOf declared types structures k (Some (component_taken tag number (taken_along path x)))
  along-form x ts held whole k number tag [] p = part-form x ts held whole k number tag p
  along-form x ts held whole k number tag (s ∷ path) p =
      along-form (VariantValue x s.selection s.variant) p.1 held (ts, p.1, p.0.1, p.0.2, whole, p.0.4, p.2, refl, (p.0.0, p.0.3)) k number tag path p.3

  -- no component of it is a variable, since the value is none
  value-access : (of : TypeName) (whole : Access) (x component : Expr) → ((place : Place) → x ≡ Read place → ⊥) → IsAccessOf declared types whole (Some x) → IsAccessOf declared types (component_access of whole) (Some component)
  value-access of (access.Variable outer guarded) x component unread h = absurd (unread h.0 h.1)
  value-access of (access.Tag outer guarded tag) x component unread h = absurd (unread (Field (Field h.0 h.1) 0) h.2)
  value-access of access.File x component unread h = tt
  value-access of access.Constant x component unread h = tt
  value-access of access.Value x component unread h = tt

  -- the one type value of a structured type
  one_type : (n : ℕ) (t u : TypeValue) → IsValueOf types n t → types (type_name.Entry n) ≡ Some u → t ≡ u
  one_type n t u v e = same_Some t u (sym v.0 ∙ e)

  -- what is written out of a type value
  written_elements : (t : TypeValue) (number : ℕ) (es : Elements) → IsExpr declared (valid.Structured t) (tree.Structured number es) → (u : TypeValue) → t ≡ u → AreElements declared u es
  written_elements t number es written u same = subst (λ w. AreElements declared w es) (bare_same t (bare_of written.0.type_value) written.1 ∙ same) written.3
    where
      bare_same : (a b : TypeValue) → valid.Structured a ≡ valid.Structured b → b ≡ a
      bare_same a b e = cc

  module _ (n : ℕ) (x : Expr) (unread : (place : Place) → x ≡ Read place → ⊥) (v : IsStructuredValue declared types structures n x) where
    -- a component of the value of an array
    pub indexed-component : (a : ArrayType) (index : Expr) → HoldsStructure types v.1.0 (made_so n (composition.Array a)) → IsExpr declared (valid.Ordinal (typed_host a.index)) index
        → (whole : Access) → IsAccessOf declared types whole (Some x) → IsComponentForm a.component a.kind whole (Some (IndexedValue x index))
    indexed-component a index h f whole g =
        let made = h.value_made in
        let same : v.0.0 ≡ type.Array a.low a.high made.0 = one_type n v.0.0 h.type_value v.0.1 h.has_value ∙ made.1 in
        let array : IsExpr declared (valid.Structured (type.Array a.low a.high made.0)) x = subst (λ t. IsExpr declared (valid.Structured t) x) same v.0.2 in (
          indexed-form a.kind x index (taken-value a.kind made.0 (IndexedValue x index) made.3 v.1 (λ w p. (a.low, a.high, made.0, array, p, (typed_host a.index, made.2, f)))),
          value-access a.component whole x (IndexedValue x index) unread g,
        )

    -- a component of an array that is written out, where it is known
    pub element-known : (a : ArrayType) (number : ℕ) (es : Elements) → x ≡ tree.Structured number es → (r : Folded) → HoldsStructure types v.1.0 (made_so n (composition.Array a)) → (whole : Access) → IsAccessOf declared types whole (Some x)
        → (y : Expr) → element_known a.kind es r ≡ Some y → IsComponentForm a.component a.kind whole (Some y)
    element-known a number es is r h whole g y known =
        let made = h.value_made in
        let same : v.0.0 ≡ type.Array a.low a.high made.0 = one_type n v.0.0 h.type_value v.0.1 h.has_value ∙ made.1 in
        let written = subst (IsExpr declared (valid.Structured v.0.0)) is v.0.2 in (
          element_known-fits declared types structures a.kind a.low a.high made.0 es r y made.3 v.1 (written_elements v.0.0 number es written (type.Array a.low a.high made.0) same) known,
          value-access a.component whole x y unread g,
        )

    -- a field of the value of a record, and alike of a record that is written out, where it may be known
    known-part : (ts : ComponentTypes) → IsExpr declared (valid.Structured (type.Record ts)) x → (f : FieldType) (number : ℕ) (es : Elements) → x ≡ tree.Structured number es → IsFieldValue types f ts → (o : Option Expr)
        → field_known f es ≡ o → IsFormOf declared types structures f.kind (Some (unwrap_or o (part_taken f x)))
    known-part ts whole f number es is p None known = along-form x ts v.1 whole f.kind f.number f.tag f.path p
    known-part ts whole f number es is p (Some y) known =
        field_known-fits declared types structures f ts es y p v.1
        (written_elements (type.Record ts) number es (subst (IsExpr declared (valid.Structured (type.Record ts))) is whole) (type.Record ts) refl) known

    pub known-field : (fs : List FieldType) (place : ℕ) (f : FieldType) → slice_get fs place ≡ Some f → HoldsStructure types v.1.0 (made_so n (composition.Record fs)) → (number : ℕ) (es : Elements) → x ≡ tree.Structured number es
        → IsFormOf declared types structures f.kind (Some (unwrap_or (field_known f es) (part_taken f x)))
    known-field fs place f there h number es is =
        let made = h.value_made in
        let same : v.0.0 ≡ type.Record made.0 = one_type n v.0.0 h.type_value v.0.1 h.has_value ∙ made.1 in
        let whole : IsExpr declared (valid.Structured (type.Record made.0)) x = subst (λ t. IsExpr declared (valid.Structured t) x) same v.0.2 in
        known-part made.0 whole f number es is (all_there (λ (g : FieldType). IsFieldValue types g made.0) fs place f made.2 there) (field_known f es) refl

    pub field-component : (fs : List FieldType) (number : ℕ) (f : FieldType) → slice_get fs number ≡ Some f → HoldsStructure types v.1.0 (made_so n (composition.Record fs)) → IsFormOf declared types structures f.kind (Some (part_taken f x))
    field-component fs number f there h =
        let made = h.value_made in
        let same : v.0.0 ≡ type.Record made.0 = one_type n v.0.0 h.type_value v.0.1 h.has_value ∙ made.1 in
        let whole : IsExpr declared (valid.Structured (type.Record made.0)) x = subst (λ t. IsExpr declared (valid.Structured t) x) same v.0.2 in
        along-form x made.0 v.1 whole f.kind f.number f.tag f.path (all_there (λ (g : FieldType). IsFieldValue types g made.0) fs number f made.2 there)
