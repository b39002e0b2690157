-- A structured value of valid parts has a valid form.
use Rattle.std.proofs.Common.{◌≡◌, ℕ, suc, max, nat_le, nat_eq, Bool, true, false, IsTrue, ℤ, pos, negsuc, int_le, arith, List, [], ◌∷◌, ◌++◌, map, slice_get, Option, Some, None, refl, sym, subst}
use Rattle.std.proofs.lemmas.List.Elements.{All-append, All-cons, All-nil}
use Rattle.std.proofs.lemmas.Bool.Decides.{nat_tests}
use Rattle.std.specs.Prelude.{All, ⊤, if◌then◌else◌}
use Rattle.std.specs.List.{list_any}
use Rattle.std.specs.Option.{option_map}
use Rattle.ep_typed.specs.Trees.{Designator, Element, Expr, Range, Single, designators, elements}
use Rattle.ep_typed.specs.Trees as tree
use Rattle.ep_values.specs.TypeValues.{ComponentTypes, TypeValue, bare_of}
use Rattle.ep_values.specs.TypeValues as type
use Rattle.ep_meaning.specs.Valid.{AreDesignators, AreElements, Declarations, IsDesignator, IsRangeWithin, IsExpr, IsSetOf, IsTypeOf, IsTypeOfKind}
use Rattle.ep_meaning.specs.Valid as valid
use Rattle.ep_typed.specs.declared.tree.CaseRange.{CaseRange}
use Rattle.ep_scope.specs.Scopes.{Region, depth_in, structure_in}
use Rattle.ep_scope.specs.declared.kind.Kind.{Kind}
use Rattle.ep_scope.specs.declared.kind.Kind.TheVariants as kind
use Rattle.ep_scope.specs.declared.rule.TheConstants as rule
use Rattle.ep_scope.specs.declared.structure.ArrayType.{ArrayType}
use Rattle.ep_scope.specs.declared.structure.Composition.{Composition}
use Rattle.ep_scope.specs.declared.structure.Composition.TheVariants as composition
use Rattle.ep_scope.specs.declared.structure.FieldType.{FieldType}
use Rattle.ep_scope.specs.declared.structure.StructuredType.{StructuredType}
use Rattle.ep_scope.specs.declared.structure.TagType.{TagType}
use Rattle.ep_expr_laws.specs.Agreement.{AgreesBy, IsFormOf, IsListed, IsValueOfKind, TypeValues, structures_of}
use Rattle.ep_rules.specs.Constructors.{Label}
use Rattle.ep_rules.specs.Hosts.{typed_host}
use Rattle.ep_rules.specs.Judgements.{Judged, Accepts, Breaks, Typed, when_accepted}
use Rattle.ep_rules.specs.Operators.{are_compatible, map_both}
use Rattle.ep_rules.specs.declared.forms.TheConstants as limit
use Rattle.ep_check_expr.specs.StructuredValues.{empty_if, Arranged, Choice, Chosen, Components, Filled, Index, IndexLabels, Labelled, Many, One, Ranges, Valued, VariantNumbers, Written, WrittenRow, all_arranged, all_given, alone_labels, are_given, arranged, array_begun, array_element, array_elements, array_judged, asked_by, asked_first, bounded_index, choice, choice_at, choice_by, chosen_filled, chosen_within, completes, component_given, composed, constant_in, fields_element, fields_filled, filled, filled_from, first_form, first_given, given_by, given_then, index_form, index_judged, is_arranged, is_same_kind, is_named, is_tag_value, joined_ranges, label_places, labelled_element, labels_judged, many_labels, named_element, next_written, no_ranges, no_written, nothing_filled, of_kind, part_filled, range_labelled, ranges_form, ranges_given, ranges_labelled, ranging, record_element, record_elements, record_judged, row_filled, row_of, same_filled, same_form, same_given, same_if, second_index, structure_judged, structured, tag_constant, tag_filled, tag_given, tag_place, tag_valued, unfit, values_filled, with_elements, with_field, with_index, with_label, with_labels, with_range, with_ranges, with_span, within_bounds}
use Rattle.ep_rules.specs.VariantSteps.{field_steps}
use Rattle.ep_expr_laws.proofs.Constructed.{more_designators}
use Rattle.ep_check_expr.proofs.public.Labels.{labels-weaker}
use Rattle.ep_check_expr.proofs.public.Rows.{and_first, and_second}
use Rattle.ep_check_expr.proofs.public.Keeping.{AreComponents, AreLabels, AreWritten, IsHigh, IsRow, IsValued, IsValuedIf, IsWritten, Satisfies, any-satisfies, if-satisfies, then-satisfies, weaker-satisfies}
use Rattle.ep_expr_laws.proofs.FieldPlaces.{all_there}
use Rattle.ep_expr_laws.proofs.public.Leading.{Leads, listed-lead}
use Rattle.ep_expr_laws.proofs.public.Listed.{all-held, listed-made, listed-value, structure_in-listed}
use Rattle.ep_expr_laws.proofs.public.Passing.{IfForm, given-fits, one-value, set-fits, structured-fits}
use Rattle.ep_expr_laws.proofs.public.SameHost.{host_same}
use Rattle.ep_expr_laws.proofs.Sound.{compatible-form}
use Rattle.ep_expr_laws.proofs.public.Places.{made_so, same_number}
use Rattle.ep_check_expr.proofs.public.AnyStructure.{unless-unfit}

self_le : (z : ℤ) → IsTrue (int_le z z)
self_le (pos n) = grind (arith, nat_tests)
self_le (negsuc n) = grind (arith, nat_tests)

-- ---- elements
module _ (declared : Declarations) (t : TypeValue) where
  elements_append : (xs ys : List Element) → AreElements declared t (elements xs) → AreElements declared t (elements ys) → AreElements declared t (elements (xs ++ ys))
  elements_append [] ys p q = q
  elements_append (x ∷ xs) ys p q = (p.0, elements_append xs ys p.1 q)

  -- where they are built
  abbrev pub AreBuilt : Option (List Element) → Type 0
  AreBuilt None = ⊤
  AreBuilt (Some es) = AreElements declared t (elements es)

  built_append : (xs ys : Option (List Element)) → AreBuilt xs → AreBuilt ys → AreBuilt (with_elements xs ys)
  built_append None ys p q = tt
  built_append (Some xs) None p q = tt
  built_append (Some xs) (Some ys) p q = elements_append xs ys p q

module _ (declared : Declarations) (types : TypeValues) (structures : List StructuredType) where
  abbrev Form : Typed → Type 0
  Form v = IsFormOf declared types structures v.kind v.form

  -- a value that a component of the type may be given
  abbrev IsGiven : TypeValue → Expr → Type 0
  IsGiven of x = (k : valid.ValueKind) × IsTypeOfKind k of × IsExpr declared k x

  given-component : (k : Kind) (of : TypeValue) → IsValueOfKind types k of → (v : Typed) → Form v → Satisfies (IfForm (IsGiven of)) (component_given k v)
  given-component (kind.Ordinal h) of has v f = given-fits declared types structures (IsGiven of) (λ x. x) h (λ x q. (valid.Ordinal (typed_host h), has.1, q)) v.kind v.form f
  given-component (kind.Structured m) of has v f = structured-fits declared types structures (IsGiven of) (λ x. x) m of has (λ x q. (valid.Structured of, (refl, has.1), q)) v.kind v.form f
  given-component (kind.Set h) of has v f = set-fits declared types structures (IsGiven of) (λ x. x) h (λ x q. (valid.Set (typed_host h), has.1, q)) v.kind v.form f
  given-component kind.EmptySet of has v f = absurd has
  given-component kind.Text of has v f = absurd has
  given-component kind.File of has v f = absurd has

  -- ---- arrays

  module _ (a : ArrayType) (of : TypeValue) (index : IsTypeOf (typed_host a.index) (type.Ordinal a.low a.high)) (component : IsValueOfKind types a.kind of) where
    abbrev whole : TypeValue
    whole = type.Array a.low a.high of

    -- a constant index is one of the array
    abbrev IsWithin : Option ℤ → Type 0
    IsWithin None = ⊤
    IsWithin (Some z) = IsTrue (int_le a.low z) × IsTrue (int_le z a.high)

    abbrev IsIndex : Index → Type 0
    IsIndex x = IfForm (IsExpr declared (valid.Ordinal (typed_host a.index))) x.form × IsWithin x.constant

    within : (z : Option ℤ) → within_bounds a z ≡ true → IsWithin z
    within None e = tt
    within (Some z) e = (and_first (int_le a.low z) (int_le z a.high) e, and_second (int_le a.low z) (int_le z a.high) e)

    ordinal-index : (form : Option Expr) → IsFormOf declared types structures (kind.Ordinal a.index) form → IfForm (IsExpr declared (valid.Ordinal (typed_host a.index))) form
    ordinal-index None f = tt
    ordinal-index (Some x) f = f.1

    index-fits : (x : Typed) → Form x → Satisfies IsIndex (index_judged a x)
    index-fits x f =
        unless-unfit IsIndex (are_compatible (kind.Ordinal a.index) x.kind) (when_accepted (bounded_index a x) (constant_in x.form))
        (λ e. then-satisfies (λ z. ⊤) IsIndex (bounded_index a x) (constant_in x.form) (any-satisfies (constant_in x.form))
        (λ z t. unless-unfit IsIndex (within_bounds a z) _ (λ u. (ordinal-index x.form (compatible-form declared types structures a.index x.kind x.form e f), within z u))))

    -- constant ranges lie in the bounds
    abbrev AreWithin : Option (List CaseRange) → Type 0
    AreWithin None = ⊤
    AreWithin (Some rs) = All (IsRangeWithin a.low a.high) rs

    -- labels are designators of indexes
    abbrev AreIndexed : Option (List Designator) → Type 0
    AreIndexed None = ⊤
    AreIndexed (Some ds) = AreDesignators declared (typed_host a.index) (designators ds)

    abbrev IsIndexed : Option Designator → Type 0
    IsIndexed None = ⊤
    IsIndexed (Some d) = IsDesignator declared (typed_host a.index) d

    abbrev IsRanges : Ranges → Type 0
    IsRanges r = AreWithin r.ranges × AreIndexed r.designators

    one-within : (r : CaseRange) → IsRangeWithin a.low a.high r → All (IsRangeWithin a.low a.high) (r ∷ [])
    one-within r p = All-cons (IsRangeWithin a.low a.high) r [] p (All-nil (IsRangeWithin a.low a.high))

    ranging-within : (low high : ℤ) → IsTrue (int_le a.low low) → IsTrue (int_le high a.high) → All (IsRangeWithin a.low a.high) (ranging low high)
    ranging-within low high p q = go (int_le low high) refl
      where
        go : (b : Bool) → int_le low high ≡ b → All (IsRangeWithin a.low a.high) (if b then record { low = low; high = high } ∷ [] else [])
        go true e = one-within (record { low = low; high = high }) (p, e, q)
        go false e = All-nil (IsRangeWithin a.low a.high)

    joined-within : (rs more : Option (List CaseRange)) → AreWithin rs → AreWithin more → AreWithin (joined_ranges rs more)
    joined-within None more p q = tt
    joined-within (Some rs) None p q = tt
    joined-within (Some rs) (Some more) p q = All-append (IsRangeWithin a.low a.high) rs more p q

    span-within : (rs : Option (List CaseRange)) (x y : Option ℤ) → AreWithin rs → IsWithin x → IsWithin y → AreWithin (with_span rs x y)
    span-within None x y p i j = tt
    span-within (Some rs) None y p i j = tt
    span-within (Some rs) (Some x) None p i j = tt
    span-within (Some rs) (Some x) (Some y) p i j = All-append (IsRangeWithin a.low a.high) rs (ranging x y) p (ranging-within x y i.0 j.1)

    one-indexed : (ds : Option (List Designator)) (d : Option Designator) → AreIndexed ds → IsIndexed d → AreIndexed (map_both (λ es e. es ++ e ∷ []) ds d)
    one-indexed None d p q = tt
    one-indexed (Some ds) None p q = tt
    one-indexed (Some ds) (Some d) p q = more_designators declared (typed_host a.index) ds d p q

    single-indexed : (x : Option Expr) → IfForm (IsExpr declared (valid.Ordinal (typed_host a.index))) x → IsIndexed (option_map Single x)
    single-indexed None p = tt
    single-indexed (Some x) p = p

    range-indexed : (x y : Option Expr) → IfForm (IsExpr declared (valid.Ordinal (typed_host a.index))) x → IfForm (IsExpr declared (valid.Ordinal (typed_host a.index))) y → IsIndexed (map_both Range x y)
    range-indexed None y p q = tt
    range-indexed (Some x) None p q = tt
    range-indexed (Some x) (Some y) p q = (p, q)

    label-fits : (r : Ranges) (x y : Option ℤ) (d : Option Designator) (depth : ℕ) → IsRanges r → IsWithin x → IsWithin y → IsIndexed d → IsRanges (with_label r x y d depth)
    label-fits r x y d depth p i j q = (span-within r.ranges x y p.0 i j, one-indexed r.designators d p.1 q)

    second-fits : (r : Ranges) (x : Index) (high : Option (Judged Typed)) → IsRanges r → IsIndex x → IsHigh Form high → Satisfies IsRanges (second_index a r x high)
    second-fits r x None p i h = label-fits r x.constant x.constant (option_map Single x.form) x.depth p i.1 i.1 (single-indexed x.form i.0)
    second-fits r x (Some high) p i h =
        then-satisfies IsIndex IsRanges (λ y. Accepts (with_range r x y)) (when_accepted (index_judged a) high) (then-satisfies Form IsIndex (index_judged a) high h index-fits)
        (λ y j. label-fits r x.constant y.constant (map_both Range x.form y.form) (max x.depth y.depth) p i.1 j.1 (range-indexed x.form y.form i.0 j.0))

    ranges-fit : (ls : List Label) (r : Ranges) → AreLabels Form ls → IsRanges r → Satisfies IsRanges (ranges_labelled a ls r)
    ranges-fit [] r h p = p
    ranges-fit (l ∷ ls) r h p =
        then-satisfies IsRanges IsRanges (ranges_labelled a ls) (range_labelled a l r)
        (then-satisfies IsIndex IsRanges (λ x. second_index a r x l.high) (when_accepted (index_judged a) l.low) (then-satisfies Form IsIndex (index_judged a) l.low h.0.0 index-fits) (λ x i. second-fits r x l.high p i h.0.1))
        (λ s q. ranges-fit ls s h.1 q)

    abbrev IsArranged : Arranged → Type 0
    IsArranged r = AreBuilt declared whole r.elements

    index_element : (x y : Option Expr) → IfForm (IsExpr declared (valid.Ordinal (typed_host a.index))) x → IfForm (IsGiven of) y → AreBuilt declared whole (index_form x y)
    index_element None y p q = tt
    index_element (Some x) None p q = tt
    index_element (Some x) (Some y) p q = (((typed_host a.index, index, p), q), tt)

    constant_built : (rs : List CaseRange) (v : Option Expr) → All (IsRangeWithin a.low a.high) rs → IfForm (IsGiven of) v → AreBuilt declared whole (option_map (ranges_given rs) v)
    constant_built rs None w g = tt
    constant_built [] (Some v) w g = (((typed_host a.index, index, tt), g), tt)
    constant_built (r ∷ rs) (Some v) w g = (((typed_host a.index, index), tt, w, g), tt)

    ranges_built : (rs : Option (List CaseRange)) (ds : Option (List Designator)) (v : Option Expr) → AreWithin rs → AreIndexed ds → IfForm (IsGiven of) v → AreBuilt declared whole (ranges_form rs ds v)
    ranges_built (Some rs) ds v w i g = constant_built rs v w g
    ranges_built None None v w i g = tt
    ranges_built None (Some ds) None w i g = tt
    ranges_built None (Some ds) (Some v) w i g = (((typed_host a.index, index, i), g), tt)

    value-given : (make : ℕ → Option Expr → Arranged) → ((depth : ℕ) (x : Option Expr) → IfForm (IsGiven of) x → IsArranged (make depth x)) → (value : Valued) → IsValued Form value → Satisfies IsArranged (given_then a make value)
    value-given make h value p =
        then-satisfies Form IsArranged (given_by a make) (value (asked_by a.kind)) (p (asked_by a.kind))
        (λ v f. then-satisfies (IfForm (IsGiven of)) IsArranged (λ x. Accepts (make v.depth x)) (component_given a.kind v) (given-component a.kind of component v f) (λ x q. h v.depth x q))

    ranges-given : (x : Ranges) (r : Arranged) → IsRanges x → IsArranged r → (value : Valued) → IsValued Form value → Satisfies IsArranged (given_then a (with_ranges r x) value)
    ranges-given x r w p value q = value-given (with_ranges r x) (λ depth v g. built_append declared whole r.elements (ranges_form x.ranges x.designators v) p (ranges_built x.ranges x.designators v w.0 w.1 g)) value q

    -- what the labels of an element are
    abbrev AreIndexLabels : IndexLabels → Type 0
    AreIndexLabels (One x) = IsIndex x
    AreIndexLabels (Many x) = IsRanges x

    many-fit : (ls : List Label) → AreLabels Form ls → Satisfies AreIndexLabels (many_labels a ls)
    many-fit ls h = then-satisfies IsRanges AreIndexLabels (λ x. Accepts (Many x)) (ranges_labelled a ls no_ranges) (ranges-fit ls no_ranges h (All-nil (IsRangeWithin a.low a.high), tt)) (λ x w. w)

    alone-fit : (l : Label) (high : Option (Judged Typed)) → AreLabels Form (l ∷ []) → Satisfies AreIndexLabels (alone_labels a l high)
    alone-fit l None h =
        then-satisfies IsIndex AreIndexLabels (λ x. Accepts (One x)) (when_accepted (index_judged a) l.low) (then-satisfies Form IsIndex (index_judged a) l.low h.0.0 index-fits) (λ x i. i)
    alone-fit l (Some high) h = many-fit (l ∷ []) h

    labels-fit : (ls : List Label) → AreLabels Form ls → Satisfies AreIndexLabels (labels_judged a ls)
    labels-fit [] h = many-fit [] h
    labels-fit (l ∷ []) h = alone-fit l l.high h
    labels-fit (l ∷ k ∷ ls) h = many-fit (l ∷ k ∷ ls) h

    labels-given : (x : IndexLabels) (r : Arranged) → AreIndexLabels x → IsArranged r → (value : Valued) → IsValued Form value → Satisfies IsArranged (given_then a (with_labels r x) value)
    labels-given (One x) r i p value q = value-given (with_index r x) (λ depth v g. built_append declared whole r.elements (index_form x.form v) p (index_element x.form v i.0 g)) value q
    labels-given (Many x) r w p value q = ranges-given x r w p value q

    labelled_element-fits : (ls : List Label) (value : Valued) (r : Arranged) → AreLabels Form ls → IsValued Form value → IsArranged r → Satisfies IsArranged (labelled_element a ls value r)
    labelled_element-fits ls value r h q p =
        then-satisfies AreIndexLabels IsArranged (λ x. given_then a (with_labels r x) value) (labels_judged a ls) (labels-fit ls h) (λ x i. labels-given x r i p value q)

    element-fits : (w : Written) (r : Arranged) → IsWritten Form w → IsArranged r → Satisfies IsArranged (array_element a w r)
    element-fits (Labelled ls value) r h p = labelled_element-fits ls value r h.0 h.1 p
    element-fits (Chosen name tag completed row) r h p = tt

    elements-fit : (ws : List Written) (r : Arranged) → AreWritten Form ws → IsArranged r → Satisfies IsArranged (array_elements a ws r)
    elements-fit [] r h p = p
    elements-fit (w ∷ ws) r h p = then-satisfies IsArranged IsArranged (array_elements a ws) (array_element a w r) (element-fits w r h.0 p) (λ s q. elements-fit ws s h.1 q)

    all-within : All (IsRangeWithin a.low a.high) (record { low = a.low; high = a.high } ∷ [])
    all-within = one-within (record { low = a.low; high = a.high }) (self_le a.low, index.0, self_le a.high)

    begun-fits : (o : Option Valued) → IsValuedIf Form o → Satisfies IsArranged (array_begun a o)
    begun-fits None h = tt
    begun-fits (Some value) h = value-given (all_arranged a) (λ depth v g. built_append declared whole (Some []) (option_map (ranges_given (record { low = a.low; high = a.high } ∷ [])) v) tt (constant_built (record { low = a.low; high = a.high } ∷ []) v all-within g)) value h

    pub array-parts : (c : Components) → AreComponents Form c → Satisfies IsArranged (when_accepted (array_elements a c.elements) (array_begun a c.otherwise))
    array-parts c h = then-satisfies IsArranged IsArranged (array_elements a c.elements) (array_begun a c.otherwise) (begun-fits c.otherwise h.1) (λ r p. elements-fit c.elements r h.0 p)

  -- ---- records

  module _ (fs : List FieldType) (ts : ComponentTypes) (lead : All (λ f. Leads types ts f.kind (field_steps f)) fs) where
    -- the steps to the field lead to a component
    abbrev IsComponent : FieldType → Type 0
    IsComponent f = Leads types ts f.kind (field_steps f)

    -- the field at a place
    component-at : (place : ℕ) (f : FieldType) → slice_get fs place ≡ Some f → IsComponent f
    component-at place f e = all_there IsComponent fs place f lead e

    abbrev IsFilled : Filled → Type 0
    IsFilled r = AreBuilt declared (type.Record ts) r.elements

    with_field-fits : (r : Filled) (place depth : ℕ) (more : Option (List Element)) → IsFilled r → AreBuilt declared (type.Record ts) more → Satisfies IsFilled (with_field r place depth more)
    with_field-fits r place depth more p q = go (list_any (nat_eq place) r.fields)
      where
        go : (b : Bool) → Satisfies IsFilled (if b then unfit else Accepts (record { elements = with_elements r.elements more; depth = max r.depth depth; fields = r.fields ++ place ∷ [] }))
        go true = tt
        go false = built_append declared (type.Record ts) r.elements more p q

    first-element : (f : FieldType) (c : IsComponent f) (x : Option Expr) → IfForm (IsGiven c.0) x → AreBuilt declared (type.Record ts) (option_map (first_form (field_steps f)) x)
    first-element f c None g = tt
    first-element f c (Some x) g = ((g.0, (c.0, c.1, g.1), g.2), tt)

    first-fits : (place : ℕ) (v : Typed) (r : Filled) (f : FieldType) → IsComponent f → Form v → IsFilled r → Satisfies IsFilled (first_given place v r f)
    first-fits place v r f c g p =
        then-satisfies (IfForm (IsGiven c.0)) IsFilled (λ x. with_field r place v.depth (option_map (first_form (field_steps f)) x)) (component_given f.kind v) (given-component f.kind c.0 c.2 v g)
        (λ x h. with_field-fits r place v.depth (option_map (first_form (field_steps f)) x) p (first-element f c x h))

    -- components of one kind
    same_component : (k l : Kind) (t u : TypeValue) → is_same_kind k l ≡ true → IsValueOfKind types k t → IsValueOfKind types l u → (j : valid.ValueKind) × IsTypeOfKind j t × IsTypeOfKind j u
    same_component (kind.Ordinal h) (kind.Ordinal g) t u e p q = (valid.Ordinal (typed_host h), p.1, subst (λ x. IsTypeOf x u) (host_same h g e) q.1)
    same_component (kind.Structured m) (kind.Structured n) t u e p q = (valid.Structured t, (refl, p.1), (one-value types m n t u (same_number m n e) p q, p.1))
    same_component (kind.Set h) (kind.Set g) t u e p q = (valid.Set (typed_host h), p.1, subst (λ x. IsSetOf x u) (host_same h g e) q.1)
    same_component (kind.Ordinal h) (kind.Structured n) t u e p q = cc
    same_component (kind.Ordinal h) (kind.Set g) t u e p q = cc
    same_component (kind.Ordinal h) kind.EmptySet t u e p q = cc
    same_component (kind.Ordinal h) kind.Text t u e p q = cc
    same_component (kind.Ordinal h) kind.File t u e p q = cc
    same_component (kind.Structured m) (kind.Ordinal g) t u e p q = cc
    same_component (kind.Structured m) (kind.Set g) t u e p q = cc
    same_component (kind.Structured m) kind.EmptySet t u e p q = cc
    same_component (kind.Structured m) kind.Text t u e p q = cc
    same_component (kind.Structured m) kind.File t u e p q = cc
    same_component (kind.Set h) (kind.Ordinal g) t u e p q = cc
    same_component (kind.Set h) (kind.Structured n) t u e p q = cc
    same_component (kind.Set h) kind.EmptySet t u e p q = cc
    same_component (kind.Set h) kind.Text t u e p q = cc
    same_component (kind.Set h) kind.File t u e p q = cc
    same_component kind.EmptySet l t u e p q = cc
    same_component kind.Text l t u e p q = cc
    same_component kind.File l t u e p q = cc

    -- the empty set
    empty-element : (steps : List ℕ) (l : Kind) → Leads types ts l steps → AreBuilt declared (type.Record ts) (empty_if l steps)
    empty-element steps (kind.Ordinal h) d = tt
    empty-element steps (kind.Structured n) d = tt
    empty-element steps (kind.Set h) d = ((valid.Set (typed_host h), (d.0, d.1, (let q = d.2 in q.1)), (typed_host h, refl, tt)), tt)
    empty-element steps kind.EmptySet d = tt
    empty-element steps kind.Text d = tt
    empty-element steps kind.File d = tt

    same-element : (first f : FieldType) → IsComponent first → IsComponent f → AreBuilt declared (type.Record ts) (same_if first f)
    same-element first f c d = go (is_same_kind first.kind f.kind) refl
      where
        go : (b : Bool) → is_same_kind first.kind f.kind ≡ b → AreBuilt declared (type.Record ts) (if b then Some (same_form (field_steps first) (field_steps f)) else empty_if f.kind (field_steps f))
        go true e = let s = same_component first.kind f.kind c.0 d.0 e c.2 d.2 in ((s.0, (c.0, c.1, s.1), (d.0, d.1, s.2)), tt)
        go false e = empty-element (field_steps f) f.kind d

    same-fits : (first : FieldType) (k : Kind) (place : ℕ) (r : Filled) (o : Option FieldType) → slice_get fs place ≡ o → IsComponent first → IsFilled r → Satisfies IsFilled (same_given first k place r o)
    same-fits first k place r None e c p = tt
    same-fits first k place r (Some f) e c p =
        then-satisfies (λ x. ⊤) IsFilled (λ x. with_field r place 0 (same_if first f)) (component_given f.kind (of_kind k)) (any-satisfies (component_given f.kind (of_kind k)))
        (λ x t. with_field-fits r place 0 (same_if first f) p (same-element first f c (component-at place f e)))

    same_filled-fits : (first : FieldType) (k : Kind) (places : List ℕ) (r : Filled) → IsComponent first → IsFilled r → Satisfies IsFilled (same_filled fs first k places r)
    same_filled-fits first k [] r c p = p
    same_filled-fits first k (place ∷ places) r c p =
        then-satisfies IsFilled IsFilled (same_filled fs first k places) (same_given first k place r (slice_get fs place)) (same-fits first k place r (slice_get fs place) refl c p)
        (λ s q. same_filled-fits first k places s c q)

    from-fits : (place : ℕ) (places : List ℕ) (r : Filled) (v : Typed) (o : Option FieldType) → slice_get fs place ≡ o → Form v → IsFilled r → Satisfies IsFilled (filled_from fs place places r v o)
    from-fits place places r v None e g p = tt
    from-fits place places r v (Some f) e g p =
        let c = component-at place f e in
        then-satisfies IsFilled IsFilled (same_filled fs f v.kind places) (first_given place v r f) (first-fits place v r f c g p) (λ s q. same_filled-fits f v.kind places s c q)

    fields-fit : (places : List ℕ) (r : Filled) (v : Typed) → Form v → IsFilled r → Satisfies IsFilled (fields_filled fs places r v)
    fields-fit [] r v g p = tt
    fields-fit (place ∷ places) r v g p = from-fits place places r v (slice_get fs place) refl g p

    named-fits : (within : VariantNumbers) (names : List (Option (List ℕ))) (value : Valued) (r : Filled) → IsValued Form value → IsFilled r → Satisfies IsFilled (named_element fs within names value r)
    named-fits within names value r h p =
        then-satisfies (λ places. ⊤) IsFilled (fields_element fs value r) (label_places fs within names []) (any-satisfies (label_places fs within names []))
        (λ places t. then-satisfies Form IsFilled (fields_filled fs places r) (value (asked_first fs places)) (h (asked_first fs places)) (λ v g. fields-fit places r v g p))

    -- ---- choices of variants

    abbrev IsChoice : Choice → Type 0
    IsChoice c = IsFilled c.filled

    tag_filled-fits : (within : VariantNumbers) (place : ℕ) (f : FieldType) (tag : TagType) (depth : ℕ) (r : Filled) (c : IsComponent f) (x : Option Expr) (z : Option ℤ) → IfForm (IsGiven c.0) x → IsFilled r
        → Satisfies IsChoice (tag_filled within place f tag depth r x z)
    tag_filled-fits within place f tag depth r c x z g p =
        unless-unfit IsChoice (is_tag_value tag z) _
        (λ e. then-satisfies IsFilled IsChoice (λ s. Accepts (record { filled = s; chosen = chosen_within within tag z })) (with_field r place depth (option_map (first_form (field_steps f)) x))
        (with_field-fits r place depth (option_map (first_form (field_steps f)) x) p (first-element f c x g)) (λ s q. q))

    tag_given-fits : (within : VariantNumbers) (place : ℕ) (f : FieldType) (v : Typed) (r : Filled) (tag : Option TagType) → IsComponent f → Form v → IsFilled r → Satisfies IsChoice (tag_given within place f v r tag)
    tag_given-fits within place f v r None c g p = tt
    tag_given-fits within place f v r (Some tag) c g p =
        then-satisfies (IfForm (IsGiven c.0)) IsChoice (tag_valued within place f tag v.depth r) (component_given f.kind v) (given-component f.kind c.0 c.2 v g)
        (λ x h. then-satisfies (λ z. ⊤) IsChoice (tag_filled within place f tag v.depth r x) (tag_constant x) (any-satisfies (tag_constant x)) (λ z t. tag_filled-fits within place f tag v.depth r c x z h p))

    choice_by-fits : (within : VariantNumbers) (name : Option (List ℕ)) (place : ℕ) (r : Filled) (v : Typed) (o : Option FieldType) → slice_get fs place ≡ o → Form v → IsFilled r → Satisfies IsChoice (choice_by within name place r v o)
    choice_by-fits within name place r v None e g p = tt
    choice_by-fits within name place r v (Some f) e g p =
        unless-unfit IsChoice (is_named name f) (tag_given within place f v r f.tag) (λ n. tag_given-fits within place f v r f.tag (component-at place f e) g p)

    choice_at-fits : (within : VariantNumbers) (name : Option (List ℕ)) (r : Filled) (v : Typed) (o : Option ℕ) → Form v → IsFilled r → Satisfies IsChoice (choice_at fs within name r v o)
    choice_at-fits within name r v None g p = tt
    choice_at-fits within name r v (Some place) g p = choice_by-fits within name place r v (slice_get fs place) refl g p

    part-fits : (within : VariantNumbers) (completed : Bool) (J : Judged Filled) → Satisfies IsFilled J → Satisfies IsFilled (part_filled fs within completed J)
    part-fits within true J h = tt
    part-fits within false J h =
        then-satisfies IsFilled IsFilled (all_given fs within) J h (λ s q. unless-unfit IsFilled (are_given within s.fields 0 fs) (Accepts s) (λ e. q))

    chosen-fits : (fill : VariantNumbers → Filled → Judged Filled) → ((within : VariantNumbers) (s : Filled) → IsFilled s → Satisfies IsFilled (fill within s)) → (r : Filled) (o : Option VariantNumbers) → IsFilled r → Satisfies IsFilled (chosen_filled fill r o)
    chosen-fits fill h r None p = p
    chosen-fits fill h r (Some within) p = h within r p

    mutual
      record_element-fits : (within : VariantNumbers) (w : Written) (r : Filled) → IsWritten Form w → IsFilled r → Satisfies IsFilled (record_element fs within w r)
      record_element-fits within (Labelled ls value) r h p = named-fits within (map (λ l. l.name) ls) value r h.1 p
      record_element-fits within (Chosen name tag completed row) r h p =
          then-satisfies IsChoice IsFilled (λ c. chosen_filled (λ inner s. part_filled fs inner completed (row_filled fs inner row s)) c.filled c.chosen) (when_accepted (choice fs within name r) tag)
          (then-satisfies Form IsChoice (choice fs within name r) tag h.0 (λ v g. choice_at-fits within name r v (tag_place fs within) g p))
          (λ c q. chosen-fits (λ inner s. part_filled fs inner completed (row_filled fs inner row s)) (λ inner s q. part-fits inner completed (row_filled fs inner row s) (row-fits inner row s h.1 q)) c.filled c.chosen q)

      row-fits : (within : VariantNumbers) (row : WrittenRow) (r : Filled) → IsRow Form row → IsFilled r → Satisfies IsFilled (row_filled fs within row r)
      row-fits within no_written r h p = p
      row-fits within (next_written w row) r h p = then-satisfies IsFilled IsFilled (row_filled fs within row) (record_element fs within w r) (record_element-fits within w r h.0 p) (λ s q. row-fits within row s h.1 q)

    pub values-fit : (c : Components) → AreWritten Form c.elements → Satisfies IsFilled (values_filled fs [] c nothing_filled)
    values-fit c h = part-fits [] (completes c.otherwise) (record_elements fs [] c.elements nothing_filled) (row-fits [] (row_of c.elements) nothing_filled h tt)

-- ---- of both
module _ (declared : Declarations) (types : TypeValues) (scopes : List Region) (agrees : AgreesBy declared types (structures_of scopes) (depth_in scopes) scopes) where
  abbrev FormOf : Typed → Type 0
  FormOf v = IsFormOf declared types (structures_of scopes) v.kind v.form

  module _ (n : ℕ) (c : Composition) (is : structure_in scopes n ≡ Some c) where
    listed : IsListed declared types (made_so n c)
    listed = structure_in-listed declared types (structures_of scopes) (depth_in scopes) n scopes c agrees is

    abbrev its_type : TypeValue
    its_type = bare_of listed.0.type_value

    structured-form : (es : Option (List Element)) → AreBuilt declared its_type es → IsFormOf declared types (structures_of scopes) (kind.Structured n) (option_map (λ xs. tree.Structured n (elements xs)) es)
    structured-form None p = all-held declared types (structures_of scopes) (depth_in scopes) scopes agrees
    structured-form (Some xs) p = (
      (its_type, listed-value declared types (made_so n c) listed, (listed.0, refl, (listed-value declared types (made_so n c) listed).1, p)),
      all-held declared types (structures_of scopes) (depth_in scopes) scopes agrees,
    )

    structured-holds : (es : Option (List Element)) (depth : ℕ) → AreBuilt declared its_type es → Satisfies FormOf (structured n es depth)
    structured-holds es depth p = if-satisfies FormOf (nat_le (suc depth) limit.DEPTH) (Accepts _) (Breaks (rule.TOO_DEEP ∷ [])) (λ e. structured-form es p) tt

  array-fits : (n : ℕ) (a : ArrayType) (c : Components) → structure_in scopes n ≡ Some (composition.Array a) → AreComponents FormOf c → Satisfies FormOf (array_judged n a c)
  array-fits n a c is h =
      let made = listed-made declared types (made_so n (composition.Array a)) (listed n (composition.Array a) is) in
      let whole = type.Array a.low a.high made.0 in
      then-satisfies (λ r. AreBuilt declared whole r.elements) FormOf (arranged n a (completes c.otherwise)) (when_accepted (array_elements a c.elements) (array_begun a c.otherwise))
      (array-parts declared types (structures_of scopes) a made.0 made.2 made.3 c h)
      (λ r p. unless-unfit FormOf (is_arranged a (completes c.otherwise) r.indexes) (structured n r.elements r.depth)
      (λ e. structured-holds n (composition.Array a) is r.elements r.depth (subst (λ t. AreBuilt declared t r.elements) (sym made.1) p)))

  record-fits : (n : ℕ) (fs : List FieldType) (c : Components) → structure_in scopes n ≡ Some (composition.Record fs) → AreComponents FormOf c → Satisfies FormOf (record_judged n fs c)
  record-fits n fs c is h =
      let made = listed-lead declared types n fs (listed n (composition.Record fs) is) in
      then-satisfies (λ r. AreBuilt declared (type.Record made.0) r.elements) FormOf (filled n) (values_filled fs [] c nothing_filled)
      (values-fit declared types (structures_of scopes) fs made.0 made.2 c h.0)
      (λ r p. structured-holds n (composition.Record fs) is r.elements r.depth (subst (λ t. AreBuilt declared t r.elements) (sym made.1) p))

  composed-fits : (n : ℕ) (o : Option Composition) (c : Components) → structure_in scopes n ≡ o → AreComponents FormOf c → Satisfies FormOf (composed n o c)
  composed-fits n None c is h = tt
  composed-fits n (Some (composition.Array a)) c is h = array-fits n a c is h
  composed-fits n (Some (composition.Record fs)) c is h = record-fits n fs c is h

  pub structure-fits : (c : Components) → AreComponents FormOf c → (n : ℕ) → Satisfies FormOf (structure_judged scopes c n)
  structure-fits c h n = composed-fits n (structure_in scopes n) c refl h

-- ---- what has one property has another
module _ (P Q : Typed → Type 0) (f : (t : Typed) → P t → Q t) where
  valued-weaker : (value : Valued) → IsValued P value → IsValued Q value
  valued-weaker value h asked = weaker-satisfies P Q (value asked) f (h asked)

  mutual
    written-weaker : (w : Written) → IsWritten P w → IsWritten Q w
    written-weaker (Labelled ls value) h = (labels-weaker P Q f ls h.0, valued-weaker value h.1)
    written-weaker (Chosen name tag completed row) h = (weaker-satisfies P Q tag f h.0, row-weaker row h.1)

    row-weaker : (row : WrittenRow) → IsRow P row → IsRow Q row
    row-weaker no_written h = tt
    row-weaker (next_written w row) h = (written-weaker w h.0, row-weaker row h.1)

  otherwise-weaker : (o : Option Valued) → IsValuedIf P o → IsValuedIf Q o
  otherwise-weaker None h = tt
  otherwise-weaker (Some value) h = valued-weaker value h

  pub components-weaker : (c : Components) → AreComponents P c → AreComponents Q c
  components-weaker c h = (row-weaker (row_of c.elements) h.0, otherwise-weaker c.otherwise h.1)
