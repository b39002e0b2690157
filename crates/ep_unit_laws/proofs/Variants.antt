-- Lists of fields with a variant part that are written in a block: the unit that has the block's lists has the components that they give, and the fields of its variants.
use Rattle.std.proofs.Common.{◌≡◌, ℕ, ℤ, zero, suc, ◌+◌, ◌≤◌, Bool, true, false, List, [], ◌∷◌, ◌++◌, map, length, Option, Some, None, slice_get, refl, sym, ap, ◌∙◌, subst, arith, append-nil, append_assoc}
use Rattle.std.proofs.lemmas.List.{length-append, length-map}
use Rattle.std.proofs.lemmas.List.Elements.{All-append, All-cons, All-head, All-nil, All-push, All-tail}
use Rattle.std.specs.Prelude.{All, ⊤, is_some, if◌then◌else◌}
use Rattle.ep_outside.specs.Known.{IsPrefix}
use Rattle.ep_tree.specs.declared.expression.Label.{Label}
use Rattle.ep_tree.specs.declared.types.VariantSelector.{VariantSelector}
use Rattle.ep_tree.specs.declared.types.VariantSelector.TheVariants as selector
use Rattle.ep_typed.specs.Denoters.{denoter_at, denoters_count}
use Rattle.ep_typed.specs.Hosts as typed
use Rattle.ep_typed.specs.Hosts.{is_of_host}
use Rattle.ep_typed.specs.Selections.{variant_number, variants_count}
use Rattle.ep_typed.specs.Trees as tree
use Rattle.ep_values.specs.TypeValues as type
use Rattle.ep_values.specs.TypeValues.{ComponentTypes, TypeValue, next_component, no_component, type_among}
use Rattle.ep_meaning.specs.Valid.{AreApart, Declarations, IsSelection, IsTypeOf, labels_joined}
use Rattle.ep_typed.specs.Viewed as viewed
use Rattle.ep_typed.specs.Viewed.{denoter_of, denoter_step, field_step, part_step, selector_step, variant_part_step, variant_step}
use Rattle.ep_typed.specs.declared.denoter.Denoter.TheFolds.{fold-roll-FieldPart, fold-roll-Selector, fold-roll-Variant, fold-roll-VariantPart}
use Rattle.ep_typed.specs.declared.denoter.Denoter.TheOpen.{Selector-F}
use Rattle.ep_typed.specs.declared.denoter.FieldPart.{FieldPart}
use Rattle.ep_typed.specs.declared.denoter.Selector.TheVariants as written_selector
use Rattle.ep_typed.specs.declared.denoter.Variant.{Variant, roll-Variant}
use Rattle.ep_typed.specs.declared.denoter.VariantPart.{roll-VariantPart}
use Rattle.ep_typed.specs.declared.tree.CaseRange.{CaseRange}
use Rattle.ep_typed.specs.declared.tree.Selection.{Selection}
use Rattle.ep_typed.specs.declared.unit.Unit.{Unit as TypedUnit}
use Rattle.ep_scope.specs.declared.kind.Host.{Host}
use Rattle.ep_scope.specs.declared.kind.Kind.TheVariants as kind
use Rattle.ep_scope.specs.declared.rule.TheConstants as rule
use Rattle.ep_scope.specs.declared.structure.FieldType.{FieldType}
use Rattle.ep_expr_laws.specs.Agreement.{AreFieldValues, HasTagValue, IsFieldOf, IsFieldValue, Selects}
use Rattle.ep_rules.specs.Hosts.{typed_host}
use Rattle.ep_rules.specs.Judgements.{Accepts, Breaks, when_accepted}
use Rattle.ep_stmt_rules.proofs.public.judged.Fits.{Any, Fits, fits_any, fits_then, fits_weaker}
use Rattle.ep_check_unit.specs.Blocks.{Block}
use Rattle.ep_unit_rules.specs.OrdinalTypes.{value_of}
use Rattle.ep_unit_rules.specs.Records.{Field, field_part, own_fields, record_field}
use Rattle.ep_unit_rules.specs.Variants.{Tag, all_fields, fields_joined, inside, is_among_fields, tag_field, variants_joined}
use Rattle.ep_check_unit.specs.Declarations.{Fielded, Gathered, Labelled, ListJudged, Listed, PartJudged, Section, VariantJudged, Written, completing_added, completing_written, index_values, labels_noted, list_ended, list_written, none_gathered, noted, scopes_of, sections_written, selection_of, tag_named, tag_of, tag_written, type_named, unless_left_out, variant_added, variant_list, variant_listing, variant_part, variant_part_written, variant_written, variants_after, variants_written}
use Rattle.ep_unit_rules.specs.Labels.{completed, variant_labelled}
use Rattle.ep_unit_rules.specs.declared.labels.Labels.{Labels}
use Rattle.ep_check_unit.proofs.public.Denoters.{AreKept, AreVariantsKept, IsKeptIf}
use Rattle.ep_check_unit.proofs.public.Forms.{map_push}
use Rattle.ep_unit_laws.proofs.Agreeing.{denoter_holds}
use Rattle.ep_unit_laws.proofs.Denoting.{AreDenoted, HasBare, bare_record, denotes_hosted, kind_more, kind_type, kind_valued}
use Rattle.ep_unit_laws.proofs.Holds.{HasTypeHere, Holds, ListsKind, Lists as ListsHost, lists_kind_more, lists_kind_small, named_tree, type_values}
use Rattle.ep_unit_laws.proofs.Leading.{Extends, Grows, extends_before, grows_refl, grows_trans, noted_grows, waits_some}
use Rattle.ep_unit_laws.proofs.Prefixes.{length_push, prefix_length}
use Rattle.ep_unit_laws.proofs.Open.{IsOpen}
use Rattle.ep_unit_laws.proofs.Ordinals.{IsValued, index_valued, value_is}
use Rattle.ep_unit_laws.proofs.Ranges.{AreLabels, IsRangeOf, OneMore, all_labelled, none_yet, ranges_hosted, variant_fits}
use Rattle.ep_unit_laws.proofs.Records.{Fields, HaveFields, IsKnownList, ListHeld, Lists, all_denoted, all_rolled, denoter_behind, denoters_of, fields_later, list_more, none_written, own_held, own_listed, own_valued, plain_lists, sections_fit, type_behind, types_of}
use Rattle.ep_unit_laws.proofs.Structures.{IsKnown}
use Rattle.ep_unit_laws.proofs.Types.{Names, type_named-names}

-- ---- denoters of variants

-- a variant by the record of its fields
variant_is : (ranges : List CaseRange) (part : FieldPart) → viewed.variant_of (roll-Variant (record { ranges = ranges; part = part })) ≡ tree.Record (tree.denoters (viewed.components_of part))
variant_is ranges part =
    fold-roll-Variant tree.Denoter tree.Denoter (List tree.Denoter) tree.Denoter tree.Denoter (List tree.Denoter) denoter_step selector_step part_step field_step variant_step variant_part_step
    (record { ranges = ranges; part = part })

-- the variants, the completing one last
abbrev completing_of : Option FieldPart → List tree.Denoter
completing_of None = []
completing_of (Some part) = tree.Record (tree.denoters (viewed.components_of part)) ∷ []

abbrev variants_in : Gathered → List tree.Denoter
variants_in g = map viewed.variant_of g.variants ++ completing_of g.completing

-- the tag alone
abbrev tag_record : Tag → tree.Denoter
tag_record t = tree.Record (tree.denoters (denoter_of t.denoter ∷ []))

selector_is : (t : Tag) → viewed.selector_of (written_selector.Tag t.name t.denoter) ≡ tag_record t
selector_is t =
    ap viewed.selector_of (sym (written_selector.rolls-Tag t.name t.denoter))
    ∙ fold-roll-Selector tree.Denoter tree.Denoter (List tree.Denoter) tree.Denoter tree.Denoter (List tree.Denoter) denoter_step selector_step part_step field_step variant_step variant_part_step
    (Selector-F.Tag t.name t.denoter)

parts_are : (t : Tag) (vs : List Variant) (o : Option FieldPart) → viewed.variants_of (roll-VariantPart (record { selector = written_selector.Tag t.name t.denoter; variants = vs; completing = o })) ≡ tag_record t ∷ (map viewed.variant_of vs ++ completing_of o)
parts_are t vs None =
    fold-roll-VariantPart tree.Denoter tree.Denoter (List tree.Denoter) tree.Denoter tree.Denoter (List tree.Denoter) denoter_step selector_step part_step field_step variant_step variant_part_step
    (record { selector = written_selector.Tag t.name t.denoter; variants = vs; completing = None })
    ∙ ap (λ d. d ∷ (map viewed.variant_of vs ++ [])) (selector_is t)
parts_are t vs (Some part) =
    fold-roll-VariantPart tree.Denoter tree.Denoter (List tree.Denoter) tree.Denoter tree.Denoter (List tree.Denoter) denoter_step selector_step part_step field_step variant_step variant_part_step
    (record { selector = written_selector.Tag t.name t.denoter; variants = vs; completing = Some part })
    ∙ ap (λ d. d ∷ (map viewed.variant_of vs ++ completing_of (Some part))) (selector_is t)

-- so all of a list
whole_is : (fs : List Field) (t : Tag) (g : Gathered) → viewed.components_of (field_part fs (Some (variant_part t g))) ≡ denoters_of fs ++ (tag_record t ∷ variants_in g)
whole_is fs t g =
    fold-roll-FieldPart tree.Denoter tree.Denoter (List tree.Denoter) tree.Denoter tree.Denoter (List tree.Denoter) denoter_step selector_step part_step field_step variant_step variant_part_step
    (record { fields = map record_field fs; variant_part = Some (variant_part t g) })
    ∙ (ap (λ ds. ds ++ viewed.variants_of (variant_part t g)) (all_rolled fs) ∙ ap (λ ds. denoters_of fs ++ ds) (parts_are t g.variants g.completing))

-- a variant more, before any that completes them
added_is : (vs : List Variant) (v : Variant) (o : Option FieldPart) → o ≡ None → map viewed.variant_of (vs ++ v ∷ []) ++ completing_of o ≡ (map viewed.variant_of vs ++ completing_of o) ++ viewed.variant_of v ∷ []
added_is vs v None e =
    append-nil (map viewed.variant_of (vs ++ v ∷ [])) ∙ (map_push viewed.variant_of vs v ∙ sym (ap (λ ds. ds ++ viewed.variant_of v ∷ []) (append-nil (map viewed.variant_of vs))))
added_is vs v (Some part) e = cc

completing_is : (vs : List Variant) (o : Option FieldPart) (part : FieldPart) → o ≡ None → map viewed.variant_of vs ++ completing_of (Some part) ≡ (map viewed.variant_of vs ++ completing_of o) ++ completing_of (Some part)
completing_is vs None part e = sym (ap (λ ds. ds ++ completing_of (Some part)) (append-nil (map viewed.variant_of vs)))
completing_is vs (Some other) part e = cc

-- how many components there are
denoters_counted : (ds : List tree.Denoter) → denoters_count (tree.denoters ds) ≡ length ds
denoters_counted [] = refl
denoters_counted (d ∷ ds) = ap suc (denoters_counted ds)

completing_counted : (o : Option FieldPart) → length (completing_of o) ≡ (if is_some o then 1 else 0)
completing_counted None = refl
completing_counted (Some part) = refl

denoter_listed : (ds : List tree.Denoter) (k : ℕ) (d : tree.Denoter) → slice_get ds k ≡ Some d → denoter_at (tree.denoters ds) k ≡ Some d
denoter_listed [] k d e = cc
denoter_listed (c ∷ ds) zero d e = e
denoter_listed (c ∷ ds) (suc k) d e = denoter_listed ds k d e

-- ---- all fields of a list, in the order of the text

-- those of variants
abbrev insides : Selection → ℕ → List (List FieldType) → List FieldType
insides s number [] = []
insides s number (fs ∷ more) = map (inside s number) fs ++ insides s (suc number) more

abbrev IsJoined : List FieldType → List FieldType → List FieldType → Type 0
IsJoined all fs joined = joined ≡ all ++ fs

joined_are : (fs all : List FieldType) → Fits (IsJoined all fs) (fields_joined fs all)
joined_are [] all = sym (append-nil all)
joined_are (f ∷ fs) all = chosen (is_among_fields all f.name) (joined_are fs (all ++ f ∷ []))
  where
    chosen : (b : Bool) → Fits (IsJoined (all ++ f ∷ []) fs) (fields_joined fs (all ++ f ∷ [])) → Fits (IsJoined all (f ∷ fs)) (if b then Breaks (rule.TWICE ∷ []) else fields_joined fs (all ++ f ∷ []))
    chosen true rest = tt
    chosen false rest = fits_weaker (IsJoined (all ++ f ∷ []) fs) (IsJoined all (f ∷ fs)) (fields_joined fs (all ++ f ∷ [])) (λ joined e. e ∙ append_assoc all (f ∷ []) fs) rest

variants_are : (s : Selection) (number : ℕ) (lists : List (List FieldType)) (all : List FieldType) → Fits (IsJoined all (insides s number lists)) (variants_joined s number lists all)
variants_are s number [] all = sym (append-nil all)
variants_are s number (fs ∷ more) all =
    fits_then (IsJoined all (map (inside s number) fs)) (IsJoined all (insides s number (fs ∷ more))) (variants_joined s (suc number) more) (fields_joined (map (inside s number) fs) all) (joined_are (map (inside s number) fs) all)
    (λ next e. fits_weaker (IsJoined next (insides s (suc number) more)) (IsJoined all (insides s number (fs ∷ more))) (variants_joined s (suc number) more next)
    (λ joined f. f ∙ (ap (λ l. l ++ insides s (suc number) more) e ∙ append_assoc all (map (inside s number) fs) (insides s (suc number) more))) (variants_are s (suc number) more next))

abbrev AreAll : Selection → Tag → List Field → List (List FieldType) → List FieldType → Type 0
AreAll s t fs lists all = all ≡ (own_fields 0 fs ++ tag_field s t ∷ []) ++ insides s 0 lists

all_are : (s : Selection) (t : Tag) (fs : List Field) (lists : List (List FieldType)) → Fits (AreAll s t fs lists) (all_fields s t fs lists)
all_are s t fs lists =
    fits_then (IsJoined (own_fields 0 fs) (tag_field s t ∷ [])) (AreAll s t fs lists) (variants_joined s 0 lists) (fields_joined (tag_field s t ∷ []) (own_fields 0 fs)) (joined_are (tag_field s t ∷ []) (own_fields 0 fs))
    (λ next e. subst (λ l. Fits (AreAll s t fs lists) (variants_joined s 0 lists l)) (sym e) (variants_are s 0 lists (own_fields 0 fs ++ tag_field s t ∷ [])))

-- what holds of each field of each variant
each_mapped : (P Q : FieldType → Type 0) (g : FieldType → FieldType) (fs : List FieldType) → ((f : FieldType) → P f → Q (g f)) → All P fs → All Q (map g fs)
each_mapped P Q g [] h x = All-nil Q
each_mapped P Q g (f ∷ fs) h x = All-cons Q (g f) (map g fs) (h f (All-head P f fs x)) (each_mapped P Q g fs h (All-tail P f fs x))

each_inside : (P : FieldType → Type 0) (s : Selection) (number : ℕ) (lists : List (List FieldType)) → ((k : ℕ) (fs : List FieldType) → slice_get lists k ≡ Some fs → All P (map (inside s (number + k)) fs)) → All P (insides s number lists)
each_inside P s number [] h = All-nil P
each_inside P s number (fs ∷ more) h =
    All-append P (map (inside s number) fs) (insides s (suc number) more) (subst (λ n. All P (map (inside s n) fs)) {x = number + 0} {y = number} (omega arith) (h 0 fs refl))
    (each_inside P s (suc number) more (λ k gs e. subst (λ n. All P (map (inside s n) gs)) {x = number + suc k} {y = suc number + k} (omega arith) (h (suc k) gs e)))

-- so what holds of those of the list, of its tag and of those holds of all
each_all : (P : FieldType → Type 0) (s : Selection) (t : Tag) (fs : List Field) (lists : List (List FieldType)) (all : List FieldType) → AreAll s t fs lists all
    → All P (own_fields 0 fs) → P (tag_field s t) → ((k : ℕ) (gs : List FieldType) → slice_get lists k ≡ Some gs → All P (map (inside s k) gs)) → All P all
each_all P s t fs lists all are own tag h =
    subst (All P) (sym are)
    (All-append P (own_fields 0 fs ++ tag_field s t ∷ []) (insides s 0 lists) (All-push P (own_fields 0 fs) (tag_field s t) own tag)
    (each_inside P s 0 lists (λ k gs e. subst (λ n. All P (map (inside s n) gs)) {x = k} {y = 0 + k} (omega arith) (h k gs e))))

-- ---- blocks

-- where nothing waits, all is built
noted_built : (built : Bool) (line : ℕ) (b : Block) → (noted built line b).waits ≡ None → (built ≡ true) × (noted built line b ≡ b)
noted_built true line b e = (refl, refl)
noted_built false line b e = absurd (waits_some b.waits line e)

module _ (u : TypedUnit) where
  -- ---- the tag

  record TagHeld (i : ℕ) (t : Tag) : Type 0 where
    lists : ListsHost u i t.values.host
    here : HasTypeHere u i (denoter_of t.denoter) t.of (kind.Ordinal t.values.host)
    bounds : here.0 ≡ type.Ordinal t.values.low t.values.high

  tag_more : (i j : ℕ) (t : Tag) → i ≤ j → TagHeld i t → TagHeld j t
  tag_more i j t le x = record {
    lists = lists_kind_more u i j (kind.Ordinal t.values.host) le x.lists;
    here = (
      x.here.0,
      kind_more u.types i j (denoter_of t.denoter) (kind.Ordinal t.values.host) x.here.0 le x.here.1,
      kind_more u.types i j (named_tree t.of) (kind.Ordinal t.values.host) x.here.0 le x.here.2,
    );
    bounds = x.bounds;
  }

  -- in a block that is held, the tag is of its type
  abbrev IsTagOf : Block → Tag → Type 0
  IsTagOf c t = (i : ℕ) → IsPrefix c.types u.types → Holds u i c → TagHeld i t

  -- its values are those of its type
  tag_made : (c : Block) (name : List ℕ) (w : Written) → Names u c w → (h : Host) (low high : ℤ) → IsValued w.kind (value_of w.block.types w.of) h low high → IsTagOf c (tag_named name w (record { host = h; low = low; high = high }))
  tag_made c name w names h low high valued i prefix held =
      let y = names.holds i held in
      let here : HasTypeHere u i (denoter_of w.denoter) w.of (kind.Ordinal h) = subst (HasTypeHere u i (denoter_of w.denoter) w.of) valued.ordinal y.0 in
      let of = here.2.has_bare in
      record {
        lists = subst (ListsKind u i) valued.ordinal y.1;
        here = here;
        bounds =
            sym of.bare
            ∙ value_is u.types (suc i) w.block.types w.of of.type_value (type.Ordinal low high) (subst (λ b. IsPrefix b.types u.types) (sym names.same) prefix) (of.has_type (suc (suc i)) (omega arith)) valued.has_value;
      }

  tag_fits : (c : Block) (name : List ℕ) (w : Written) → Names u c w → Fits (IsTagOf c) (tag_of name w)
  tag_fits c name w names =
      fits_then (λ v. IsValued w.kind (value_of w.block.types w.of) v.host v.low v.high) (IsTagOf c) (λ values. Accepts (tag_named name w values)) (index_values w) (index_valued w) (λ v valued. tag_made c name w names v.host v.low v.high valued)

  tag_written-fits : (s : VariantSelector) (c : Block) → Fits (IsTagOf c) (tag_written s c)
  tag_written-fits (selector.Tag at name of) c = fits_then (Names u c) (IsTagOf c) (tag_of name) (type_named of.first of.second c) (type_named-names u of.first of.second c) (λ w names. tag_fits c name w names)
  tag_written-fits (selector.Discriminant at name) c = tt

  -- ---- variants that stand

  -- a variant of these fields
  record VariantHeld (i : ℕ) (d : tree.Denoter) (fs : List FieldType) : Type 0 where
    inner : tree.Denoters
    is : d ≡ tree.Record inner
    list : ListHeld u i inner fs

  abbrev VariantsHeld : ℕ → List tree.Denoter → List (List FieldType) → Type 0
  VariantsHeld i [] [] = ⊤
  VariantsHeld i (d ∷ ds) (fs ∷ more) = VariantHeld i d fs × VariantsHeld i ds more
  VariantsHeld i ds more = ⊥

  variants_later : (i j : ℕ) (ds : List tree.Denoter) (lists : List (List FieldType)) → i ≤ j → VariantsHeld i ds lists → VariantsHeld j ds lists
  variants_later i j [] [] le x = tt
  variants_later i j [] (fs ∷ more) le x = absurd x
  variants_later i j (d ∷ ds) [] le x = absurd x
  variants_later i j (d ∷ ds) (fs ∷ more) le x = (record { inner = x.0.inner; is = x.0.is; list = list_more u i j x.0.inner fs le x.0.list }, variants_later i j ds more le x.1)

  variants_push : (i : ℕ) (ds : List tree.Denoter) (lists : List (List FieldType)) (d : tree.Denoter) (fs : List FieldType) → VariantsHeld i ds lists → VariantHeld i d fs → VariantsHeld i (ds ++ d ∷ []) (lists ++ fs ∷ [])
  variants_push i [] [] d fs x h = (h, tt)
  variants_push i [] (gs ∷ more) d fs x h = absurd x
  variants_push i (c ∷ ds) [] d fs x h = absurd x
  variants_push i (c ∷ ds) (gs ∷ more) d fs x h = (x.0, variants_push i ds more d fs x.1 h)

  -- one by its number
  record VariantAt (i : ℕ) (ds : List tree.Denoter) (k : ℕ) (fs : List FieldType) : Type 0 where
    inner : tree.Denoters
    there : slice_get ds k ≡ Some (tree.Record inner)
    list : ListHeld u i inner fs

  variant_at : (i : ℕ) (ds : List tree.Denoter) (lists : List (List FieldType)) → VariantsHeld i ds lists → (k : ℕ) (fs : List FieldType) → slice_get lists k ≡ Some fs → VariantAt i ds k fs
  variant_at i ds [] x k fs e = cc
  variant_at i [] (gs ∷ more) x k fs e = absurd x
  variant_at i (d ∷ ds) (gs ∷ more) x zero fs e = let is : gs ≡ fs = cc in record { inner = x.0.inner; there = ap Some x.0.is; list = subst (ListHeld u i x.0.inner) is x.0.list }
  variant_at i (d ∷ ds) (gs ∷ more) x (suc k) fs e = let y = variant_at i ds more x.1 k fs e in record { inner = y.inner; there = y.there; list = y.list }

  -- the bare forms of their type values
  variant_types : (i : ℕ) (ds : List tree.Denoter) (lists : List (List FieldType)) → VariantsHeld i ds lists → ComponentTypes
  variant_types i [] lists x = no_component
  variant_types i (d ∷ ds) [] x = absurd x
  variant_types i (d ∷ ds) (fs ∷ more) x = next_component (type.Record x.0.list.types) (variant_types i ds more x.1)

  variant_bare : (i : ℕ) (d : tree.Denoter) (fs : List FieldType) (x : VariantHeld i d fs) → HasBare u.types i d (type.Record x.list.types)
  variant_bare i d fs x = subst (λ c. HasBare u.types i c (type.Record x.list.types)) (sym x.is) (bare_record u.types i x.inner x.list.types x.list.denoted)

  variants_denoted : (i : ℕ) (ds : List tree.Denoter) (lists : List (List FieldType)) (x : VariantsHeld i ds lists) → AreDenoted u.types i (tree.denoters ds) (variant_types i ds lists x)
  unfolding variant_types
  variants_denoted i [] lists x = tt
  variants_denoted i (d ∷ ds) [] x = absurd x
  variants_denoted i (d ∷ ds) (fs ∷ more) x = (variant_bare i d fs x.0, variants_denoted i ds more x.1)

  -- the type value of one by its number, and those of its fields
  record VariantValues (i : ℕ) (ts : ComponentTypes) (k : ℕ) (fs : List FieldType) : Type 0 where
    inner : ComponentTypes
    among : type_among ts k ≡ Some (type.Record inner)
    values : i ≤ length u.types → AreFieldValues (type_values u) fs inner

  variant_values_at : (i : ℕ) (ds : List tree.Denoter) (lists : List (List FieldType)) (x : VariantsHeld i ds lists) (k : ℕ) (fs : List FieldType) → slice_get lists k ≡ Some fs → VariantValues i (variant_types i ds lists x) k fs
  unfolding variant_types
  variant_values_at i ds [] x k fs e = cc
  variant_values_at i [] (gs ∷ more) x k fs e = absurd x
  variant_values_at i (d ∷ ds) (gs ∷ more) x zero fs e =
      let is : gs ≡ fs = cc in
      record { inner = x.0.list.types; among = refl; values = λ le. subst (λ hs. AreFieldValues (type_values u) hs x.0.list.types) is (x.0.list.values le) }
  variant_values_at i (d ∷ ds) (gs ∷ more) x (suc k) fs e = let y = variant_values_at i ds more x.1 k fs e in record { inner = y.inner; among = y.among; values = y.values }

  -- ---- variants one after another

  record Gathers (b : Block) (f : Fielded) (t : Tag) (g : Gathered) : Type 0 where
    grows : Grows b g.block
    built : g.block.waits ≡ None → g.labels.built ≡ true
    labels : AreLabels t g.labels
    ended : g.labels.own ≡ []
    counted : length g.labels.before ≡ length g.variants
    holds : IsOpen b → Extends u g.block → g.block.waits ≡ None → Holds u (length b.types) b
        → Holds u (length g.block.types) g.block × HaveFields u (length g.block.types) f.fields × TagHeld (length g.block.types) t × VariantsHeld (length g.block.types) (variants_in g) g.lists

  -- before one completes them
  abbrev GathersFirst : Block → Fielded → Tag → Gathered → Type 0
  GathersFirst b f t g = Gathers b f t g × (g.completing ≡ None)

  gathers_none : (b : Block) (f : Fielded) (t : Tag) → Fields u b f → IsTagOf f.block t → GathersFirst b f t (none_gathered f.block)
  gathers_none b f t x tag = (
    record {
      grows = x.grows;
      built = λ w. refl;
      labels = none_yet t;
      ended = refl;
      counted = refl;
      holds = λ under ext free held. let y = x.holds under ext free held in (y.0, y.1, tag (length f.block.types) ext.types y.0, tt);
    },
    refl,
  )

  -- the labels of a variant, behind those of others
  record Noted (line : ℕ) (t : Tag) (g : Gathered) (x : Labelled) : Type 0 where
    block : x.block ≡ noted x.labels.built line g.block
    labels : OneMore t g.labels x.labels

  labels_noted-fits : (line : ℕ) (t : Tag) (ls : List Label) (g : Gathered) → AreLabels t g.labels → Fits (Noted line t g) (labels_noted line t.values ls g.block g.labels)
  labels_noted-fits line t ls g labels =
      fits_then (λ (x : List CaseRange × Labels). OneMore t g.labels x.1) (Noted line t g) (λ (x : List CaseRange × Labels). Accepts (record { ranges = x.0; labels = x.1; block = noted x.1.built line g.block }))
      (variant_labelled (scopes_of g.block) t.values ls g.labels) (variant_fits t (scopes_of g.block) ls g.labels labels) (λ x more. record { block = refl; labels = more })

  -- what is held behind a list of fields more
  module _ (b : Block) (f : Fielded) (t : Tag) (g : Gathered) (x : Gathers b f t g) (c : Block) (l : Listed) (between : Grows g.block c) (same : c.waits ≡ None → c ≡ g.block) (list : Lists u c l) where
    last_grows : Grows b l.block
    last_grows = grows_trans b g.block l.block x.grows (grows_trans g.block c l.block between list.grows)

    abbrev LastHeld : Type 0
    LastHeld =
        Holds u (length l.block.types) l.block × HaveFields u (length l.block.types) f.fields × TagHeld (length l.block.types) t
        × VariantsHeld (length l.block.types) (variants_in g ++ tree.Record (tree.denoters (viewed.components_of l.listing.part)) ∷ []) (g.lists ++ l.listing.fields ∷ [])

    last_held : IsOpen b → Extends u l.block → l.block.waits ≡ None → Holds u (length b.types) b → LastHeld
    last_held under ext free held =
        let here : Extends u c = extends_before u c l.block list.grows (between.opens (x.grows.opens under)) ext in
        let before : Extends u g.block = extends_before u g.block c between (x.grows.opens under) here in
        let free_here = list.grows.waits free in
        let y = x.holds under before (between.waits free_here) held in
        let z = list.holds (between.opens (x.grows.opens under)) ext free (subst (λ d. Holds u (length d.types) d) (sym (same free_here)) y.0) in
        let i : ℕ = length g.block.types in
        let j : ℕ = length l.block.types in
        let le : i ≤ j = prefix_length g.block.types l.block.types (grows_trans g.block c l.block between list.grows).types in (
          z.0,
          fields_later u i j f.fields le y.1,
          tag_more i j t le y.2,
          variants_push j (variants_in g) g.lists (tree.Record (tree.denoters (viewed.components_of l.listing.part))) l.listing.fields (variants_later i j (variants_in g) g.lists le y.3)
              (record { inner = tree.denoters (viewed.components_of l.listing.part); is = refl; list = z.1 }),
        )

  variant_gathers : (line : ℕ) (b : Block) (f : Fielded) (t : Tag) (g : Gathered) → GathersFirst b f t g → (x : Labelled) → Noted line t g x → (l : Listed) → Lists u x.block l → GathersFirst b f t (variant_added x.ranges x.labels l g)
  variant_gathers line b f t g x n behind l list =
      let between : Grows g.block n.block = subst (Grows g.block) (sym behind.block) (noted_grows n.labels.built line g.block) in
      let all_built : n.block.waits ≡ None → (n.labels.built ≡ true) × (noted n.labels.built line g.block ≡ g.block) = λ w. noted_built n.labels.built line g.block (sym (ap (λ (c : Block). c.waits) behind.block) ∙ w) in
      let same : n.block.waits ≡ None → n.block ≡ g.block = λ w. behind.block ∙ (all_built w).1 in
      let part = l.listing.part in
      let is : map viewed.variant_of (g.variants ++ roll-Variant (record { ranges = n.ranges; part = part }) ∷ []) ++ completing_of g.completing ≡ variants_in g ++ tree.Record (tree.denoters (viewed.components_of part)) ∷ [] =
      added_is g.variants (roll-Variant (record { ranges = n.ranges; part = part })) g.completing x.1 ∙ ap (λ d. variants_in g ++ d ∷ []) (variant_is n.ranges part) in (
        record {
          grows = last_grows b f t g x.0 n.block l between same list;
          built = λ w. (all_built (list.grows.waits w)).0;
          labels = behind.labels.labels;
          ended = behind.labels.ended;
          counted = behind.labels.counted ∙ (ap suc x.0.counted ∙ sym (length_push g.variants (roll-Variant (record { ranges = n.ranges; part = part }))));
          holds = λ under ext free held.
              let y = last_held b f t g x.0 n.block l between same list under ext free held in
              (y.0, y.1, y.2, subst (λ ds. VariantsHeld (length l.block.types) ds (g.lists ++ l.listing.fields ∷ [])) (sym is) y.3);
        },
        x.1,
      )

  variant_fits_in : (line : ℕ) (b : Block) (f : Fielded) (t : Tag) (v : VariantJudged) → IsKnownList u v.fields → (g : Gathered) → GathersFirst b f t g → Fits (GathersFirst b f t) (variant_written line t.values v g)
  variant_fits_in line b f t v known g x =
      fits_then (Noted line t g) (GathersFirst b f t) (λ n. when_accepted (λ l. Accepts (variant_added n.ranges n.labels l g)) (v.fields line n.block)) (labels_noted line t.values v.labels g.block g.labels) (labels_noted-fits line t v.labels g x.0.labels)
      (λ n behind. fits_then (Lists u n.block) (GathersFirst b f t) (λ l. Accepts (variant_added n.ranges n.labels l g)) (v.fields line n.block) (known line n.block) (λ l list. variant_gathers line b f t g x n behind l list))

  variants_fit : (line : ℕ) (b : Block) (f : Fielded) (t : Tag) (vs : List VariantJudged) → AreVariantsKept (IsKnownList u) vs → (g : Gathered) → GathersFirst b f t g → Fits (GathersFirst b f t) (variants_written line t.values vs g)
  variants_fit line b f t [] known g x = x
  variants_fit line b f t (v ∷ vs) known g x =
      fits_then (GathersFirst b f t) (GathersFirst b f t) (variants_written line t.values vs) (variant_written line t.values v g) (variant_fits_in line b f t v known.0 g x) (λ d y. variants_fit line b f t vs known.1 d y)

  completing_gathers : (b : Block) (f : Fielded) (t : Tag) (g : Gathered) → GathersFirst b f t g → (l : Listed) → Lists u g.block l → Gathers b f t (completing_added l g)
  completing_gathers b f t g x l list = record {
    grows = last_grows b f t g x.0 g.block l (grows_refl g.block) (λ w. refl) list;
    built = λ w. x.0.built (list.grows.waits w);
    labels = x.0.labels;
    ended = x.0.ended;
    counted = x.0.counted;
    holds = λ under ext free held.
        let y = last_held b f t g x.0 g.block l (grows_refl g.block) (λ w. refl) list under ext free held in
        (y.0, y.1, y.2, subst (λ ds. VariantsHeld (length l.block.types) ds (g.lists ++ l.listing.fields ∷ [])) (sym (completing_is g.variants g.completing l.listing.part x.1)) y.3);
  }

  completing_fits : (line : ℕ) (b : Block) (f : Fielded) (t : Tag) (other : Option ListJudged) → IsKeptIf (IsKnownList u) other → (g : Gathered) → GathersFirst b f t g → Fits (Gathers b f t) (completing_written line other g)
  completing_fits line b f t None known g x = x.0
  completing_fits line b f t (Some fields) known g x = fits_then (Lists u g.block) (Gathers b f t) (λ l. Accepts (completing_added l g)) (fields line g.block) (known line g.block) (λ l list. completing_gathers b f t g x l list)

  left_out_fits : (b : Block) (f : Fielded) (t : Tag) (g : Gathered) → Gathers b f t g → Fits (Gathers b f t) (unless_left_out t.values g)
  left_out_fits b f t g x =
      let j = completed t.values g.labels (is_some g.completing) in
      fits_then Any (Gathers b f t) (λ done. Accepts g) j (fits_any j) (λ done y. x)

  -- ---- a list with a variant part

  module _ (t : Tag) (f : Fielded) (g : Gathered) (i : ℕ) (le : i ≤ length u.types) (own : HaveFields u i f.fields) (tag : TagHeld i t) (variants : VariantsHeld i (variants_in g) g.lists)
      (labels : AreLabels t g.labels) (ended : g.labels.own ≡ []) (counted : length g.labels.before ≡ length g.variants) (built : g.labels.built ≡ true) where
    abbrev S : Selection
    S = selection_of (length f.fields) g

    abbrev Behind : List tree.Denoter
    Behind = tag_record t ∷ variants_in g

    abbrev Ds : tree.Denoters
    Ds = tree.denoters (denoters_of f.fields ++ Behind)

    abbrev More : ComponentTypes
    More = next_component (type.Record (next_component tag.here.0 no_component)) (variant_types i (variants_in g) g.lists variants)

    abbrev Ts : ComponentTypes
    Ts = types_of u i f.fields own More

    abbrev TagHost : typed.Host
    TagHost = typed_host t.values.host

    -- the tag alone
    tag_denoted : AreDenoted u.types i (tree.denoters (denoter_of t.denoter ∷ [])) (next_component tag.here.0 no_component)
    tag_denoted = (tag.here.1.has_bare, tt)

    behind_denoted : AreDenoted u.types i (tree.denoters Behind) More
    behind_denoted =
        (bare_record u.types i (tree.denoters (denoter_of t.denoter ∷ [])) (next_component tag.here.0 no_component) tag_denoted, variants_denoted i (variants_in g) g.lists variants)

    denoted : AreDenoted u.types i Ds Ts
    denoted = all_denoted u i f.fields own Behind More behind_denoted

    tag_there : denoter_at Ds (length f.fields) ≡ Some (tag_record t)
    tag_there = ap (denoter_at Ds) {x = length f.fields} {y = length f.fields + 0} (omega arith) ∙ denoter_behind u f.fields Behind 0

    variant_there : (k : ℕ) (d : tree.Denoter) → slice_get (variants_in g) k ≡ Some d → denoter_at Ds (variant_number S k) ≡ Some d
    variant_there k d e =
        ap (denoter_at Ds) {x = suc (length f.fields + k)} {y = length f.fields + suc k} (omega arith) ∙ (denoter_behind u f.fields Behind (suc k) ∙ denoter_listed (variants_in g) k d e)

    all_counted : denoters_count Ds ≡ suc (length f.fields) + variants_count S
    all_counted =
        let first = length-append (denoters_of f.fields) Behind in
        let second = length-append (map viewed.variant_of g.variants) (completing_of g.completing) in
        denoters_counted (denoters_of f.fields ++ Behind)
        ∙ omega (arith, first, second, length-map f.fields (λ (x : Field). denoter_of x.denoter), length-map g.variants viewed.variant_of, completing_counted g.completing, counted)

    -- the bounds of its type are of its host
    of_host : IsTypeOf TagHost (type.Ordinal t.values.low t.values.high)
    of_host = subst (IsTypeOf TagHost) tag.bounds (denotes_hosted u.types i (denoter_of t.denoter) TagHost tag.here.0 le tag.here.1)

    joined_is : labels_joined g.labels.before ++ g.labels.own ≡ labels_joined g.labels.before
    joined_is = ap (λ rs. labels_joined g.labels.before ++ rs) ended ∙ append-nil (labels_joined g.labels.before)

    selects : (declared : Declarations) → IsSelection declared u.types Ds S
    selects declared = record {
      tag = denoter_of t.denoter;
      host = TagHost;
      has_tag = tag_there;
      has_host = tag.here.1.has_host (suc (length u.types)) (omega (arith, le));
      all = all_counted;
      each = all_labelled t declared TagHost of_host.1 of_host.2 g.labels.before (labels.each built);
      labels = ranges_hosted t declared TagHost of_host.1 of_host.2 (labels_joined g.labels.before) (subst (All (IsRangeOf t)) joined_is labels.ranges);
      apart = subst AreApart joined_is labels.apart;
    }

    tag_selects : Selects (type_values u) u.types (record { selection = S; host = t.values.host; low = t.values.low; high = t.values.high }) (denoter_of t.denoter) Ds
    unfolding selects
    tag_selects declared = (selects declared, refl, refl, kind_type u.types i (denoter_of t.denoter) (kind.Ordinal t.values.host) tag.here.0 le tag.here.1 ∙ ap Some tag.bounds)

    tag_held : IsFieldOf (type_values u) u.types Ds (tag_field S t)
    tag_held = (denoter_of t.denoter, tag_there, denoter_holds u i (denoter_of t.denoter) t.of (kind.Ordinal t.values.host) le tag.lists tag.here, refl, tag_selects)

    tag_valued : IsFieldValue (type_values u) (tag_field S t) Ts
    tag_valued = (
      tag.here.0,
      ap (type_among Ts) {x = length f.fields} {y = length f.fields + 0} (omega arith) ∙ type_behind u i f.fields own More 0,
      kind_valued u.types (type_values u) (λ n. refl) i (denoter_of t.denoter) (kind.Ordinal t.values.host) tag.here.0 le (lists_kind_small u i (kind.Ordinal t.values.host) tag.lists) tag.here.1,
    )

    has_tag_value : HasTagValue S Ts
    unfolding tag_valued
    has_tag_value = (TagHost, t.values.low, t.values.high, of_host, tag_valued.1 ∙ ap (λ b. Some (type.Record (next_component b no_component))) tag.bounds)

    variant_valued : (k : ℕ) (of : TypeValue) → type_among (variant_types i (variants_in g) g.lists variants) k ≡ Some of → type_among Ts (variant_number S k) ≡ Some of
    variant_valued k of e = ap (type_among Ts) {x = suc (length f.fields + k)} {y = length f.fields + suc k} (omega arith) ∙ (type_behind u i f.fields own More (suc k) ∙ e)

    -- the fields of a variant
    inside_held : (k : ℕ) (fs : List FieldType) → slice_get g.lists k ≡ Some fs → All (IsFieldOf (type_values u) u.types Ds) (map (inside S k) fs)
    inside_held k fs e =
        let v = variant_at i (variants_in g) g.lists variants k fs e in
        each_mapped (IsFieldOf (type_values u) u.types v.inner) (IsFieldOf (type_values u) u.types Ds) (inside S k) fs (λ x h. (selects, v.inner, variant_there k (tree.Record v.inner) v.there, h)) (v.list.fields le)

    inside_listed : (k : ℕ) (fs : List FieldType) → slice_get g.lists k ≡ Some fs → All (λ x. ListsKind u i x.kind) (map (inside S k) fs)
    inside_listed k fs e =
        let v = variant_at i (variants_in g) g.lists variants k fs e in
        each_mapped (λ x. ListsKind u i x.kind) (λ x. ListsKind u i x.kind) (inside S k) fs (λ x h. h) v.list.lists

    inside_valued : (k : ℕ) (fs : List FieldType) → slice_get g.lists k ≡ Some fs → All (λ x. IsFieldValue (type_values u) x Ts) (map (inside S k) fs)
    inside_valued k fs e =
        let v = variant_values_at i (variants_in g) g.lists variants k fs e in
        each_mapped (λ x. IsFieldValue (type_values u) x v.inner) (λ x. IsFieldValue (type_values u) x Ts) (inside S k) fs (λ x h. (has_tag_value, v.inner, variant_valued k (type.Record v.inner) v.among, h)) (v.values le)

    variant_list_held : (all : List FieldType) → AreAll S t f.fields g.lists all → ListHeld u i (tree.denoters (viewed.components_of (field_part f.fields (Some (variant_part t g))))) all
    variant_list_held all are =
        subst (λ ds. ListHeld u i (tree.denoters ds) all) (sym (whole_is f.fields t g))
        (record {
          types = Ts;
          denoted = denoted;
          lists = each_all (λ x. ListsKind u i x.kind) S t f.fields g.lists all are (own_listed u i f.fields own Behind More) tag.lists inside_listed;
          fields = λ few. each_all (IsFieldOf (type_values u) u.types Ds) S t f.fields g.lists all are (own_held u i f.fields own Behind More le) tag_held inside_held;
          values = λ few. each_all (λ x. IsFieldValue (type_values u) x Ts) S t f.fields g.lists all are (own_valued u i f.fields own Behind More le) tag_valued inside_valued;
        })

  variant_lists : (b : Block) (f : Fielded) (t : Tag) (g : Gathered) → Gathers b f t g → (all : List FieldType) → AreAll (selection_of (length f.fields) g) t f.fields g.lists all → Lists u b (variant_listing f t g all)
  variant_lists b f t g x all are = record {
    grows = x.grows;
    holds = λ under ext free held.
        let y = x.holds under ext free held in
        (y.0, variant_list_held t f g (length g.block.types) (prefix_length g.block.types u.types ext.types) y.1 y.2 y.3 x.labels x.ended x.counted (x.built free) all are);
  }

  variant_list_fits : (b : Block) (f : Fielded) (t : Tag) (g : Gathered) → Gathers b f t g → Fits (Lists u b) (variant_list f t g)
  variant_list_fits b f t g x =
      let s = selection_of (length f.fields) g in
      fits_then (AreAll s t f.fields g.lists) (Lists u b) (λ all. Accepts (variant_listing f t g all)) (all_fields s t f.fields g.lists) (all_are s t f.fields g.lists) (λ all are. variant_lists b f t g x all are)

  -- a variant part behind fields that stand
  abbrev pub IsKnownVariants : PartJudged → Type 0
  IsKnownVariants part = (line : ℕ) (b : Block) (f : Fielded) → Fields u b f → Fits (Lists u b) (part line f)

  pub variant_part_fits : (s : VariantSelector) (vs : List VariantJudged) (other : Option ListJudged) → AreVariantsKept (IsKnownList u) vs → IsKeptIf (IsKnownList u) other → IsKnownVariants (variant_part_written s vs other)
  variant_part_fits s vs other known also line b f x =
      fits_then (IsTagOf f.block) (Lists u b) (variants_after line vs other f) (tag_written s f.block) (tag_written-fits s f.block)
      (λ t tag.
      let first = variants_written line t.values vs (none_gathered f.block) in
      let second = when_accepted (completing_written line other) first in
      let third = when_accepted (unless_left_out t.values) second in
      let first_fits : Fits (GathersFirst b f t) first = variants_fit line b f t vs known (none_gathered f.block) (gathers_none b f t x tag) in
      let second_fits : Fits (Gathers b f t) second = fits_then (GathersFirst b f t) (Gathers b f t) (completing_written line other) first first_fits (completing_fits line b f t other also) in
      let third_fits : Fits (Gathers b f t) third = fits_then (Gathers b f t) (Gathers b f t) (unless_left_out t.values) second second_fits (left_out_fits b f t) in
      fits_then (Gathers b f t) (Lists u b) (variant_list f t) third third_fits (variant_list_fits b f t))

  list_ended_fits : (line : ℕ) (part : Option PartJudged) → IsKeptIf IsKnownVariants part → (b : Block) (f : Fielded) → Fields u b f → Fits (Lists u b) (list_ended line part f)
  list_ended_fits line None known b f x = plain_lists u b f x
  list_ended_fits line (Some part) known b f x = known line b f x

  pub list_fits : (sections : List Section) (part : Option PartJudged) → AreKept (IsKnown u) sections → IsKeptIf IsKnownVariants part → IsKnownList u (list_written sections part)
  list_fits sections part known also line b =
      fits_then (Fields u b) (Lists u b) (list_ended line part) (sections_written line sections (record { fields = []; block = b })) (sections_fit u line sections known b (record { fields = []; block = b }) (none_written u b))
      (λ f x. list_ended_fits line part also b f x)
