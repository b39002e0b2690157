-- What is known of the places of fields, tags and fields of variants among them, within records.
use Rattle.std.proofs.Common.{◌≡◌, ◌∙◌, ℕ, zero, suc, List, [], ◌∷◌, slice_get, Option, Some, None, ap, refl, subst}
use Rattle.std.specs.Prelude.{All}
use Rattle.std.proofs.lemmas.List.Elements.{All-cons, All-head, All-nil, All-tail}
use Rattle.ep_typed.specs.Denoters.{bare_type_of, record_of}
use Rattle.ep_typed.specs.Trees.{Denoter, Denoters, Field, Place, Read, Record, Variant, next_denoter, no_denoter}
use Rattle.ep_meaning.specs.Valid.{Declarations, IsPlaceWhere, IsTagged}
use Rattle.ep_typed.specs.declared.unit.UnitType.{UnitType}
use Rattle.ep_scope.specs.declared.kind.Kind.{Kind}
use Rattle.ep_scope.specs.declared.parameter.Protection.{Protection}
use Rattle.ep_scope.specs.declared.parameter.TypeName.{TypeName}
use Rattle.ep_scope.specs.declared.structure.Composition.TheVariants as composition
use Rattle.ep_scope.specs.declared.structure.FieldType.{FieldType}
use Rattle.ep_scope.specs.declared.structure.StructuredType.{StructuredType}
use Rattle.ep_scope.specs.declared.structure.TagType.{TagType}
use Rattle.ep_scope.specs.declared.structure.VariantStep.{VariantStep}
use Rattle.ep_expr_laws.specs.Agreement.{HasKind, HoldsStructure, IsAccessOf, IsAlong, IsDenoterOf, IsFieldOf, IsMadeOf, IsOfType, IsPartOf, IsStructuredAt, IsTaggedIf, Records, Arrays, Structure, TypeValues}
use Rattle.ep_rules.specs.FieldDesignators.{along, component_place, reached, variable_access}
use Rattle.ep_rules.specs.Hosts.{typed_host}
use Rattle.ep_expr_laws.proofs.public.Places.{IsComponentAt, IsFieldWhere, IsStructured, IsVariantWhere, made_so, place_wider, record_parts}

-- what holds of all holds of the one of a number
pub all_there : {X : Type 0} (P : X → Type 0) (xs : List X) (number : ℕ) (x : X) → All P xs → slice_get xs number ≡ Some x → P x
all_there P [] number x all e = cc
all_there P (y ∷ ys) zero x all e = let is : y ≡ x = cc in subst P is (All-head P y ys all)
all_there P (y ∷ ys) (suc number) x all e = all_there P ys number x (All-tail P y ys all) e

-- what holds of the one of each number holds of all
pub all_of_each : {X : Type 0} (P : X → Type 0) (xs : List X) → ((number : ℕ) (x : X) → slice_get xs number ≡ Some x → P x) → All P xs
all_of_each P [] f = All-nil P
all_of_each P (x ∷ xs) f = All-cons P x xs (f 0 x refl) (all_of_each P xs (λ number. f (suc number)))

module _ (types : TypeValues) (list : List UnitType) where
  -- what says less of components says less of those of the variant behind steps
  pub along_wider : (P Q : Denoters → Type 0) → ((ds : Denoters) → P ds → Q ds) → (path : List VariantStep) (ds : Denoters) → IsAlong types list P path ds → IsAlong types list Q path ds
  along_wider P Q f [] ds h = f ds h
  along_wider P Q f (s ∷ path) ds h = (h.0, h.1, h.2, along_wider P Q f path h.1 h.3)

  -- that variant has some components
  pub along_at : (P : Denoters → Type 0) (path : List VariantStep) (ds : Denoters) → IsAlong types list P path ds → (inner : Denoters) × P inner
  along_at P [] ds h = (ds, h)
  along_at P (s ∷ path) ds h = along_at P path h.1 h.3

  -- some denoter is that of a field
  pub part_denoter : (tag : Option TagType) (number : ℕ) (of : TypeName) (k : Kind) (ds : Denoters) → IsPartOf types list tag number of k ds → (d : Denoter) × HasKind types list d k
  part_denoter None number of k ds h = (h.0, h.2.0)
  part_denoter (Some tag) number of k ds h = (h.0, h.2.0)

module _ (declared : Declarations) (types : TypeValues) where
  -- the denoter is that of a record of whose components this holds
  abbrev pub IsRecordWhere : (List UnitType → Denoters → Type 0) → List UnitType → Denoter → Type 0
  IsRecordWhere P list d = (ds : Denoters) × (record_of list d ≡ Some ds) × P list ds

  -- what holds of the components of the variant behind steps holds at its place
  pub along-place : (P : List UnitType → Denoters → Type 0) (path : List VariantStep) (place : Place) → IsPlaceWhere declared (IsRecordWhere (λ list ds. IsAlong types list (P list) path ds)) place
      → IsPlaceWhere declared (IsRecordWhere P) (along path place)
  along-place P [] place h = h
  along-place P (s ∷ path) place h =
      along-place P path (Variant place s.selection s.variant)
      (place_wider declared (IsRecordWhere (λ list ds. IsAlong types list (P list) (s ∷ path) ds))
      (IsVariantWhere declared (IsRecordWhere (λ list ds. IsAlong types list (P list) path ds)) s.selection s.variant) place
      (λ list d q. (q.0, q.1, q.2.0 declared, Record q.2.1, q.2.2, (q.2.1, refl, q.2.3))) h)

  module _ (Q : List UnitType → Type 0) (number : ℕ) (of : TypeName) (k : Kind) where
    -- the components are those in which a field is
    abbrev pub HasPart : Option TagType → List UnitType → Denoters → Type 0
    HasPart tag list ds = IsPartOf types list tag number of k ds × Q list

    -- the field, or the tag, has its type and kind
    abbrev IsPart : List UnitType → Denoter → Type 0
    IsPart list d = IsDenoterOf types list of k d × Q list

    pub part-place : (tag : Option TagType) (place : Place) → IsPlaceWhere declared (IsRecordWhere (HasPart tag)) place → IsPlaceWhere declared IsPart (component_place tag number place)
    part-place None place h = place_wider declared (IsRecordWhere (HasPart None)) (IsFieldWhere declared IsPart number) place (λ list d q. (q.0, q.1, q.2.0.0, q.2.0.1, (q.2.0.2, q.2.1))) h
    part-place (Some tag) place h =
        place_wider declared (IsRecordWhere (HasPart (Some tag))) (IsFieldWhere declared (IsFieldWhere declared IsPart 0) number) place
        (λ list d q. (q.0, q.1, Record (next_denoter q.2.0.0 no_denoter), q.2.0.1, (next_denoter q.2.0.0 no_denoter, refl, q.2.0.0, refl, (q.2.0.2, q.2.1)))) h

    -- and the tag selects the variants of the record
    pub part-tagged : (tag : Option TagType) (place : Place) → IsPlaceWhere declared (IsRecordWhere (HasPart tag)) place → IsTaggedIf declared types tag place
    part-tagged None place h = tt
    part-tagged (Some tag) place h = place_wider declared (IsRecordWhere (HasPart (Some tag))) (IsTagged declared (typed_host tag.host) tag.low tag.high tag.selection) place within h
      where
        within : (list : List UnitType) (d : Denoter) → IsRecordWhere (HasPart (Some tag)) list d → IsTagged declared (typed_host tag.host) tag.low tag.high tag.selection list d
        within list d q = let s = q.2.0.4 declared in (q.0, q.1, (s.0, s.2, ap (bare_type_of list) s.1 ∙ s.3))

  -- what is read of a field is a variable, or a tag
  pub read-access : (of : TypeName) (guarded : Protection) (tag : Option TagType) (number : ℕ) (whole : Place) → IsOfType declared types (component_place tag number whole) of → IsTaggedIf declared types tag whole
      → IsAccessOf declared types (variable_access of guarded tag) (Some (Read (component_place tag number whole)))
  read-access of guarded None number whole p q = (Field whole number, refl, p)
  read-access of guarded (Some tag) number whole p q = (whole, number, refl, p, q)

  -- nothing is asked of one that is not built
  pub unread-access : (of : TypeName) (guarded : Protection) (tag : Option TagType) → IsAccessOf declared types (variable_access of guarded tag) None
  unread-access of guarded None = tt
  unread-access of guarded (Some tag) = tt

module _ (declared : Declarations) (types : TypeValues) (structures : List StructuredType) where
  -- the list holds the structured types in view
  abbrev InView : List UnitType → Type 0
  InView list = All (HoldsStructure types list) structures

  module _ (n : ℕ) (fs : List FieldType) (in_view : (list : List UnitType) → InView list → HoldsStructure types list (made_so n (composition.Record fs))) (number : ℕ) (f : FieldType) (there : slice_get fs number ≡ Some f) where
    -- the components of the record, or of the variant, in which the field is
    abbrev HasField : List UnitType → Denoters → Type 0
    HasField = HasPart declared types InView f.number f.of f.kind f.tag

    field-along : (place : Place) → IsStructuredAt declared types structures n place → IsPlaceWhere declared (IsRecordWhere declared types HasField) (along f.path place)
    field-along place at =
        along-place declared types HasField f.path place
        (place_wider declared (IsStructured declared types structures n) (IsRecordWhere declared types (λ list ds. IsAlong types list (HasField list) f.path ds)) place within at)
      where
        within : (list : List UnitType) (d : Denoter) → IsStructured declared types structures n list d → IsRecordWhere declared types (λ es ds. IsAlong types es (HasField es) f.path ds) list d
        within list d k =
            let p = record_parts list types d n k.0.0 fs (in_view list k.1) in
            (p.0, p.1, along_wider types list (IsPartOf types list f.tag f.number f.of f.kind) (HasField list) (λ ds q. (q, k.1)) f.path p.0 (all_there (IsFieldOf types list p.0) fs number f p.2 there))

    -- the field has its type and kind
    pub field-place : (place : Place) → IsStructuredAt declared types structures n place → IsComponentAt declared types structures f.of f.kind (reached f place)
    field-place place at = part-place declared types InView f.number f.of f.kind f.tag (along f.path place) (field-along place at)

    -- where it is a tag, it selects the variants of its record
    pub field-tagged : (place : Place) → IsStructuredAt declared types structures n place → IsTaggedIf declared types f.tag (along f.path place)
    field-tagged place at = part-tagged declared types InView f.number f.of f.kind f.tag (along f.path place) (field-along place at)

    -- some denoter is that of the field
    pub some-field : (list : List UnitType) → InView list → (d : Denoter) × HasKind types list d f.kind
    some-field list all = within h.structure h.made_of
      where
        h : HoldsStructure types list (made_so n (composition.Record fs))
        h = in_view list all

        within : (m : Structure) → IsMadeOf types list (composition.Record fs) m → (d : Denoter) × HasKind types list d f.kind
        within (Arrays p) made = absurd made
        within (Records ds) made =
            let q = along_at types list (IsPartOf types list f.tag f.number f.of f.kind) f.path ds (all_there (IsFieldOf types list ds) fs number f made there) in
            part_denoter types list f.tag f.number f.of f.kind q.0 q.1
