-- The rules of structured values (ISO 10206, 6.8.7): each component is given a value of its type, a field exactly
-- once, and so is each component of an array where all indexes are constant.
use Rattle.std.specs.Prelude.{ℕ, ℤ, ◌==◌, suc, pos, ◌+ℤ◌, max, int_le, nat_eq, Bool, true, false, ◌&&◌, ◌||◌, not}
use Rattle.std.specs.Prelude.{List, [], ◌∷◌, ◌++◌, map, position, slice_get, Option, Some, None, if◌then◌else◌}
use Rattle.std.specs.List.{list_all, list_any}
use Rattle.std.specs.Option.{option_map}
use Rattle.std.specs.Str.{bytes_eq}
use Rattle.ep_tree.specs.Shapes.{as_identifier, when_none}
use Rattle.ep_tree.specs.declared.expression.Expression.{Expression}
use Rattle.ep_tree.specs.declared.expression.Label.{Label as LabelTree, out-Label}
use Rattle.ep_typed.specs.CaseRanges.{is_apart}
use Rattle.ep_typed.specs.Trees.{AtField, AtIndex, AtIndexes, AtRanges, Designator, Element, Expr, Range, SameField}
use Rattle.ep_typed.specs.Trees.{SetOf, Single, Structured, designators, elements, no_member}
use Rattle.ep_typed.specs.declared.tree.CaseRange.{CaseRange}
use Rattle.ep_scope.specs.Fields.{field_number}
use Rattle.ep_scope.specs.Kinds.{same_host}
use Rattle.ep_scope.specs.Scopes.{Meant, Declares, FieldOf, Nothing, Region, Requires, meant, meant_in, structure_in}
use Rattle.ep_scope.specs.Scopes as meaning
use Rattle.ep_scope.specs.declared.kind.Kind.{Kind}
use Rattle.ep_scope.specs.declared.kind.Kind.TheVariants as kind
use Rattle.ep_scope.specs.declared.required.Required.{Required}
use Rattle.ep_scope.specs.declared.required.Required.TheVariants as required
use Rattle.ep_scope.specs.declared.rule.TheConstants as rule
use Rattle.ep_scope.specs.declared.structure.ArrayType.{ArrayType}
use Rattle.ep_scope.specs.declared.structure.Composition.{Composition}
use Rattle.ep_scope.specs.declared.structure.Composition.TheVariants as composition
use Rattle.ep_scope.specs.declared.structure.FieldType.{FieldType}
use Rattle.ep_scope.specs.declared.structure.TagType.{TagType}
use Rattle.ep_scope.specs.declared.structure.VariantStep.{VariantStep}
use Rattle.ep_scope.specs.declared.thing.Declaration.{Declaration}
use Rattle.ep_scope.specs.declared.thing.Declaration.TheVariants as declaration
use Rattle.ep_rules.specs.declared.access.Access.TheVariants as access
use Rattle.ep_rules.specs.Arguments.{given_to}
use Rattle.ep_rules.specs.ConstantAccesses.{has_index}
use Rattle.ep_rules.specs.Constructors.{Label}
use Rattle.ep_rules.specs.Folding.{folded, number_in}
use Rattle.ep_rules.specs.Judgements.{Judged, Accepts, Breaks, Typed, when_accepted}
use Rattle.ep_rules.specs.Names.{undeclared}
use Rattle.ep_rules.specs.Operators.{are_compatible, map_both, within_depth}
use Rattle.ep_rules.specs.VariantSteps.{field_steps, selected_variant}
use Rattle.ep_rules.specs.declared.folding.Folded.{Folded}
use Rattle.ep_rules.specs.declared.folding.Folded.TheVariants.{Known, Varies, Errs}

-- ---- what is written

-- A component value: what the rules say of it where a value of the structured type of this number is asked for, or of
-- another type. Without the name of its type a structured value is one of the type that is asked for.
abbrev pub Valued : Type 0
Valued = Option ℕ → Judged Typed

mutual
  -- labels with their value; or a choice of a variant, by the name before the tag's value, if there is one, that
  -- value, whether `otherwise` stands in the brackets, and the elements in them
  pub data Written : Type 0 where
    Labelled : (labels : List Label) (value : Valued) → Written
    Chosen : (name : Option (List ℕ)) (tag : Judged Typed) (completed : Bool) (elements : WrittenRow) → Written

  -- elements in order
  pub data WrittenRow : Type 0 where
    no_written : WrittenRow
    next_written : (first : Written) (rest : WrittenRow) → WrittenRow

abbrev pub row_of : List Written → WrittenRow
row_of [] = no_written
row_of (w ∷ ws) = next_written w (row_of ws)

-- what stands in the brackets of a structured value
pub record Components : Type 0 where
  pub elements : List Written
  pub otherwise : Option Valued

-- whether `otherwise` is there
abbrev pub completes : Option Valued → Bool
completes None = false
completes (Some value) = true

-- a choice of a variant with what stands in its brackets, where they are not empty
abbrev pub chosen_written : Option (List ℕ) → Judged Typed → Option Components → Written
chosen_written name tag None = Chosen name tag false no_written
chosen_written name tag (Some c) = Chosen name tag (completes c.otherwise) (row_of c.elements)

-- the structured type that a component of this kind asks for
abbrev pub asked_by : Kind → Option ℕ
asked_by (kind.Ordinal h) = None
asked_by (kind.Structured n) = Some n
asked_by (kind.Set h) = None
asked_by kind.EmptySet = None
asked_by kind.Text = None
asked_by kind.File = None

-- it does not fit its type, or leaves out or doubles a component
abbrev pub unfit : {A : Type 0} → Judged A
unfit = Breaks (rule.STRUCTURED_VALUE ∷ [])

-- a value for a component of this kind (ISO 10206, 6.4.6)
abbrev pub component_given : Kind → Typed → Judged (Option Expr)
component_given k v = given_to (λ x. x) k v.kind v.form

-- elements behind others
abbrev pub with_elements : Option (List Element) → Option (List Element) → Option (List Element)
with_elements before more = map_both (λ xs ys. xs ++ ys) before more

-- ---- indexes of arrays (ISO 10206, 6.8.7.2)

-- an index: its form, how deep it is, and its ordinal number where it is constant
pub record Index : Type 0 where
  pub form : Option Expr
  pub depth : ℕ
  pub constant : Option ℤ

-- what is known of a constant; one that would be an error is none
abbrev pub constant_folded : Folded → Judged (Option ℤ)
constant_folded (Known x) = Accepts (Some (number_in x))
constant_folded Varies = Accepts None
constant_folded Errs = Breaks (rule.CONSTANT ∷ [])

abbrev pub constant_in : Option Expr → Judged (Option ℤ)
constant_in None = Accepts None
constant_in (Some x) = constant_folded (folded x)

-- a constant index is one of the array
abbrev pub within_bounds : ArrayType → Option ℤ → Bool
within_bounds a None = true
within_bounds a (Some z) = int_le a.low z && int_le z a.high

abbrev pub bounded_index : ArrayType → Typed → Option ℤ → Judged Index
bounded_index a x constant =
    if within_bounds a constant then Accepts (record { form = x.form; depth = x.depth; constant = constant })
    else unfit

-- an index has the host of the index type
abbrev pub index_judged : ArrayType → Typed → Judged Index
index_judged a x =
    if are_compatible (kind.Ordinal a.index) x.kind then when_accepted (bounded_index a x) (constant_in x.form)
    else unfit

-- the index of labels that are one index alone
abbrev pub single_label : List LabelTree → Option Expression
single_label (l ∷ []) = when_none (out-Label l).high (Some (out-Label l).low)
single_label ls = None

-- ---- ranges of indexes

-- the ranges of the labels of an element, where all are constant, the labels as designators, in order, where all are
-- built, and how deep the deepest index is
pub record Ranges : Type 0 where
  pub ranges : Option (List CaseRange)
  pub designators : Option (List Designator)
  pub depth : ℕ

abbrev pub no_ranges : Ranges
no_ranges = record { ranges = Some []; designators = Some []; depth = 0 }

-- the indexes from one to another; none, where the first is above the last
abbrev pub ranging : ℤ → ℤ → List CaseRange
ranging low high = if int_le low high then record { low = low; high = high } ∷ [] else []

-- ranges behind others, where all are constant
abbrev pub joined_ranges : Option (List CaseRange) → Option (List CaseRange) → Option (List CaseRange)
joined_ranges before more = map_both (λ xs ys. xs ++ ys) before more

abbrev pub with_span : Option (List CaseRange) → Option ℤ → Option ℤ → Option (List CaseRange)
with_span before low high = joined_ranges before (map_both ranging low high)

-- with a label more: from one index to another, where both are constant, and its designator, where that is built
abbrev pub with_label : Ranges → Option ℤ → Option ℤ → Option Designator → ℕ → Ranges
with_label r low high d depth =
    record {
      ranges = with_span r.ranges low high;
      designators = map_both (λ ds e. ds ++ e ∷ []) r.designators d;
      depth = max r.depth depth;
    }

-- with one index
abbrev pub with_single : Ranges → Index → Ranges
with_single r x = with_label r x.constant x.constant (option_map Single x.form) x.depth

-- with the indexes from one to another
abbrev pub with_range : Ranges → Index → Index → Ranges
with_range r x y = with_label r x.constant y.constant (map_both Range x.form y.form) (max x.depth y.depth)

module _ (a : ArrayType) where
  -- a label after others: an index, or those from one to another
  abbrev pub second_index : Ranges → Index → Option (Judged Typed) → Judged Ranges
  second_index r x None = Accepts (with_single r x)
  second_index r x (Some high) = when_accepted (λ y. Accepts (with_range r x y)) (when_accepted (index_judged a) high)

  abbrev pub range_labelled : Label → Ranges → Judged Ranges
  range_labelled l r = when_accepted (λ x. second_index r x l.high) (when_accepted (index_judged a) l.low)

  abbrev pub ranges_labelled : List Label → Ranges → Judged Ranges
  ranges_labelled [] r = Accepts r
  ranges_labelled (l ∷ ls) r = when_accepted (ranges_labelled ls) (range_labelled l r)

-- ---- arrays

-- What is gathered of the elements of an array: what components are given, where all of it is built, how deep the
-- deepest part is, and which indexes are given, where all are constant.
pub record Arranged : Type 0 where
  pub elements : Option (List Element)
  pub depth : ℕ
  pub indexes : Option (List CaseRange)

-- the component at an index and its value
abbrev pub index_form : Option Expr → Option Expr → Option (List Element)
index_form x v = map_both (λ i y. AtIndex i y ∷ []) x v

-- with the component at an index, which is given a value
abbrev pub with_index : Arranged → Index → ℕ → Option Expr → Arranged
with_index r x depth value =
    record {
      elements = with_elements r.elements (index_form x.form value);
      depth = max r.depth (max x.depth depth);
      indexes = with_span r.indexes x.constant x.constant;
    }

-- the components in constant ranges and their value; where there are none, it is evaluated all the same
abbrev pub ranges_given : List CaseRange → Expr → List Element
ranges_given [] v = AtIndexes no_member v ∷ []
ranges_given (r ∷ rs) v = AtRanges (r ∷ rs) v ∷ []

-- the components at the indexes that designators give, and their value
abbrev pub indexes_given : List Designator → Expr → List Element
indexes_given ds v = AtIndexes (designators ds) v ∷ []

-- the components at labels and their value: in ranges, where all are constant
abbrev pub ranges_form : Option (List CaseRange) → Option (List Designator) → Option Expr → Option (List Element)
ranges_form (Some rs) ds v = option_map (ranges_given rs) v
ranges_form None ds v = map_both indexes_given ds v

-- with the components in ranges, which are given a value
abbrev pub with_ranges : Arranged → Ranges → ℕ → Option Expr → Arranged
with_ranges r x depth value =
    record {
      elements = with_elements r.elements (ranges_form x.ranges x.designators value);
      depth = max r.depth (max x.depth depth);
      indexes = joined_ranges r.indexes x.ranges;
    }

-- the labels of an element: an index, or ranges of them
pub data IndexLabels : Type 0 where
  One : (index : Index) → IndexLabels
  Many : (ranges : Ranges) → IndexLabels

abbrev pub with_labels : Arranged → IndexLabels → ℕ → Option Expr → Arranged
with_labels r (One x) depth value = with_index r x depth value
with_labels r (Many x) depth value = with_ranges r x depth value

-- before any element: nothing, or what `otherwise` gives all components
abbrev pub nothing_arranged : Arranged
nothing_arranged = record { elements = Some []; depth = 0; indexes = Some [] }

abbrev pub all_arranged : ArrayType → ℕ → Option Expr → Arranged
all_arranged a depth value =
    record {
      elements =
          with_elements (Some []) (option_map (ranges_given (record { low = a.low; high = a.high } ∷ [])) value);
      depth = depth;
      indexes = Some [];
    }

-- no index is in two ranges
abbrev pub are_apart : List CaseRange → Bool
are_apart [] = true
are_apart (r ∷ rs) = list_all (is_apart r) rs && are_apart rs

-- whether the index behind a range is, where the array has it
abbrev pub goes_on : ArrayType → List CaseRange → CaseRange → Bool
goes_on a ranges r = int_le a.high r.high || has_index ranges (r.high +ℤ pos 1)

-- Each index of the array is in one of the ranges: the least one is, and so is the index behind each range that does
-- not end with the greatest one.
abbrev pub leave_none_out : ArrayType → List CaseRange → Bool
leave_none_out a ranges = has_index ranges a.low && list_all (goes_on a ranges) ranges

-- where all indexes are constant, each component is given once, or by `otherwise`
abbrev pub is_arranged : ArrayType → Bool → Option (List CaseRange) → Bool
is_arranged a completed None = true
is_arranged a completed (Some ranges) = are_apart ranges && (completed || leave_none_out a ranges)

-- a value of the structured type of this number
abbrev pub structured : ℕ → Option (List Element) → ℕ → Judged Typed
structured n es depth = within_depth (option_map (λ xs. Structured n (elements xs)) es) (kind.Structured n) (suc depth)

abbrev pub arranged : ℕ → ArrayType → Bool → Arranged → Judged Typed
arranged n a completed r = if is_arranged a completed r.indexes then structured n r.elements r.depth else unfit

module _ (a : ArrayType) where
  -- what is made of a value that components are given
  abbrev pub given_by : {B : Type 0} → (ℕ → Option Expr → B) → Typed → Judged B
  given_by make v = when_accepted (λ x. Accepts (make v.depth x)) (component_given a.kind v)

  abbrev pub given_then : {B : Type 0} → (ℕ → Option Expr → B) → Valued → Judged B
  given_then make value = when_accepted (given_by make) (value (asked_by a.kind))

  -- the labels of an element: one index alone, or ranges
  abbrev pub many_labels : List Label → Judged IndexLabels
  many_labels ls = when_accepted (λ x. Accepts (Many x)) (ranges_labelled a ls no_ranges)

  abbrev pub alone_labels : Label → Option (Judged Typed) → Judged IndexLabels
  alone_labels l None = when_accepted (λ x. Accepts (One x)) (when_accepted (index_judged a) l.low)
  alone_labels l (Some high) = many_labels (l ∷ [])

  abbrev pub labels_judged : List Label → Judged IndexLabels
  labels_judged (l ∷ []) = alone_labels l l.high
  labels_judged ls = many_labels ls

  -- the components at the labels, which are given a value
  abbrev pub labelled_element : List Label → Valued → Arranged → Judged Arranged
  labelled_element ls value r = when_accepted (λ x. given_then (with_labels r x) value) (labels_judged ls)

  -- an element after others; an array has no variants
  abbrev pub array_element : Written → Arranged → Judged Arranged
  array_element (Labelled ls value) r = labelled_element ls value r
  array_element (Chosen name tag completed row) r = unfit

  abbrev pub array_elements : List Written → Arranged → Judged Arranged
  array_elements [] r = Accepts r
  array_elements (e ∷ es) r = when_accepted (array_elements es) (array_element e r)

  -- what is given before the elements
  abbrev pub array_begun : Option Valued → Judged Arranged
  array_begun None = Accepts nothing_arranged
  array_begun (Some value) = given_then (all_arranged a) value

abbrev pub array_judged : ℕ → ArrayType → Components → Judged Typed
array_judged n a c =
    when_accepted (arranged n a (completes c.otherwise))
    (when_accepted (array_elements a c.elements) (array_begun a c.otherwise))

-- ---- records (ISO 10206, 6.8.7.3)

-- the name that a label is alone, if it is one
abbrev pub label_name : LabelTree → Option (List ℕ)
label_name l = when_none (out-Label l).high (as_identifier (out-Label l).low)

-- What is gathered of the elements of a record: what components are given, where all of it is built, how deep the
-- deepest value is, and the places of the fields that are given, among all fields.
pub record Filled : Type 0 where
  pub elements : Option (List Element)
  pub depth : ℕ
  pub fields : List ℕ

abbrev pub nothing_filled : Filled
nothing_filled = record { elements = Some []; depth = 0; fields = [] }

-- Where a value is given: in the record itself, or in the variant to which these numbers lead, of a variant of the
-- record and then of variants in each other.
abbrev pub VariantNumbers : Type 0
VariantNumbers = List ℕ

-- whether these steps lead there
abbrev pub is_at : VariantNumbers → List VariantStep → Bool
is_at [] [] = true
is_at (k ∷ within) (s ∷ path) = (k == s.variant) && is_at within path
is_at _ _ = false

abbrev pub is_tag : Option TagType → Bool
is_tag None = false
is_tag (Some tag) = true

-- a field that is there, and no tag
abbrev pub is_plain : VariantNumbers → FieldType → Bool
is_plain within f = is_at within f.path && not (is_tag f.tag)

-- the tag that is there
abbrev pub is_tag_at : VariantNumbers → FieldType → Bool
is_tag_at within f = is_at within f.path && is_tag f.tag

-- the structured type that a field asks for
abbrev pub asked_if : Option FieldType → Option ℕ
asked_if None = None
asked_if (Some f) = asked_by f.kind

-- with a field more, which is not given before
abbrev pub with_field : Filled → ℕ → ℕ → Option (List Element) → Judged Filled
with_field r place depth given =
    if list_any (nat_eq place) r.fields
    then unfit
    else Accepts
    (record {
      elements = with_elements r.elements given;
      depth = max r.depth depth;
      fields = r.fields ++ place ∷ [];
    })

-- a field that is given a value
abbrev pub first_form : List ℕ → Expr → List Element
first_form steps x = AtField steps x ∷ []

-- a further field that is given what that one has
abbrev pub same_form : List ℕ → List ℕ → List Element
same_form from steps = SameField from steps ∷ []

abbrev pub first_given : ℕ → Typed → Filled → FieldType → Judged Filled
first_given place v r f =
    when_accepted (λ x. with_field r place v.depth (option_map (first_form (field_steps f)) x))
    (component_given f.kind v)

-- something of a kind, of which nothing else is known
abbrev pub of_kind : Kind → Typed
of_kind k = record { form = None; kind = k; depth = 0; access = access.Value }

-- whether a value of the one kind is one of the other: of one host, of one structured type, or a set over one host
abbrev pub is_same_kind : Kind → Kind → Bool
is_same_kind (kind.Ordinal h) (kind.Ordinal g) = same_host h g
is_same_kind (kind.Structured m) (kind.Structured n) = m == n
is_same_kind (kind.Set h) (kind.Set g) = same_host h g
is_same_kind _ _ = false

-- the empty set, for a field that is a set
abbrev pub empty_if : Kind → List ℕ → Option (List Element)
empty_if (kind.Set h) steps = Some (first_form steps (SetOf no_member))
empty_if _ steps = None

-- What a further field is given: what the first one has, where that is of its kind. Else both are sets over different
-- hosts, and the value is `[]`, which is one over each host.
abbrev pub same_if : FieldType → FieldType → Option (List Element)
same_if first f =
    if is_same_kind first.kind f.kind then Some (same_form (field_steps first) (field_steps f))
    else empty_if f.kind (field_steps f)

abbrev pub same_given : FieldType → Kind → ℕ → Filled → Option FieldType → Judged Filled
same_given first k place r None = unfit
same_given first k place r (Some f) =
    when_accepted (λ x. with_field r place 0 (same_if first f)) (component_given f.kind (of_kind k))

-- ---- choices of variants (ISO 10206, 6.8.7.3)

-- what is gathered with a tag, and the variant that its value selects, where that is built
pub record Choice : Type 0 where
  pub filled : Filled
  pub chosen : Option VariantNumbers

-- the value of a tag is constant
abbrev pub tag_folded : Folded → Judged (Option ℤ)
tag_folded (Known x) = Accepts (Some (number_in x))
tag_folded Varies = Breaks (rule.CONSTANT ∷ [])
tag_folded Errs = Breaks (rule.CONSTANT ∷ [])

abbrev pub tag_constant : Option Expr → Judged (Option ℤ)
tag_constant None = Accepts None
tag_constant (Some x) = tag_folded (folded x)

-- and one of its type
abbrev pub is_tag_value : TagType → Option ℤ → Bool
is_tag_value tag None = true
is_tag_value tag (Some z) = int_le tag.low z && int_le z tag.high

-- the variant of the record, or of the variant, that it selects
abbrev pub chosen_within : VariantNumbers → TagType → Option ℤ → Option VariantNumbers
chosen_within within tag z = option_map (λ n. within ++ selected_variant tag.selection n ∷ []) z

-- the tag is given the value, and not before
abbrev pub tag_filled : VariantNumbers → ℕ → FieldType → TagType → ℕ → Filled → Option Expr → Option ℤ → Judged Choice
tag_filled within place f tag depth r x z =
    if is_tag_value tag z
    then when_accepted (λ s. Accepts (record { filled = s; chosen = chosen_within within tag z }))
    (with_field r place depth (option_map (first_form (field_steps f)) x))
    else unfit

abbrev pub tag_valued : VariantNumbers → ℕ → FieldType → TagType → ℕ → Filled → Option Expr → Judged Choice
tag_valued within place f tag depth r x = when_accepted (tag_filled within place f tag depth r x) (tag_constant x)

abbrev pub tag_given : VariantNumbers → ℕ → FieldType → Typed → Filled → Option TagType → Judged Choice
tag_given within place f v r None = unfit
tag_given within place f v r (Some tag) =
    when_accepted (tag_valued within place f tag v.depth r) (component_given f.kind v)

-- a name before the value is that of the tag
abbrev pub is_named : Option (List ℕ) → FieldType → Bool
is_named None f = true
is_named (Some name) f = bytes_eq f.name name

abbrev pub choice_by : VariantNumbers → Option (List ℕ) → ℕ → Filled → Typed → Option FieldType → Judged Choice
choice_by within name place r v None = unfit
choice_by within name place r v (Some f) = if is_named name f then tag_given within place f v r f.tag else unfit

module _ (fs : List FieldType) where
  -- the place of the tag that is there, if there is one
  abbrev pub tag_place : VariantNumbers → Option ℕ
  tag_place within = position (is_tag_at within) fs

  -- where there is no tag there are no variants
  abbrev pub choice_at : VariantNumbers → Option (List ℕ) → Filled → Typed → Option ℕ → Judged Choice
  choice_at within name r v None = unfit
  choice_at within name r v (Some place) = choice_by within name place r v (slice_get fs place)

  -- the choice of a variant of the record, or of the variant, by the value of the tag
  abbrev pub choice : VariantNumbers → Option (List ℕ) → Filled → Typed → Judged Choice
  choice within name r v = choice_at within name r v (tag_place within)

-- each field that is there is given, from a place on, the tag among them; no tag is given by its name
abbrev pub are_given : VariantNumbers → List ℕ → ℕ → List FieldType → Bool
are_given within given place [] = true
are_given within given place (f ∷ fs) =
    (not (is_at within f.path) || list_any (nat_eq place) given) && are_given within given (suc place) fs

abbrev pub all_given : List FieldType → VariantNumbers → Filled → Judged Filled
all_given fs within r = if are_given within r.fields 0 fs then Accepts r else unfit

-- all that stands in brackets for a record or a variant, which has no `otherwise` (own)
abbrev pub part_filled : List FieldType → VariantNumbers → Bool → Judged Filled → Judged Filled
part_filled fs within completed r = if completed then unfit else when_accepted (all_given fs within) r

-- what is gathered where a variant is chosen; nothing is asked of its fields where it is not known
abbrev pub chosen_filled : (VariantNumbers → Filled → Judged Filled) → Filled → Option VariantNumbers → Judged Filled
chosen_filled fill r None = Accepts r
chosen_filled fill r (Some within) = fill within r

-- ---- records

module _ (fs : List FieldType) where
  abbrev pub plain_place : VariantNumbers → ℕ → Option FieldType → Judged ℕ
  plain_place within place None = unfit
  plain_place within place (Some f) = if is_plain within f then Accepts place else unfit

  abbrev pub place_if : VariantNumbers → Option ℕ → Judged ℕ
  place_if within None = unfit
  place_if within (Some place) = plain_place within place (slice_get fs place)

  -- a label is the name of a field that is there, of which this is the place among the fields
  abbrev pub label_place : VariantNumbers → Option (List ℕ) → Judged ℕ
  label_place within None = unfit
  label_place within (Some name) = place_if within (field_number fs name)

  abbrev pub label_places : VariantNumbers → List (Option (List ℕ)) → List ℕ → Judged (List ℕ)
  label_places within [] found = Accepts found
  label_places within (name ∷ names) found =
      when_accepted (λ place. label_places within names (found ++ place ∷ [])) (label_place within name)

  -- the fields behind the first one of an element
  abbrev pub same_filled : FieldType → Kind → List ℕ → Filled → Judged Filled
  same_filled first k [] r = Accepts r
  same_filled first k (place ∷ places) r =
      when_accepted (same_filled first k places) (same_given first k place r (slice_get fs place))

  abbrev pub filled_from : ℕ → List ℕ → Filled → Typed → Option FieldType → Judged Filled
  filled_from place places r v None = unfit
  filled_from place places r v (Some f) = when_accepted (same_filled f v.kind places) (first_given place v r f)

  -- the fields of an element, by their places
  abbrev pub fields_filled : List ℕ → Filled → Typed → Judged Filled
  fields_filled [] r v = unfit
  fields_filled (place ∷ places) r v = filled_from place places r v (slice_get fs place)

  -- the type of its value is that of the first one
  abbrev pub asked_first : List ℕ → Option ℕ
  asked_first [] = None
  asked_first (place ∷ places) = asked_if (slice_get fs place)

  abbrev pub fields_element : Valued → Filled → List ℕ → Judged Filled
  fields_element value r places = when_accepted (fields_filled places r) (value (asked_first places))

  -- the fields of these names
  abbrev pub named_element : VariantNumbers → List (Option (List ℕ)) → Valued → Filled → Judged Filled
  named_element within names value r = when_accepted (fields_element value r) (label_places within names [])

  abbrev mutual
    -- an element after others, in the record or in a variant
    pub record_element : VariantNumbers → Written → Filled → Judged Filled
    record_element within (Labelled ls value) r = named_element within (map (λ l. l.name) ls) value r
    record_element within (Chosen name tag completed row) r =
        when_accepted
        (λ c. chosen_filled (λ inner s. part_filled fs inner completed (row_filled inner row s)) c.filled c.chosen)
        (when_accepted (choice fs within name r) tag)

    pub row_filled : VariantNumbers → WrittenRow → Filled → Judged Filled
    row_filled within no_written r = Accepts r
    row_filled within (next_written w row) r = when_accepted (row_filled within row) (record_element within w r)

  abbrev pub record_elements : VariantNumbers → List Written → Filled → Judged Filled
  record_elements within ws r = row_filled within (row_of ws) r

-- what stands in the brackets of a record or of a variant
abbrev pub values_filled : List FieldType → VariantNumbers → Components → Filled → Judged Filled
values_filled fs within c r = part_filled fs within (completes c.otherwise) (record_elements fs within c.elements r)

-- in those of a variant that is chosen, which may be empty
abbrev pub values_chosen : List FieldType → Option Components → Choice → Judged Filled
values_chosen fs None c = chosen_filled (all_given fs) c.filled c.chosen
values_chosen fs (Some values) c = chosen_filled (λ inner s. values_filled fs inner values s) c.filled c.chosen

abbrev pub filled : ℕ → Filled → Judged Typed
filled n r = structured n r.elements r.depth

abbrev pub record_judged : ℕ → List FieldType → Components → Judged Typed
record_judged n fs c = when_accepted (filled n) (values_filled fs [] c nothing_filled)

-- ---- of both

abbrev pub composed : ℕ → Option Composition → Components → Judged Typed
composed n None c = unfit
composed n (Some (composition.Array a)) c = array_judged n a c
composed n (Some (composition.Record fs)) c = record_judged n fs c

module _ (scopes : List Region) where
  -- a structured value of the type of this number
  abbrev pub structure_judged : Components → ℕ → Judged Typed
  structure_judged c n = composed n (structure_in scopes n) c

  -- without the name of its type: one of the type that is asked for, if that is structured
  abbrev pub bracketed : Components → Option ℕ → Judged Typed
  bracketed c None = unfit
  bracketed c (Some n) = structure_judged c n

-- ---- the type of a structured value

abbrev pub kind_number : Kind → Judged ℕ
kind_number (kind.Ordinal h) = unfit
kind_number (kind.Structured n) = Accepts n
kind_number (kind.Set h) = unfit
kind_number kind.EmptySet = unfit
kind_number kind.Text = unfit
kind_number kind.File = unfit

abbrev pub declared_number : Declaration → Judged ℕ
declared_number (declaration.«Type» of k nodes) = kind_number k
declared_number _ = Breaks (rule.OTHER_THING ∷ [])

abbrev pub required_number : Required → Judged ℕ
required_number (required.«Type» t) = unfit
required_number _ = Breaks (rule.OTHER_THING ∷ [])

-- what the name means is a structured type (ISO 10206, 6.8.7.1)
abbrev pub meant_number : List ℕ → Meant → Judged ℕ
meant_number unknown (Declares d) = declared_number d.what
meant_number unknown (meaning.Standard file) = Breaks (rule.OTHER_THING ∷ [])
meant_number unknown (Requires r) = required_number r
meant_number unknown (FieldOf f) = Breaks (rule.OTHER_THING ∷ [])
meant_number unknown Nothing = Breaks unknown

module _ (scopes : List Region) where
  -- the number of the structured type of this name
  abbrev pub named_number : List ℕ → Option (List ℕ) → Judged ℕ
  named_number name None = meant_number (undeclared name) (meant scopes name)
  named_number interface (Some name) = meant_number (rule.UNDECLARED ∷ []) (meant_in scopes interface name)
