-- Lists of fields and their variants are written from left to right, by the steps that the functions take.
use Rattle.std.proofs.Common.{◌≡◌, ℕ, suc, List, [], ◌∷◌, map, length, Option, Some, None, refl, sym, ap, ◌∙◌}
use Rattle.std.specs.Option.{option_map}
use Rattle.ep_tree.specs.declared.types.Core.TheFolds.{fold-roll-VariantPart, fold_out-Variant}
use Rattle.ep_tree.specs.declared.types.Fields.{Fields}
use Rattle.ep_tree.specs.declared.types.Variant.{Variant as VariantTree, out-Variant}
use Rattle.ep_tree.specs.declared.types.VariantPart.{VariantPart as VariantPartTree, out-VariantPart, roll-VariantPart, roll-out-VariantPart}
use Rattle.ep_tree.specs.declared.types.VariantSelector.{VariantSelector}
use Rattle.ep_typed.specs.declared.denoter.FieldPart.{roll-FieldPart}
use Rattle.ep_typed.specs.declared.denoter.RecordField.{RecordField}
use Rattle.ep_typed.specs.declared.denoter.VariantPart.{VariantPart}
use Rattle.ep_typed.specs.declared.tree.Selection.{Selection}
use Rattle.ep_scope.specs.declared.structure.FieldType.{FieldType}
use Rattle.ep_rules.specs.Judgements.{Accepts, when_accepted}
use Rattle.ep_check_unit.specs.Blocks.{Block}
use Rattle.ep_unit_rules.specs.Records.{Field, fields_nodes, record_field}
use Rattle.ep_unit_rules.specs.Types.{counted}
use Rattle.ep_unit_rules.specs.Variants.{Tag, all_fields}
use Rattle.ep_check_unit.specs.Declarations.{Fielded, Gathered, Labelled, ListJudged, Listed, DenoterPart, PartJudged, Section, VariantJudged, at_core, at_field_section, at_fields, at_plain, at_structure, at_type_denoter, at_variant, at_variant_part, completing_written, fields_judged, labels_noted, none_gathered, selection_of, tag_written, unless_left_out, variant_added, variant_judged, variant_list, variant_listing, variant_part, variant_part_written, variant_written, variants_after, variants_judged, variants_written}
use Rattle.ep_unit_rules.specs.declared.labels.TagValues.{TagValues}

pub map_length : {X Y : Type 0} (f : X → Y) (xs : List X) → length (map f xs) ≡ length xs
map_length f [] = refl
map_length f (x ∷ xs) = ap suc (map_length f xs)

-- ---- variants

-- a variant by its parts
variant_is : (v : VariantTree) → variant_judged v ≡ record { labels = (out-Variant v).labels; fields = fields_judged (out-Variant v).fields }
variant_is v = fold_out-Variant DenoterPart DenoterPart Section ListJudged DenoterPart DenoterPart VariantJudged PartJudged at_core at_structure at_field_section at_fields at_plain at_type_denoter at_variant at_variant_part v

-- one more
pub variant_taken : (line : ℕ) (t : TagValues) (v : VariantTree) (g : Gathered) (x : Labelled) (l : Listed) → labels_noted line t (out-Variant v).labels g.block g.labels ≡ Accepts x → fields_judged (out-Variant v).fields line x.block ≡ Accepts l
    → variant_written line t (variant_judged v) g ≡ Accepts (variant_added x.ranges x.labels l g)
variant_taken line t v g x l labels fields =
    ap (λ j. variant_written line t j g) (variant_is v)
    ∙ (ap (when_accepted (λ y. when_accepted (λ m. Accepts (variant_added y.ranges y.labels m g)) (fields_judged (out-Variant v).fields line y.block))) labels
    ∙ ap (when_accepted (λ m. Accepts (variant_added x.ranges x.labels m g))) fields)

-- a variant part by its parts
part_rolled : (at : ℕ) (s : VariantSelector) (vs : List VariantTree) (o : Option Fields) → variants_judged (roll-VariantPart (record { line = at; selector = s; variants = vs; otherwise = o })) ≡ variant_part_written s (map variant_judged vs) (option_map fields_judged o)
part_rolled at s vs None = fold-roll-VariantPart DenoterPart DenoterPart Section ListJudged DenoterPart DenoterPart VariantJudged PartJudged at_core at_structure at_field_section at_fields at_plain at_type_denoter at_variant at_variant_part (record { line = at; selector = s; variants = vs; otherwise = None })
part_rolled at s vs (Some f) = fold-roll-VariantPart DenoterPart DenoterPart Section ListJudged DenoterPart DenoterPart VariantJudged PartJudged at_core at_structure at_field_section at_fields at_plain at_type_denoter at_variant at_variant_part (record { line = at; selector = s; variants = vs; otherwise = Some f })

part_is : (p : VariantPartTree) → variants_judged p ≡ variant_part_written (out-VariantPart p).selector (map variant_judged (out-VariantPart p).variants) (option_map fields_judged (out-VariantPart p).otherwise)
part_is p = ap variants_judged (sym (roll-out-VariantPart p)) ∙ part_rolled (out-VariantPart p).line (out-VariantPart p).selector (out-VariantPart p).variants (out-VariantPart p).otherwise

-- its list is what its tag and its variants come to
pub part_taken : (line : ℕ) (p : VariantPartTree) (f : Fielded) (t : Tag) (g completed last : Gathered) → tag_written (out-VariantPart p).selector f.block ≡ Accepts t
    → variants_written line t.values (map variant_judged (out-VariantPart p).variants) (none_gathered f.block) ≡ Accepts g → completing_written line (option_map fields_judged (out-VariantPart p).otherwise) g ≡ Accepts completed → unless_left_out t.values completed ≡ Accepts last
    → variants_judged p line f ≡ variant_list f t last
part_taken line p f t g completed last tag variants other full =
    let vs = map variant_judged (out-VariantPart p).variants in
    let o = option_map fields_judged (out-VariantPart p).otherwise in
    ap (λ (j : PartJudged). j line f) (part_is p)
    ∙ (ap (when_accepted (variants_after line vs o f)) tag
    ∙ (ap (λ j. when_accepted (variant_list f t) (when_accepted (unless_left_out t.values) (when_accepted (completing_written line o) j))) variants
    ∙ (ap (λ j. when_accepted (variant_list f t) (when_accepted (unless_left_out t.values) j)) other ∙ ap (when_accepted (variant_list f t)) full)))

-- the list, by what it is made of
pub list_made : (own : List Field) (b : Block) (t : Tag) (g : Gathered) (s : Selection) (lists : List (List FieldType)) (fields : List FieldType) (denoted : List RecordField) (part : VariantPart) (nodes : ℕ)
    → s ≡ selection_of (length own) g → lists ≡ g.lists → all_fields s t own lists ≡ Accepts fields → denoted ≡ map record_field own → part ≡ variant_part t g → nodes ≡ counted (counted (fields_nodes 0 own) t.nodes) g.nodes
    → variant_list (record { fields = own; block = b }) t g ≡ Accepts (record { listing = record { part = roll-FieldPart (record { fields = denoted; variant_part = Some part }); fields = fields; nodes = nodes }; block = g.block })
list_made own b t g s lists fields denoted part nodes selection same accepted is_denoted is_part is_counted =
    let there : all_fields (selection_of (length own) g) t own g.lists ≡ Accepts fields =
    ap (λ x. all_fields x t own g.lists) (sym selection) ∙ (ap (all_fields s t own) (sym same) ∙ accepted) in
    ap (when_accepted (λ fs. Accepts (variant_listing (record { fields = own; block = b }) t g fs))) there ∙ rw (is_denoted, is_part, is_counted) refl
