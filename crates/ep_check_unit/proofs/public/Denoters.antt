-- What the rules of each denoter keep holds of all denoters, by the tree.
use Rattle.std.proofs.Common.{ℕ, true, false, List, [], ◌∷◌, map, Option, Some, None, sym, subst}
use Rattle.std.specs.Prelude.{⊤}
use Rattle.ep_tree.specs.declared.expression.ComponentValue.{ComponentValue}
use Rattle.ep_tree.specs.declared.expression.Expression.{Expression}
use Rattle.ep_tree.specs.declared.operator.QualifiedName.{QualifiedName}
use Rattle.ep_tree.specs.declared.types.Core.TheFolds.{fold-roll-Core, fold-roll-FieldSection, fold-roll-Fields, fold-roll-Plain, fold-roll-Structure, fold-roll-TypeDenoter, fold-roll-Variant, fold-roll-VariantPart, fold_out-Plain, fold_out-TypeDenoter, ind-Core}
use Rattle.ep_tree.specs.declared.types.Core.TheOpen.{Core-F, FieldSection-F, Fields-F, Plain-F, Structure-F, TypeDenoter-F, Variant-F, VariantPart-F}
use Rattle.ep_tree.specs.declared.types.Core.{Core, map-Core, roll-Core}
use Rattle.ep_tree.specs.declared.types.FieldSection.{FieldSection, map-FieldSection, roll-FieldSection}
use Rattle.ep_tree.specs.declared.types.Fields.{Fields, map-Fields, roll-Fields}
use Rattle.ep_tree.specs.declared.types.Plain.{Plain, map-Plain, out-Plain, roll-Plain}
use Rattle.ep_tree.specs.declared.types.Structure.{Structure, map-Structure, roll-Structure}
use Rattle.ep_tree.specs.declared.types.TypeDenoter.{TypeDenoter, map-TypeDenoter, out-TypeDenoter, roll-TypeDenoter}
use Rattle.ep_tree.specs.declared.types.Variant.{Variant, map-Variant, roll-Variant}
use Rattle.ep_tree.specs.declared.types.VariantPart.{VariantPart, map-VariantPart, roll-VariantPart}
use Rattle.ep_tree.specs.declared.types.VariantSelector.{VariantSelector}
use Rattle.ep_check_expr.specs.Constants.{bound_judged}
use Rattle.ep_rules.specs.Judgements.{both}
use Rattle.ep_check_unit.specs.Declarations.{ListJudged, DenoterPart, PartJudged, Section, VariantJudged, array_part, array_written, at_core, at_field_section, at_fields, at_plain, at_structure, at_type_denoter, at_variant, at_variant_part, begun, core_part, denoter_part, enumeration, fields_judged, list_written, plain_part, range, record_written, scopes_of, set_written, section_part, structure_part, structured, type_named, unbuilt_part, variant_judged, variant_part_written, variants_judged}

-- the parts of denoters
abbrev pub name_part : QualifiedName → DenoterPart
name_part name = record { is_name = true; written = λ line b. type_named name.first name.second b }

abbrev pub range_part : Expression → Expression → DenoterPart
range_part low high = record { is_name = false; written = λ line b. both (range line b) (bound_judged (scopes_of b) low) (bound_judged (scopes_of b) high) }

abbrev pub enumeration_part : List (List ℕ) → DenoterPart
enumeration_part names = record { is_name = false; written = λ line b. enumeration names b }

abbrev pub over_part : DenoterPart → DenoterPart → DenoterPart
over_part index of = record { is_name = false; written = array_written index of }

abbrev pub record_part : ListJudged → DenoterPart
record_part fields = record { is_name = false; written = record_written fields }

abbrev pub set_part : DenoterPart → DenoterPart
set_part base = record { is_name = false; written = set_written base }

-- the types of all sections have it
abbrev pub AreKept : (DenoterPart → Type 0) → List Section → Type 0
AreKept P [] = ⊤
AreKept P (s ∷ ss) = P s.of × AreKept P ss

-- the one that there may be has it
abbrev pub IsKeptIf : {A : Type 0} → (A → Type 0) → Option A → Type 0
IsKeptIf P None = ⊤
IsKeptIf P (Some a) = P a

-- the fields of all variants have it
abbrev pub AreVariantsKept : (ListJudged → Type 0) → List VariantJudged → Type 0
AreVariantsKept L [] = ⊤
AreVariantsKept L (v ∷ vs) = L v.fields × AreVariantsKept L vs

-- each rule keeps it, of denoters, of lists of fields, and of variant parts
pub record KeptByDenoters (P : DenoterPart → Type 0) (L : ListJudged → Type 0) (Q : PartJudged → Type 0) : Type 0 where
  pub names : (name : QualifiedName) → P (name_part name)
  pub ranges : (low high : Expression) → P (range_part low high)
  pub enumerations : (names : List (List ℕ)) → P (enumeration_part names)
  pub others : P unbuilt_part
  pub arrays : (index of : DenoterPart) → P index → P of → P (over_part index of)
  pub lists : (sections : List Section) (part : Option PartJudged) → AreKept P sections → IsKeptIf Q part → L (list_written sections part)
  pub variants : (s : VariantSelector) (variants : List VariantJudged) (other : Option ListJudged) → AreVariantsKept L variants → IsKeptIf L other → Q (variant_part_written s variants other)
  pub records : (fields : ListJudged) → L fields → P (record_part fields)
  pub sets : (base : DenoterPart) → P base → P (set_part base)
  pub structures : (p : DenoterPart) → P p → P (structured p)
  pub initial_states : (p : DenoterPart) (v : ComponentValue) → P p → P (begun p (Some v))

module _ (P : DenoterPart → Type 0) (L : ListJudged → Type 0) (Q : PartJudged → Type 0) (kept : KeptByDenoters P L Q) where
  abbrev OfCore : Core → Type 0
  OfCore c = P (core_part c)

  abbrev OfStructure : Structure → Type 0
  OfStructure s = P (structure_part s)

  abbrev OfSection : FieldSection → Type 0
  OfSection s = P (section_part s).of

  abbrev OfFields : Fields → Type 0
  OfFields f = L (fields_judged f)

  abbrev OfPlain : Plain → Type 0
  OfPlain p = P (plain_part p)

  abbrev OfDenoter : TypeDenoter → Type 0
  OfDenoter t = P (denoter_part t)

  abbrev OfVariant : Variant → Type 0
  OfVariant v = L (variant_judged v).fields

  abbrev OfVariants : VariantPart → Type 0
  OfVariants p = Q (variants_judged p)

  -- nodes of which this holds
  abbrev KeptCore : Type 0
  KeptCore = (c : Core) × OfCore c

  abbrev KeptStructure : Type 0
  KeptStructure = (s : Structure) × OfStructure s

  abbrev KeptSection : Type 0
  KeptSection = (s : FieldSection) × OfSection s

  abbrev KeptFields : Type 0
  KeptFields = (f : Fields) × OfFields f

  abbrev KeptPlain : Type 0
  KeptPlain = (p : Plain) × OfPlain p

  abbrev KeptDenoter : Type 0
  KeptDenoter = (t : TypeDenoter) × OfDenoter t

  abbrev KeptVariant : Type 0
  KeptVariant = (v : Variant) × OfVariant v

  abbrev KeptVariants : Type 0
  KeptVariants = (p : VariantPart) × OfVariants p

  -- layers of such nodes, without what holds of them
  abbrev core_layer : Core-F KeptCore KeptStructure KeptSection KeptFields KeptPlain KeptDenoter KeptVariant KeptVariants → Core-F Core Structure FieldSection Fields Plain TypeDenoter Variant VariantPart
  core_layer = map-Core KeptCore KeptStructure KeptSection KeptFields KeptPlain KeptDenoter KeptVariant KeptVariants Core Structure FieldSection Fields Plain TypeDenoter Variant VariantPart (λ e. e.0) (λ e. e.0) (λ e. e.0) (λ e. e.0) (λ e. e.0) (λ e. e.0) (λ e. e.0) (λ e. e.0)

  abbrev structure_layer : Structure-F KeptCore KeptStructure KeptSection KeptFields KeptPlain KeptDenoter KeptVariant KeptVariants → Structure-F Core Structure FieldSection Fields Plain TypeDenoter Variant VariantPart
  structure_layer = map-Structure KeptCore KeptStructure KeptSection KeptFields KeptPlain KeptDenoter KeptVariant KeptVariants Core Structure FieldSection Fields Plain TypeDenoter Variant VariantPart (λ e. e.0) (λ e. e.0) (λ e. e.0) (λ e. e.0) (λ e. e.0) (λ e. e.0) (λ e. e.0) (λ e. e.0)

  abbrev plain_layer : Plain-F KeptCore KeptStructure KeptSection KeptFields KeptPlain KeptDenoter KeptVariant KeptVariants → Plain-F Core Structure FieldSection Fields Plain TypeDenoter Variant VariantPart
  plain_layer = map-Plain KeptCore KeptStructure KeptSection KeptFields KeptPlain KeptDenoter KeptVariant KeptVariants Core Structure FieldSection Fields Plain TypeDenoter Variant VariantPart (λ e. e.0) (λ e. e.0) (λ e. e.0) (λ e. e.0) (λ e. e.0) (λ e. e.0) (λ e. e.0) (λ e. e.0)

  abbrev section_layer : FieldSection-F KeptCore KeptStructure KeptSection KeptFields KeptPlain KeptDenoter KeptVariant KeptVariants → FieldSection-F Core Structure FieldSection Fields Plain TypeDenoter Variant VariantPart
  section_layer = map-FieldSection KeptCore KeptStructure KeptSection KeptFields KeptPlain KeptDenoter KeptVariant KeptVariants Core Structure FieldSection Fields Plain TypeDenoter Variant VariantPart (λ e. e.0) (λ e. e.0) (λ e. e.0) (λ e. e.0) (λ e. e.0) (λ e. e.0) (λ e. e.0) (λ e. e.0)

  abbrev fields_layer : Fields-F KeptCore KeptStructure KeptSection KeptFields KeptPlain KeptDenoter KeptVariant KeptVariants → Fields-F Core Structure FieldSection Fields Plain TypeDenoter Variant VariantPart
  fields_layer = map-Fields KeptCore KeptStructure KeptSection KeptFields KeptPlain KeptDenoter KeptVariant KeptVariants Core Structure FieldSection Fields Plain TypeDenoter Variant VariantPart (λ e. e.0) (λ e. e.0) (λ e. e.0) (λ e. e.0) (λ e. e.0) (λ e. e.0) (λ e. e.0) (λ e. e.0)

  abbrev denoter_layer : TypeDenoter-F KeptCore KeptStructure KeptSection KeptFields KeptPlain KeptDenoter KeptVariant KeptVariants → TypeDenoter-F Core Structure FieldSection Fields Plain TypeDenoter Variant VariantPart
  denoter_layer = map-TypeDenoter KeptCore KeptStructure KeptSection KeptFields KeptPlain KeptDenoter KeptVariant KeptVariants Core Structure FieldSection Fields Plain TypeDenoter Variant VariantPart (λ e. e.0) (λ e. e.0) (λ e. e.0) (λ e. e.0) (λ e. e.0) (λ e. e.0) (λ e. e.0) (λ e. e.0)

  abbrev variant_layer : Variant-F KeptCore KeptStructure KeptSection KeptFields KeptPlain KeptDenoter KeptVariant KeptVariants → Variant-F Core Structure FieldSection Fields Plain TypeDenoter Variant VariantPart
  variant_layer = map-Variant KeptCore KeptStructure KeptSection KeptFields KeptPlain KeptDenoter KeptVariant KeptVariants Core Structure FieldSection Fields Plain TypeDenoter Variant VariantPart (λ e. e.0) (λ e. e.0) (λ e. e.0) (λ e. e.0) (λ e. e.0) (λ e. e.0) (λ e. e.0) (λ e. e.0)

  abbrev variants_layer : VariantPart-F KeptCore KeptStructure KeptSection KeptFields KeptPlain KeptDenoter KeptVariant KeptVariants → VariantPart-F Core Structure FieldSection Fields Plain TypeDenoter Variant VariantPart
  variants_layer = map-VariantPart KeptCore KeptStructure KeptSection KeptFields KeptPlain KeptDenoter KeptVariant KeptVariants Core Structure FieldSection Fields Plain TypeDenoter Variant VariantPart (λ e. e.0) (λ e. e.0) (λ e. e.0) (λ e. e.0) (λ e. e.0) (λ e. e.0) (λ e. e.0) (λ e. e.0)

  -- the sections of a record
  sections_kept : (ss : List KeptSection) → AreKept P (map section_part (map (λ s. s.0) ss))
  sections_kept [] = tt
  sections_kept (s ∷ ss) = (s.1, sections_kept ss)

  -- the variants of a variant part
  variants_kept : (vs : List KeptVariant) → AreVariantsKept L (map variant_judged (map (λ v. v.0) vs))
  variants_kept [] = tt
  variants_kept (v ∷ vs) = (v.1, variants_kept vs)

  -- an array of several index types
  arrays_kept : (of : DenoterPart) → P of → (is : List KeptPlain) → P (array_part of (map plain_part (map (λ p. p.0) is)))
  arrays_kept of o [] = o
  arrays_kept of o (i ∷ is) = kept.arrays (plain_part i.0) (array_part of (map plain_part (map (λ p. p.0) is))) i.1 (arrays_kept of o is)

  core_kept : (y : Core-F KeptCore KeptStructure KeptSection KeptFields KeptPlain KeptDenoter KeptVariant KeptVariants) → OfCore (roll-Core (core_layer y))
  core_kept (Core-F.Named at name tuple) = subst P (sym (fold-roll-Core DenoterPart DenoterPart Section ListJudged DenoterPart DenoterPart VariantJudged PartJudged at_core at_structure at_field_section at_fields at_plain at_type_denoter at_variant at_variant_part (Core-F.Named at name tuple))) (kept.names name)
  core_kept (Core-F.Range at low high) = subst P (sym (fold-roll-Core DenoterPart DenoterPart Section ListJudged DenoterPart DenoterPart VariantJudged PartJudged at_core at_structure at_field_section at_fields at_plain at_type_denoter at_variant at_variant_part (Core-F.Range at low high))) (kept.ranges low high)
  core_kept (Core-F.Enumeration at names) = subst P (sym (fold-roll-Core DenoterPart DenoterPart Section ListJudged DenoterPart DenoterPart VariantJudged PartJudged at_core at_structure at_field_section at_fields at_plain at_type_denoter at_variant at_variant_part (Core-F.Enumeration at names))) (kept.enumerations names)
  core_kept (Core-F.Pointer at name) = subst P (sym (fold-roll-Core DenoterPart DenoterPart Section ListJudged DenoterPart DenoterPart VariantJudged PartJudged at_core at_structure at_field_section at_fields at_plain at_type_denoter at_variant at_variant_part (Core-F.Pointer at name))) kept.others
  core_kept (Core-F.Structured at packed structure) = subst P (sym (fold-roll-Core DenoterPart DenoterPart Section ListJudged DenoterPart DenoterPart VariantJudged PartJudged at_core at_structure at_field_section at_fields at_plain at_type_denoter at_variant at_variant_part (Core-F.Structured at packed structure.0))) structure.1
  core_kept (Core-F.Restricted at name) = subst P (sym (fold-roll-Core DenoterPart DenoterPart Section ListJudged DenoterPart DenoterPart VariantJudged PartJudged at_core at_structure at_field_section at_fields at_plain at_type_denoter at_variant at_variant_part (Core-F.Restricted at name))) kept.others
  core_kept (Core-F.TypeOf at name) = subst P (sym (fold-roll-Core DenoterPart DenoterPart Section ListJudged DenoterPart DenoterPart VariantJudged PartJudged at_core at_structure at_field_section at_fields at_plain at_type_denoter at_variant at_variant_part (Core-F.TypeOf at name))) kept.others

  structure_kept : (y : Structure-F KeptCore KeptStructure KeptSection KeptFields KeptPlain KeptDenoter KeptVariant KeptVariants) → OfStructure (roll-Structure (structure_layer y))
  structure_kept (Structure-F.Array at indexes component) = subst P (sym (fold-roll-Structure DenoterPart DenoterPart Section ListJudged DenoterPart DenoterPart VariantJudged PartJudged at_core at_structure at_field_section at_fields at_plain at_type_denoter at_variant at_variant_part (Structure-F.Array at (map (λ p. p.0) indexes) component.0))) (kept.structures (array_part (plain_part component.0) (map plain_part (map (λ p. p.0) indexes))) (arrays_kept (plain_part component.0) component.1 indexes))
  structure_kept (Structure-F.Record at fields) = subst P (sym (fold-roll-Structure DenoterPart DenoterPart Section ListJudged DenoterPart DenoterPart VariantJudged PartJudged at_core at_structure at_field_section at_fields at_plain at_type_denoter at_variant at_variant_part (Structure-F.Record at fields.0))) (kept.records (fields_judged fields.0) fields.1)
  structure_kept (Structure-F.Set at base) = subst P (sym (fold-roll-Structure DenoterPart DenoterPart Section ListJudged DenoterPart DenoterPart VariantJudged PartJudged at_core at_structure at_field_section at_fields at_plain at_type_denoter at_variant at_variant_part (Structure-F.Set at base.0))) (kept.sets (plain_part base.0) base.1)

  section_kept : (y : FieldSection-F KeptCore KeptStructure KeptSection KeptFields KeptPlain KeptDenoter KeptVariant KeptVariants) → OfSection (roll-FieldSection (section_layer y))
  section_kept y = subst (λ (s : Section). P s.of) (sym (fold-roll-FieldSection DenoterPart DenoterPart Section ListJudged DenoterPart DenoterPart VariantJudged PartJudged at_core at_structure at_field_section at_fields at_plain at_type_denoter at_variant at_variant_part (section_layer y))) y.of.1

  fields_kept : (at : ℕ) (ss : List KeptSection) (v : Option KeptVariants) → OfFields (roll-Fields (fields_layer (record { line = at; sections = ss; variants = v })))
  fields_kept at ss None = subst L (sym (fold-roll-Fields DenoterPart DenoterPart Section ListJudged DenoterPart DenoterPart VariantJudged PartJudged at_core at_structure at_field_section at_fields at_plain at_type_denoter at_variant at_variant_part (fields_layer (record { line = at; sections = ss; variants = None })))) (kept.lists (map section_part (map (λ s. s.0) ss)) None (sections_kept ss) tt)
  fields_kept at ss (Some v) = subst L (sym (fold-roll-Fields DenoterPart DenoterPart Section ListJudged DenoterPart DenoterPart VariantJudged PartJudged at_core at_structure at_field_section at_fields at_plain at_type_denoter at_variant at_variant_part (fields_layer (record { line = at; sections = ss; variants = Some v })))) (kept.lists (map section_part (map (λ s. s.0) ss)) (Some (variants_judged v.0)) (sections_kept ss) v.1)

  variant_kept : (y : Variant-F KeptCore KeptStructure KeptSection KeptFields KeptPlain KeptDenoter KeptVariant KeptVariants) → OfVariant (roll-Variant (variant_layer y))
  variant_kept y = subst (λ (v : VariantJudged). L v.fields) (sym (fold-roll-Variant DenoterPart DenoterPart Section ListJudged DenoterPart DenoterPart VariantJudged PartJudged at_core at_structure at_field_section at_fields at_plain at_type_denoter at_variant at_variant_part (variant_layer y))) y.fields.1

  variant_part_kept : (at : ℕ) (s : VariantSelector) (vs : List KeptVariant) (other : Option KeptFields) → OfVariants (roll-VariantPart (variants_layer (record { line = at; selector = s; variants = vs; otherwise = other })))
  variant_part_kept at s vs None = subst Q (sym (fold-roll-VariantPart DenoterPart DenoterPart Section ListJudged DenoterPart DenoterPart VariantJudged PartJudged at_core at_structure at_field_section at_fields at_plain at_type_denoter at_variant at_variant_part (variants_layer (record { line = at; selector = s; variants = vs; otherwise = None })))) (kept.variants s (map variant_judged (map (λ v. v.0) vs)) None (variants_kept vs) tt)
  variant_part_kept at s vs (Some f) = subst Q (sym (fold-roll-VariantPart DenoterPart DenoterPart Section ListJudged DenoterPart DenoterPart VariantJudged PartJudged at_core at_structure at_field_section at_fields at_plain at_type_denoter at_variant at_variant_part (variants_layer (record { line = at; selector = s; variants = vs; otherwise = Some f })))) (kept.variants s (map variant_judged (map (λ v. v.0) vs)) (Some (fields_judged f.0)) (variants_kept vs) f.1)

  denoter_kept : (at : ℕ) (p : KeptPlain) (v : Option ComponentValue) → OfDenoter (roll-TypeDenoter (denoter_layer (record { line = at; plain = p; initial = v })))
  denoter_kept at p None = subst P (sym (fold-roll-TypeDenoter DenoterPart DenoterPart Section ListJudged DenoterPart DenoterPart VariantJudged PartJudged at_core at_structure at_field_section at_fields at_plain at_type_denoter at_variant at_variant_part (denoter_layer (record { line = at; plain = p; initial = None })))) p.1
  denoter_kept at p (Some v) = subst P (sym (fold-roll-TypeDenoter DenoterPart DenoterPart Section ListJudged DenoterPart DenoterPart VariantJudged PartJudged at_core at_structure at_field_section at_fields at_plain at_type_denoter at_variant at_variant_part (denoter_layer (record { line = at; plain = p; initial = Some v })))) (kept.initial_states (plain_part p.0) v p.1)

  plain_kept : (y : Plain-F KeptCore KeptStructure KeptSection KeptFields KeptPlain KeptDenoter KeptVariant KeptVariants) → OfPlain (roll-Plain (plain_layer y))
  plain_kept y = subst P (sym (fold-roll-Plain DenoterPart DenoterPart Section ListJudged DenoterPart DenoterPart VariantJudged PartJudged at_core at_structure at_field_section at_fields at_plain at_type_denoter at_variant at_variant_part (plain_layer y))) y.core.1

  -- so it holds of all
  pub each_denoter : (c : Core) → P (core_part c)
  each_denoter =
      ind-Core OfCore OfStructure OfSection OfFields OfPlain OfDenoter OfVariant OfVariants
      (λ x y is. subst (λ z. OfCore (roll-Core z)) is (core_kept y))
      (λ x y is. subst (λ z. OfStructure (roll-Structure z)) is (structure_kept y))
      (λ x y is. subst (λ z. OfSection (roll-FieldSection z)) is (section_kept y))
      (λ x y is. subst (λ z. OfFields (roll-Fields z)) is (fields_kept y.line y.sections y.variants))
      (λ x y is. subst (λ z. OfPlain (roll-Plain z)) is (plain_kept y))
      (λ x y is. subst (λ z. OfDenoter (roll-TypeDenoter z)) is (denoter_kept y.line y.plain y.initial))
      (λ x y is. subst (λ z. OfVariant (roll-Variant z)) is (variant_kept y))
      (λ x y is. subst (λ z. OfVariants (roll-VariantPart z)) is (variant_part_kept y.line y.selector y.variants y.otherwise))

  -- and of each without its initial state
  each_plain : (p : Plain) → P (plain_part p)
  each_plain p = subst P (sym (fold_out-Plain DenoterPart DenoterPart Section ListJudged DenoterPart DenoterPart VariantJudged PartJudged at_core at_structure at_field_section at_fields at_plain at_type_denoter at_variant at_variant_part p)) (each_denoter (out-Plain p).core)

  each_begun : (p : DenoterPart) (v : Option ComponentValue) → P p → P (begun p v)
  each_begun p None h = h
  each_begun p (Some v) h = kept.initial_states p v h

  -- so it holds of all with one
  pub each_type : (t : TypeDenoter) → P (denoter_part t)
  each_type t = subst P (sym (fold_out-TypeDenoter DenoterPart DenoterPart Section ListJudged DenoterPart DenoterPart VariantJudged PartJudged at_core at_structure at_field_section at_fields at_plain at_type_denoter at_variant at_variant_part t)) (each_begun (plain_part (out-TypeDenoter t).plain) (out-TypeDenoter t).initial (each_plain (out-TypeDenoter t).plain))
