-- The fields of a record are written section by section, from left to right.
use Rattle.std.proofs.Common.{◌≡◌, ℕ, ◌+◌, ◌<◌, List, map, length, drop, get_or, None, sym, ap, ◌∙◌, subst}
use Rattle.ep_built.specs.Built as built
use Rattle.ep_built.specs.Built.{Found, field_section_unbuilt, type_denoter_unbuilt}
use Rattle.ep_tree.specs.declared.types.Core.TheFolds.{fold_out-FieldSection}
use Rattle.ep_tree.specs.declared.types.FieldSection.{FieldSection, out-FieldSection}
use Rattle.ep_tree.specs.declared.types.TypeDenoter.{TypeDenoter}
use Rattle.ep_rules.specs.Judgements.{Judged, Accepts, when_accepted}
use Rattle.ep_rules.specs.declared.forms.Refusal.{Refusal}
use Rattle.ep_rules.specs.Answers.{Refuses}
use Rattle.ep_rules.proofs.public.Refusing.{part_refused}
use Rattle.ep_stmt_rules.proofs.public.judged.Rounds.{next_item}
use Rattle.ep_unit_rules.specs.Answers.{field_in, field_named}
use Rattle.ep_check_unit.specs.Answers.{fields_in, named_in}
use Rattle.ep_check_unit.specs.Blocks.{Block}
use Rattle.ep_unit_rules.specs.Records.{fields_named}
use Rattle.ep_check_unit.specs.Declarations.{Fielded, ListJudged, DenoterPart, PartJudged, Section, VariantJudged, Written, at_core, at_field_section, at_fields, at_plain, at_structure, at_type_denoter, at_variant, at_variant_part, denoter_part, field_of, section_part, section_written, sections_written, settled_part}
use Rattle.ep_unit_rules.specs.declared.records.WrittenField.{WrittenField}
use Rattle.ep_unit_rules.specs.declared.types.NamedType.{NamedType}

-- the type of a section
abbrev pub type_in : FieldSection → TypeDenoter
type_in s = (out-FieldSection s).of

-- a section by its parts
section_is : (s : FieldSection) → section_part s ≡ record { names = (out-FieldSection s).names; of = denoter_part (type_in s) }
section_is s = fold_out-FieldSection DenoterPart DenoterPart Section ListJudged DenoterPart DenoterPart VariantJudged PartJudged at_core at_structure at_field_section at_fields at_plain at_type_denoter at_variant at_variant_part s

-- where a section is built, its type is
pub section_built : (s : FieldSection) → field_section_unbuilt s ≡ None → type_denoter_unbuilt (type_in s) ≡ None
section_built s h = sym (fold_out-FieldSection Found Found Found Found Found Found Found Found built.at_core built.at_structure built.at_field_section built.at_fields built.at_plain built.at_type_denoter built.at_variant built.at_variant_part s) ∙ h

module _ (line : ℕ) (sections : List FieldSection) (n : ℕ) (s : FieldSection) (within : n < length sections) (is : s ≡ get_or sections n s) (b : Block) (all : List WrittenField) where
  -- the sections behind
  abbrev rest : List Section
  rest = map section_part (drop (n + 1) sections)

  -- fields of a type that is settled
  abbrev fields_with : Written → Judged Fielded
  fields_with w = when_accepted (λ fields. Accepts (record { fields = fields; block = w.block })) (fields_named (field_of w) (out-FieldSection s).names (map field_in all))

  -- the next section, and those behind it
  next : sections_written line (map section_part (drop n sections)) (fields_in b all) ≡ when_accepted (sections_written line rest) (when_accepted fields_with (settled_part (denoter_part (type_in s)) line b))
  next =
      ap (λ xs. sections_written line (map section_part xs) (fields_in b all)) (next_item sections n s within is)
      ∙ ap (λ x. when_accepted (sections_written line rest) (section_written line x (fields_in b all))) (section_is s)

  -- its type is refused
  pub type_refused : (e : Refusal) → Refuses e (settled_part (denoter_part (type_in s)) line b) → Refuses e (sections_written line (map section_part (drop n sections)) (fields_in b all))
  type_refused e h =
      subst (Refuses e) (sym next) (part_refused (sections_written line rest) e (when_accepted fields_with (settled_part (denoter_part (type_in s)) line b)) (part_refused fields_with e (settled_part (denoter_part (type_in s)) line b) h))

  module _ (of : NamedType) (new : Block) (settles : settled_part (denoter_part (type_in s)) line b ≡ Accepts (named_in new of)) where
    named : when_accepted fields_with (settled_part (denoter_part (type_in s)) line b) ≡ when_accepted (λ fields. Accepts (record { fields = fields; block = new })) (fields_named (field_named of) (out-FieldSection s).names (map field_in all))
    named = ap (when_accepted fields_with) settles

    -- a name of it is
    pub names_refused : (e : Refusal) → Refuses e (fields_named (field_named of) (out-FieldSection s).names (map field_in all)) → Refuses e (sections_written line (map section_part (drop n sections)) (fields_in b all))
    names_refused e h =
        subst (Refuses e) (sym next)
        (part_refused (sections_written line rest) e (when_accepted fields_with (settled_part (denoter_part (type_in s)) line b))
        (subst (Refuses e) (sym named) (part_refused (λ fields. Accepts (record { fields = fields; block = new })) e (fields_named (field_named of) (out-FieldSection s).names (map field_in all)) h)))

    -- it is accepted
    pub next_section : (pushed : List WrittenField) → fields_named (field_named of) (out-FieldSection s).names (map field_in all) ≡ Accepts (map field_in pushed)
        → sections_written line rest (fields_in new pushed) ≡ sections_written line (map section_part (drop n sections)) (fields_in b all)
    next_section pushed names =
        sym (next ∙ (ap (when_accepted (sections_written line rest)) named ∙ ap (λ j. when_accepted (sections_written line rest) (when_accepted (λ fields. Accepts (record { fields = fields; block = new })) j)) names))
