-- Fields of records that are written: their names, and how a list without variants is denoted.
use Rattle.std.specs.Prelude.{ℕ, ◌+◌, suc, Bool, false, ◌||◌, List}
use Rattle.std.specs.Prelude.{[], ◌∷◌, ◌++◌, map, Option, None, if◌then◌else◌}
use Rattle.std.specs.Str.{bytes_eq}
use Rattle.ep_typed.specs.declared.denoter.Denoter.{Denoter}
use Rattle.ep_typed.specs.declared.denoter.Denoter.TheVariants as denoter
use Rattle.ep_typed.specs.declared.denoter.FieldPart.{FieldPart, roll-FieldPart}
use Rattle.ep_typed.specs.declared.denoter.RecordField.{RecordField, roll-RecordField}
use Rattle.ep_typed.specs.declared.denoter.VariantPart.{VariantPart}
use Rattle.ep_scope.specs.declared.kind.Kind.{Kind}
use Rattle.ep_scope.specs.declared.kind.Kind.TheVariants as kind
use Rattle.ep_scope.specs.declared.parameter.TypeName.{TypeName}
use Rattle.ep_scope.specs.declared.rule.TheConstants as rule
use Rattle.ep_scope.specs.declared.structure.FieldType.{FieldType}
use Rattle.ep_rules.specs.Judgements.{Judged, Accepts, Breaks}
use Rattle.ep_unit_rules.specs.Types.{counted}

-- a field of a record: its name, the denoter of its type, which type it is, its kind and how many nodes it has
pub record Field : Type 0 where
  pub name : List ℕ
  pub denoter : Denoter
  pub of : TypeName
  pub kind : Kind
  pub nodes : ℕ

-- whether a field has the name
abbrev pub has_field : List Field → List ℕ → Bool
has_field [] name = false
has_field (f ∷ fs) name = bytes_eq f.name name || has_field fs name

-- fields more, no two of one name (ISO 10206, 6.2.2.7 and 6.4.3.4)
abbrev pub fields_named : (List ℕ → Field) → List (List ℕ) → List Field → Judged (List Field)
fields_named field [] fields = Accepts fields
fields_named field (name ∷ names) fields =
    if has_field fields name then Breaks (rule.TWICE ∷ []) else fields_named field names (fields ++ field name ∷ [])

-- a field, as a denoter has it
abbrev pub record_field : Field → RecordField
record_field f = roll-RecordField (record { name = f.name; denoter = f.denoter })

-- the fields that are none of a variant, as the rules see them, from this number on
abbrev pub own_fields : ℕ → List Field → List FieldType
own_fields number [] = []
own_fields number (f ∷ fs) =
    record { name = f.name; of = f.of; kind = f.kind; path = []; number = number; tag = None }
    ∷ own_fields (suc number) fs

-- these nodes and those of these fields
abbrev pub fields_nodes : ℕ → List Field → ℕ
fields_nodes nodes [] = nodes
fields_nodes nodes (f ∷ fs) = fields_nodes (counted nodes f.nodes) fs

abbrev pub field_part : List Field → Option VariantPart → FieldPart
field_part fields variants = roll-FieldPart (record { fields = map record_field fields; variant_part = variants })
