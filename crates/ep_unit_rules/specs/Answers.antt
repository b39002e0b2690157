-- What the functions answer of parts that are written.
use Rattle.std.specs.Prelude.{◌≡◌, ℕ, List, Result, Ok, Err}
use Rattle.ep_typed.specs.declared.denoter.Denoter.{Denoter}
use Rattle.ep_rules.specs.Judgements.{Judged, Accepts}
use Rattle.ep_rules.specs.declared.forms.Refusal.{Refusal}
use Rattle.ep_rules.specs.Answers.{Refuses}
use Rattle.ep_unit_rules.specs.Records.{Field}
use Rattle.ep_unit_rules.specs.Types.{type_denoter}
use Rattle.ep_unit_rules.specs.Variants as variants
use Rattle.ep_unit_rules.specs.declared.types.IndexType.{IndexType}
use Rattle.ep_unit_rules.specs.declared.types.NamedType.{NamedType}
use Rattle.ep_unit_rules.specs.declared.labels.Labels.{Labels}
use Rattle.ep_unit_rules.specs.declared.labels.TagValues.{TagValues}
use Rattle.ep_unit_rules.specs.declared.records.WrittenField.{WrittenField}
use Rattle.ep_unit_rules.specs.declared.variants.Tag.{Tag}

-- an index type, as the denoter of an array has it
abbrev pub index_of : IndexType → Denoter × ℕ × TagValues
index_of i = (type_denoter i.name, i.nodes, i.values)

-- a field that is written
abbrev pub field_in : WrittenField → Field
field_in f =
    record { name = f.name; denoter = type_denoter f.of.name; of = f.of.of; kind = f.of.kind; nodes = f.of.nodes }

-- the labels after what is judged, exactly where it is accepted, or a refusal
abbrev pub AnswersLabels : Result (Unit {0}) Refusal → Labels → Judged Labels → Type 0
AnswersLabels (Ok done) new judged = judged ≡ Accepts new
AnswersLabels (Err refusal) new judged = Refuses refusal judged

-- a tag that is written
abbrev pub tag_in : Tag → variants.Tag
tag_in t =
    record {
      name = t.name.now;
      denoter = type_denoter t.of.name;
      of = t.of.of;
      values = t.values;
      nodes = t.of.nodes;
    }

-- fields of a type that is written
abbrev pub field_named : NamedType → List ℕ → Field
field_named t name =
    record { name = name; denoter = type_denoter t.name; of = t.of; kind = t.kind; nodes = t.nodes }
