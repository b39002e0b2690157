-- Tags, and the fields of variants beside those of the whole record (ISO 10206, 6.4.3.4).
use Rattle.std.specs.Prelude.{ℕ, ◌+◌, suc, Bool, false, ◌||◌, List}
use Rattle.std.specs.Prelude.{[], ◌∷◌, ◌++◌, map, Some, if◌then◌else◌}
use Rattle.std.specs.Str.{bytes_eq}
use Rattle.ep_typed.specs.declared.denoter.Denoter.{Denoter}
use Rattle.ep_typed.specs.declared.denoter.Denoter.TheVariants as denoter
use Rattle.ep_typed.specs.declared.tree.CaseRange.{CaseRange}
use Rattle.ep_typed.specs.declared.tree.Selection.{Selection}
use Rattle.ep_scope.specs.declared.kind.Host.TheVariants as host
use Rattle.ep_scope.specs.declared.kind.Kind.TheVariants as kind
use Rattle.ep_scope.specs.declared.parameter.TypeName.{TypeName}
use Rattle.ep_scope.specs.declared.rule.TheConstants as rule
use Rattle.ep_scope.specs.declared.structure.FieldType.{FieldType}
use Rattle.ep_rules.specs.Judgements.{Judged, Accepts, Breaks, when_accepted}
use Rattle.ep_unit_rules.specs.declared.labels.TagValues.{TagValues}
use Rattle.ep_unit_rules.specs.Types.{counted}
use Rattle.ep_unit_rules.specs.Records.{Field, own_fields}

-- a tag: its name, the denoter of its type, which type that is, its values, and how many nodes it has
pub record Tag : Type 0 where
  pub name : List ℕ
  pub denoter : Denoter
  pub of : TypeName
  pub values : TagValues
  pub nodes : ℕ

-- the nodes of a variant and of the bounds of its labels more
abbrev pub bounds_nodes : ℕ → List CaseRange → ℕ
bounds_nodes nodes [] = nodes
bounds_nodes nodes (r ∷ rs) = bounds_nodes (counted nodes 2) rs

abbrev pub variant_nodes : ℕ → List CaseRange → ℕ → ℕ
variant_nodes nodes ranges inner = counted (bounds_nodes (counted nodes 1) ranges) inner

-- a field of a variant of this number
abbrev pub inside : Selection → ℕ → FieldType → FieldType
inside s number f = record f { path = record { selection = s; variant = number } ∷ f.path }

-- whether one of these fields has the name
abbrev pub is_among_fields : List FieldType → List ℕ → Bool
is_among_fields [] name = false
is_among_fields (f ∷ fs) name = bytes_eq f.name name || is_among_fields fs name

-- A record has one list of field names, whatever variants they are in, and no two are the same (ISO 10206, 6.2.2.7 and
-- 6.4.3.4).
abbrev pub fields_joined : List FieldType → List FieldType → Judged (List FieldType)
fields_joined [] all = Accepts all
fields_joined (f ∷ fs) all =
    if is_among_fields all f.name then Breaks (rule.TWICE ∷ []) else fields_joined fs (all ++ f ∷ [])

-- the fields of variants from this number on more
abbrev pub variants_joined : Selection → ℕ → List (List FieldType) → List FieldType → Judged (List FieldType)
variants_joined s number [] all = Accepts all
variants_joined s number (fs ∷ more) all =
    when_accepted (variants_joined s (suc number) more) (fields_joined (map (inside s number) fs) all)

-- the tag as a field, in the component behind the other fields
abbrev pub tag_field : Selection → Tag → FieldType
tag_field s t =
    record {
      name = t.name;
      of = t.of;
      kind = kind.Ordinal t.values.host;
      path = [];
      number = s.tag;
      tag = Some (record { selection = s; host = t.values.host; low = t.values.low; high = t.values.high });
    }

-- the fields of a list with a variant part: its own, the tag, and those of the variants
abbrev pub all_fields : Selection → Tag → List Field → List (List FieldType) → Judged (List FieldType)
all_fields s t fields lists =
    when_accepted (variants_joined s 0 lists) (fields_joined (tag_field s t ∷ []) (own_fields 0 fields))
