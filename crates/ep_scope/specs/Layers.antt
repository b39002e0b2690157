-- The records that `with` statements open, and how the code finds their fields (ISO 10206, 6.9.3.10).
use Rattle.std.specs.Prelude.{◌≡◌, ◌<◌, ◌++◌, ⊤, ℕ, List, [], ◌∷◌, length, nat_lt, slice_get}
use Rattle.std.specs.Prelude.{Option, Some, None, if◌then◌else◌}
use Rattle.std.specs.Global.{Vec}
use Rattle.std.specs.Map.{lookup}
use Rattle.std.specs.Option.{option_or}
use Rattle.std.specs.Str.{bytes_eq}
use Rattle.ep_scope.specs.Fields.{field_number}
use Rattle.ep_scope.specs.Records.{open_of}
use Rattle.ep_scope.specs.Scopes as scope
use Rattle.ep_scope.specs.Scopes.{field_among, field_at, field_or}
use Rattle.ep_scope.specs.declared.layer.FieldPlace.{FieldPlace}
use Rattle.ep_scope.specs.declared.layer.FieldTable.{FieldTable}
use Rattle.ep_scope.specs.declared.layer.Layer.{Layer}
use Rattle.ep_scope.specs.declared.record.OpenRecord.{OpenRecord}
use Rattle.ep_scope.specs.declared.structure.FieldType.{FieldType}

-- ---- the records of layers

-- records of which the last one is the innermost, inside of others
abbrev pub inside_out : List OpenRecord → List scope.OpenRecord → List scope.OpenRecord
inside_out [] around = around
inside_out (r ∷ rs) around = inside_out rs (open_of r ∷ around)

-- a layer, where there is one, inside of others
abbrev pub layers_in : Option Layer → List Layer → List Layer
layers_in None around = around
layers_in (Some l) around = l ∷ around

-- the records of layers, of which the first one is the innermost
abbrev pub records_of : List Layer → List scope.OpenRecord
records_of [] = []
records_of (l ∷ ls) = inside_out l.records.now (records_of ls)

-- ---- places of fields

-- the place of a field of the record of this number
abbrev pub place_of : ℕ → Option ℕ → Option FieldPlace
place_of number None = None
place_of number (Some field) = Some (record { number = number; field = field })

abbrev pub place_in_record : ℕ → Option OpenRecord → List ℕ → Option FieldPlace
place_in_record number None name = None
place_in_record number (Some r) name = place_of number (field_number r.fields.now name)

-- where the record of this number has the field of this name
abbrev pub place_in : List OpenRecord → ℕ → List ℕ → Option FieldPlace
place_in rs number name = place_in_record number (slice_get rs number) name

-- where the last of the records of these numbers that has the field has it
abbrev pub large_place : List OpenRecord → List ℕ → List ℕ → Option FieldPlace
large_place rs [] name = None
large_place rs (k ∷ ks) name = option_or (large_place rs ks name) (place_in rs k name)

-- the place in the record that is inside of the other
abbrev pub later : Option FieldPlace → Option FieldPlace → Option FieldPlace
later None large = large
later (Some one) None = Some one
later (Some one) (Some other) = if nat_lt one.number other.number then Some other else Some one

abbrev pub record_field : Option OpenRecord → ℕ → Option scope.OpenField
record_field None field = None
record_field (Some r) field = field_at (open_of r) (Some field)

-- the field at a place
abbrev pub place_field : List OpenRecord → Option FieldPlace → Option scope.OpenField
place_field rs None = None
place_field rs (Some p) = record_field (slice_get rs p.number) p.field

-- ---- tables

-- what a table has under a name
abbrev pub small_place : List (Vec ℕ × FieldPlace) → List ℕ → Option FieldPlace
small_place places name = lookup (λ k. bytes_eq name k.items) places

-- the field that a table finds among its records
abbrev pub table_field : List OpenRecord → FieldTable → List ℕ → Option scope.OpenField
table_field rs t name = place_field rs (later (small_place t.places.entries name) (large_place rs t.large name))

-- those that layers find, the first one first
abbrev pub layer_field : Layer → List ℕ → Option scope.OpenField
layer_field l name = table_field l.records.now l.table.now name

abbrev pub layers_field : List Layer → List ℕ → Option scope.OpenField
layers_field [] name = None
layers_field (l ∷ ls) name = field_or (layer_field l name) (layers_field ls name)

-- numbers, or the number of a place, of a list of so many
abbrev pub AreBelow : List ℕ → ℕ → Type 0
AreBelow [] n = ⊤
AreBelow (k ∷ ks) n = (k < n) × AreBelow ks n

abbrev pub IsBelow : Option FieldPlace → ℕ → Type 0
IsBelow None n = ⊤
IsBelow (Some p) n = p.number < n

-- a table finds the fields of these records, each of the innermost record that has it
pub record IsTable (rs : List OpenRecord) (t : FieldTable) : Type 0 where
  pub large : AreBelow t.large (length rs)
  pub small : (name : List ℕ) → IsBelow (small_place t.places.entries name) (length rs)
  pub finds : (name : List ℕ) → table_field rs t name ≡ field_among (inside_out rs []) name

abbrev pub IsLayer : Layer → Type 0
IsLayer l = IsTable l.records.now l.table.now

abbrev pub AreLayers : List Layer → Type 0
AreLayers [] = ⊤
AreLayers (l ∷ ls) = IsLayer l × AreLayers ls

-- places with those of these fields of the record of this number, in place of those that have their names
abbrev pub HasFields : List (Vec ℕ × FieldPlace) → ℕ → List FieldType → List (Vec ℕ × FieldPlace) → Type 0
HasFields old number fields new =
    (name : List ℕ) →
    small_place new name ≡ option_or (place_of number (field_number fields name)) (small_place old name)

-- a table with a record more, which is asked itself or has its fields there
pub data Adds (old : FieldTable) (number : ℕ) (fields : List FieldType) (new : FieldTable) : Type 0 where
  Asked : new.places ≡ old.places → new.large ≡ old.large ++ number ∷ [] → Adds old number fields new
  Listed :
      new.large ≡ old.large → HasFields old.places.entries number fields new.places.entries
      → Adds old number fields new
