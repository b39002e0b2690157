-- The fields of record types by their names (ISO 10206, 6.5.3.3).
use Rattle.std.specs.Prelude.{◌≡◌, ℕ, List, Option, position}
use Rattle.std.specs.Global.{Vec}
use Rattle.std.specs.Map.{lookup}
use Rattle.std.specs.Str.{bytes_eq}
use Rattle.ep_scope.specs.declared.structure.FieldType.{FieldType}

-- the place of the field of this name among these, counted from 0
abbrev pub field_number : List FieldType → List ℕ → Option ℕ
field_number fields name = position (λ f. bytes_eq f.name name) fields

-- entries that have for each name that place
abbrev pub AreFieldPlaces : List (Vec ℕ × ℕ) → List FieldType → Type 0
AreFieldPlaces places fields = (name : List ℕ) → lookup (λ k. bytes_eq name k.items) places ≡ field_number fields name
