-- What the name of a field gives of a record (ISO 10206, 6.5.3.3).
use Rattle.std.specs.Prelude.{ℕ, ◌+◌, nat_le, List, [], ◌∷◌, length, slice_get, Option, Some, None, if◌then◌else◌}
use Rattle.std.specs.Prelude.{option_map, unwrap_or}
use Rattle.ep_typed.specs.Trees.{Expr, Field, FieldValue, Place, Read, Structured, Variant, VariantValue}
use Rattle.ep_scope.specs.Fields.{field_number}
use Rattle.ep_scope.specs.Scopes.{Region, structure_in}
use Rattle.ep_scope.specs.declared.kind.Kind.{Kind}
use Rattle.ep_scope.specs.declared.kind.Kind.TheVariants as kind
use Rattle.ep_scope.specs.declared.parameter.Protection.{Protection}
use Rattle.ep_scope.specs.declared.parameter.TypeName.{TypeName}
use Rattle.ep_scope.specs.declared.rule.TheConstants as rule
use Rattle.ep_scope.specs.declared.structure.Composition.{Composition}
use Rattle.ep_scope.specs.declared.structure.Composition.TheVariants as composition
use Rattle.ep_scope.specs.declared.structure.FieldType.{FieldType}
use Rattle.ep_scope.specs.declared.structure.TagType.{TagType}
use Rattle.ep_scope.specs.declared.structure.VariantStep.{VariantStep}
use Rattle.ep_rules.specs.Judgements.{Judged, Accepts, Breaks, Typed}
use Rattle.ep_rules.specs.KnownFields.{field_known}
use Rattle.ep_rules.specs.declared.access.Access.{Access}
use Rattle.ep_rules.specs.declared.access.Access.TheVariants as access
use Rattle.ep_rules.specs.declared.forms.TheConstants as limit

-- ---- where a field is (ISO 10206, 6.4.3.4 and 6.5.3.3)

-- the variant to which these steps lead from a record at a place
abbrev pub along : List VariantStep → Place → Place
along [] whole = whole
along (s ∷ path) whole = along path (Variant whole s.selection s.variant)

-- the component of this number; a tag is the one component of a record that has the number
abbrev pub component_place : Option TagType → ℕ → Place → Place
component_place None number whole = Field whole number
component_place (Some tag) number whole = Field (Field whole number) 0

-- the place of a field of a record that is at a place
abbrev pub reached : FieldType → Place → Place
reached f whole = component_place f.tag f.number (along f.path whole)

-- how many places stand between that of the record and that of a component, itself among them
abbrev pub component_steps : Option TagType → ℕ
component_steps None = 1
component_steps (Some tag) = 2

-- and that of a field
abbrev pub steps_to : FieldType → ℕ
steps_to f = length f.path + component_steps f.tag

-- ---- a field as a value

-- a component of a value
abbrev pub component_taken : Option TagType → ℕ → Expr → Expr
component_taken None number whole = FieldValue whole number
component_taken (Some tag) number whole = FieldValue (FieldValue whole number) 0

-- the variant to which these steps lead from a value
abbrev pub taken_along : List VariantStep → Expr → Expr
taken_along [] whole = whole
taken_along (s ∷ path) whole = taken_along path (VariantValue whole s.selection s.variant)

-- a field taken of a value (ISO 10206, 6.8.6.3)
abbrev pub part_taken : FieldType → Expr → Expr
part_taken f whole = component_taken f.tag f.number (taken_along f.path whole)

-- A field is read of its place where the record is (ISO 10206, 6.5.3.3), and else taken of its value. A record that is
-- written out is
-- a constant, whose fields may be known (6.8.8.3).
abbrev pub part_form : FieldType → Expr → Expr
part_form f (Read place) = Read (reached f place)
part_form f (Structured of es) = unwrap_or (field_known f es) (part_taken f (Structured of es))
part_form f whole = part_taken f whole

-- a field, where the record is built
abbrev pub field_form : FieldType → Option Expr → Option Expr
field_form f form = option_map (part_form f) form

-- a variable of this type, which may be a tag
abbrev pub variable_access : TypeName → Protection → Option TagType → Access
variable_access of guarded None = access.Variable of guarded
variable_access of guarded (Some tag) = access.Tag of guarded tag

-- a field is a variable where the record is one, and protected where that is (ISO 10206, 6.5.1)
abbrev pub field_access : FieldType → Access → Access
field_access f (access.Variable of guarded) = variable_access f.of guarded f.tag
field_access f (access.Tag of guarded tag) = variable_access f.of guarded f.tag
field_access f access.File = access.File
field_access f access.Constant = access.Constant
field_access f access.Value = access.Value

-- the field of a record
abbrev pub field_typed : FieldType → Typed → Judged Typed
field_typed f x =
    if nat_le (steps_to f + x.depth) limit.DEPTH
    then Accepts
    (record {
      form = field_form f x.form;
      kind = f.kind;
      depth = steps_to f + x.depth;
      access = field_access f x.access;
    })
    else Breaks (rule.TOO_DEEP ∷ [])

-- there is no such field
abbrev pub no_field : Judged Typed
no_field = Breaks (rule.FIELD ∷ [])

abbrev pub field_if : Option FieldType → Typed → Judged Typed
field_if None x = no_field
field_if (Some f) x = field_typed f x

-- by the place of the name among the fields, where there is one
abbrev pub field_by : List FieldType → Option ℕ → Typed → Judged Typed
field_by fs None x = no_field
field_by fs (Some place) x = field_if (slice_get fs place) x

-- a structured type is one that is in view; an array has no fields
abbrev pub field_within : Option Composition → List ℕ → Typed → Judged Typed
field_within None name x = no_field
field_within (Some (composition.Array a)) name x = no_field
field_within (Some (composition.Record fs)) name x = field_by fs (field_number fs name) x

module _ (scopes : List Region) where
  -- what has a field is a record
  abbrev pub designated_by : Kind → List ℕ → Typed → Judged Typed
  designated_by (kind.Structured n) name x = field_within (structure_in scopes n) name x
  designated_by (kind.Ordinal h) name x = no_field
  designated_by kind.Text name x = no_field
  designated_by (kind.Set h) name x = no_field
  designated_by kind.EmptySet name x = no_field
  designated_by kind.File name x = no_field

  abbrev pub designated : List ℕ → Typed → Judged Typed
  designated name x = designated_by x.kind name x
