-- Whether constants lie in their types: a component outside of its type would be an error (ISO 10206, 6.4.6 and
-- 6.8.7).
use Rattle.std.specs.Prelude.{ℕ, ℤ, pos, int_le, Bool, true, false, ◌&&◌, List, [], ◌∷◌, map, slice_get, Option, Some}
use Rattle.std.specs.Prelude.{None, if◌then◌else◌}
use Rattle.std.specs.List.{list_all}
use Rattle.std.specs.Str.{bytes_eq}
use Rattle.ep_typed.specs.Denoters.{found_of}
use Rattle.ep_typed.specs.Trees as tree
use Rattle.ep_typed.specs.Trees.{AtField, AtIndex, AtIndexes, AtRanges, Constant, Elements, Expr, SameField}
use Rattle.ep_typed.specs.Trees.{SetConstant, elements, next_element, no_element}
use Rattle.ep_values.specs.TypeValues as type
use Rattle.ep_values.specs.TypeValues.{TypeValue}
use Rattle.ep_typed.specs.Viewed.{element_of}
use Rattle.ep_typed.specs.declared.unit.UnitType.{UnitType}
use Rattle.ep_typed.specs.declared.value.Value.{Value}
use Rattle.ep_typed.specs.declared.value.Value.TheVariants as value
use Rattle.ep_scope.specs.Scopes.{Region, structure_in}
use Rattle.ep_scope.specs.declared.parameter.TypeName.{TypeName}
use Rattle.ep_scope.specs.declared.parameter.TypeName.TheVariants as type_name
use Rattle.ep_scope.specs.declared.rule.TheConstants as rule
use Rattle.ep_scope.specs.declared.structure.Composition.{Composition}
use Rattle.ep_scope.specs.declared.structure.Composition.TheVariants as composition
use Rattle.ep_scope.specs.declared.structure.FieldType.{FieldType}
use Rattle.ep_rules.specs.ConstantAccesses.{value_of_field}
use Rattle.ep_rules.specs.Judgements.{Judged, Accepts, Breaks}
use Rattle.ep_rules.specs.VariantSteps.{field_steps}
use Rattle.ep_check_expr.specs.declared.constants.ConstantForm.{ConstantForm}
use Rattle.ep_unit_rules.specs.Definitions.{followed}
use Rattle.ep_unit_rules.specs.OrdinalTypes.{ordinal_of, value_of}

-- ---- types of components

-- the type of the components of an array
abbrev pub element_type : Option Composition → Option TypeName
element_type (Some (composition.Array a)) = Some a.component
element_type _ = None

-- the type of the field to which the steps lead
abbrev pub type_among : List FieldType → List ℕ → Option TypeName
type_among [] steps = None
type_among (f ∷ fs) steps = if bytes_eq (field_steps f) steps then Some f.of else type_among fs steps

abbrev pub field_type : Option Composition → List ℕ → Option TypeName
field_type (Some (composition.Record fs)) steps = type_among fs steps
field_type _ steps = None

-- the type of the members of a set type, by its denoter without names and initial states
abbrev pub base_value : List UnitType → Option tree.Denoter → Option TypeValue
base_value types (Some (tree.Set base)) = ordinal_of types base
base_value types d = None

-- that of a set type of the list
abbrev pub members_of : List UnitType → TypeName → Option TypeValue
members_of types (type_name.Required r) = None
members_of types (type_name.Entry number) = base_value types (found_of (followed types) (slice_get types number))

-- ---- constants in them

-- a number lies in an ordinal type
abbrev pub is_number_in : Option TypeValue → ℤ → Bool
is_number_in (Some (type.Ordinal low high)) z = int_le low z && int_le z high
is_number_in _ z = false

-- members do
abbrev pub are_members_in : Option TypeValue → List ℕ → Bool
are_members_in (Some (type.Ordinal low high)) ms = list_all (λ m. int_le low (pos m) && int_le (pos m) high) ms
are_members_in _ ms = false

-- a number or a set lies in the type, and so does an array or a record, which is of no other one
abbrev pub is_plain_in : List UnitType → Option TypeName → Option Expr → Bool
is_plain_in types (Some of) (Some (Constant z)) = is_number_in (value_of types of) z
is_plain_in types (Some of) (Some (SetConstant ms)) = are_members_in (members_of types of) ms
is_plain_in types (Some of) (Some x) = true
is_plain_in types of x = false

module _ (types : List UnitType) (scopes : List Region) where
  abbrev mutual
    -- a constant lies in its type, and so do all of its components
    pub is_in : Option TypeName → Expr → Bool
    is_in of (tree.Structured number es) = are_in (structure_in scopes number) es es
    is_in of x = is_plain_in types of (Some x)

    -- what one component of an array or a record with all these is given
    pub element_is_in : Option Composition → Elements → tree.Element → Bool
    element_is_in of all (AtIndex i x) = is_in (element_type of) x
    element_is_in of all (AtRanges ranges x) = is_in (element_type of) x
    element_is_in of all (AtIndexes ds x) = is_in (element_type of) x
    element_is_in of all (AtField steps x) = is_in (field_type of steps) x
    element_is_in of all (SameField from to) = is_plain_in types (field_type of to) (value_of_field all from)

    pub are_in : Option Composition → Elements → Elements → Bool
    are_in of all no_element = true
    are_in of all (next_element e more) = element_is_in of all e && are_in of all more

  -- the value of a constant, of which only an array or a record has components
  abbrev pub fits : Value → Bool
  fits (value.Structured number es) =
      are_in (structure_in scopes number) (elements (map element_of es)) (elements (map element_of es))
  fits _ = true

  -- a constant that lies in its type
  abbrev pub unless_outside : ConstantForm → Judged ConstantForm
  unless_outside c = if fits c.value then Accepts c else Breaks (rule.CONSTANT ∷ [])
