-- Ordinal types of a list of types, by their names.
use Rattle.std.specs.Prelude.{List, slice_get, Option, Some, None}
use Rattle.ep_typed.specs.Denoters.{enumeration_type, found_of, required_type, subrange_type}
use Rattle.ep_typed.specs.Trees as tree
use Rattle.ep_values.specs.TypeValues.{TypeValue}
use Rattle.ep_typed.specs.declared.unit.UnitType.{UnitType}
use Rattle.ep_unit_rules.specs.Definitions.{followed}
use Rattle.ep_scope.specs.declared.parameter.TypeName.{TypeName}
use Rattle.ep_scope.specs.declared.parameter.TypeName.TheVariants as type_name

-- the type value of a subrange or an enumeration, by its own denoter, whatever it begins with
abbrev pub ordinal_value : tree.Denoter → Option TypeValue
ordinal_value (tree.Subrange host low high) = subrange_type low high
ordinal_value (tree.Enumeration names) = enumeration_type names
ordinal_value (tree.Initial of value) = ordinal_value of
ordinal_value _ = None

-- that of an ordinal type, which is required or has an entry in the list of types
abbrev pub value_of : List UnitType → TypeName → Option TypeValue
value_of types (type_name.Required r) = Some (required_type r)
value_of types (type_name.Entry number) = found_of ordinal_value (slice_get types number)

-- that of a denoter without names and initial states
abbrev pub bare_ordinal : Option tree.Denoter → Option TypeValue
bare_ordinal None = None
bare_ordinal (Some (tree.Required r)) = Some (required_type r)
bare_ordinal (Some d) = ordinal_value d

-- that of an ordinal denoter, whatever names lead to it and whatever these begin with
abbrev pub ordinal_of : List UnitType → tree.Denoter → Option TypeValue
ordinal_of types d = bare_ordinal (followed types d)
