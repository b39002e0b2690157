-- The meaning that the code finds, as plain data.
use Rattle.ep_scope.specs.Scopes as scope
use Rattle.ep_scope.specs.Scopes.{Meant, Declares, Standard, Requires, FieldOf, Nothing}
use Rattle.ep_scope.specs.declared.meaning.Meaning.{Meaning}
use Rattle.ep_scope.specs.declared.meaning.Meaning.TheVariants as meaning
use Rattle.ep_scope.specs.declared.record.OpenField.{OpenField}
use Rattle.ep_scope.specs.Records.{variable_of}

abbrev pub field_meant : OpenField → scope.OpenField
field_meant f = record { variable = variable_of f.variable; guarded = f.protection; field = f.field.now }

abbrev pub meant_by : Meaning → Meant
meant_by (meaning.Declared declared) = Declares declared.now
meant_by (meaning.Standard file) = Standard file
meant_by (meaning.Required required) = Requires required
meant_by (meaning.Field field) = FieldOf (field_meant field)
meant_by meaning.Nothing = Nothing
