-- The records that the code knows to be open, as plain data.
use Rattle.ep_typed.specs.Trees as tree
use Rattle.ep_typed.specs.Trees.{Entire}
use Rattle.ep_scope.specs.Scopes as scope
use Rattle.ep_scope.specs.declared.record.OpenRecord.{OpenRecord}
use Rattle.ep_scope.specs.declared.record.RecordVariable.{RecordVariable}
use Rattle.ep_scope.specs.declared.record.RecordVariable.TheVariants as variable

-- the variable that stands for a record, which is one of the unit or of the routine in whose block it is open
abbrev pub variable_of : RecordVariable → Entire
variable_of (variable.Unit unit number) = tree.OfUnit unit.now number
variable_of (variable.Own number) = tree.OfRoutine 0 number

abbrev pub open_of : OpenRecord → scope.OpenRecord
open_of r = record { variable = variable_of r.variable; guarded = r.protection; fields = r.fields.now }
