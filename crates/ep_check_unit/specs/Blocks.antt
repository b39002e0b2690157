-- What has been declared in a block, as plain data.
use Rattle.std.specs.Prelude.{ℕ, List, [], map, Option}
use Rattle.ep_typed.specs.declared.interface.ConstantEntry.{ConstantEntry}
use Rattle.ep_typed.specs.declared.unit.UnitType.{UnitType}
use Rattle.ep_typed.specs.declared.unit.UnitVariable.{UnitVariable}
use Rattle.ep_scope.specs.Scopes.{Row}
use Rattle.ep_scope.specs.declared.standard.StandardFiles.{StandardFiles}
use Rattle.ep_threats.specs.Callees.{Callees}
pub use Rattle.ep_threats.specs.RoutineForms.{RoutineForm, routine_form}
use Rattle.ep_check_unit.specs.declared.block.Block as declared
use Rattle.ep_check_unit.specs.declared.block.Forward.{Forward}
use Rattle.ep_unit_rules.specs.declared.own.OwnVariables.{OwnVariables}

-- what has been declared so far in the block of a unit
pub record Block : Type 0 where
  pub unit : List ℕ
  -- the standard files that are parameters or imported
  pub files : StandardFiles
  -- the scopes in view
  pub scopes : Row
  pub types : List UnitType
  pub constants : List ConstantEntry
  pub variables : List UnitVariable
  -- how many variable declarations there were, those of routines among them
  pub declarations : ℕ
  -- the variables of the routine whose block is under way, with those around it; none outside of routines
  pub own : OwnVariables
  -- the routines in the order of their first declarations, by number; one whose body is still to come does nothing
  pub routines : List RoutineForm
  -- the `forward` declarations
  pub forwards : List Forward
  -- the numbers of the routines that have a body
  pub bodies : List ℕ
  -- the line of the first item that is accepted and not built
  pub waits : Option ℕ

-- the routines that its code may call; it is given no heading so far
abbrev pub block_callees : Block → Callees
block_callees b = record { own = b.routines; given = [] }

abbrev pub block_of : declared.Block → Block
block_of b =
    record {
      unit = b.unit;
      files = b.files;
      scopes = b.scopes;
      types = b.types;
      constants = b.constants;
      variables = b.variables;
      declarations = b.declarations;
      own = b.own;
      routines = map routine_form b.routines;
      forwards = b.forwards;
      bodies = b.bodies;
      waits = b.waits;
    }
