-- Which typed unit a program is, or where it first breaks a rule.
use Rattle.std.specs.Prelude.{◌≡◌, ℕ, Bool, true, false, List, [], ◌∷◌, ◌++◌, map, codes, Option, Some, None, IsTrue}
use Rattle.std.specs.Prelude.{if◌then◌else◌}
use Rattle.std.specs.List.{list_any}
use Rattle.std.specs.Str.{bytes_eq}
use Rattle.ep_tree.specs.declared.component.Component.{Component}
use Rattle.ep_tree.specs.declared.component.Component.TheVariants as component_is
use Rattle.ep_tree.specs.declared.component.Program.{Program}
use Rattle.ep_typed.specs.Trees.{Empty, Compound, Stmts}
use Rattle.ep_typed.specs.Viewed.{stmt_of}
use Rattle.ep_typed.specs.declared.interface.ImportSpec.{ImportSpec}
use Rattle.ep_typed.specs.declared.tree.StandardFile.{StandardFile}
use Rattle.ep_typed.specs.declared.tree.StandardFile.TheVariants as file
use Rattle.ep_typed.specs.declared.unit.Unit.{Unit as TypedUnit}
use Rattle.ep_scope.specs.Scopes.{empty_region, row_in}
use Rattle.ep_scope.specs.declared.rule.TheConstants as rule
use Rattle.ep_scope.specs.declared.standard.StandardFiles.{StandardFiles}
use Rattle.ep_scope.specs.declared.thing.Thing.TheVariants as thing
use Rattle.ep_rules.specs.Judgements.{Judged, Accepts, unbuilt, when_accepted}
use Rattle.ep_stmt_rules.specs.Statements.{Judgement, Passes, Waits, Fails, fails_at, after}
use Rattle.ep_check_unit.specs.Declarations.{Standing, Stands, Falls, at_line, and_then, entered}
use Rattle.ep_unit_rules.specs.Numbers.{has_number}
use Rattle.ep_check_unit.specs.Routines.{parts_declared, statements_judged}
use Rattle.ep_check_unit.specs.Blocks.{Block, routine_form}
use Rattle.ep_check_unit.specs.declared.block.Forward.{Forward}

-- ---- the first words (ISO 10206, 6.12), an item on the line of the word `program`

-- the standard file of a program parameter
abbrev pub standard_file : List ℕ → Option StandardFile
standard_file name =
    if bytes_eq name (codes "input") then Some file.Input
    else (if bytes_eq name (codes "output") then Some file.Output else None)

-- a parameter is entered in the scope of the block, to which the block's declarations belong too
abbrev pub parameter_entered : List ℕ → Option StandardFile → Block → Judged Block
parameter_entered name None b = unbuilt
parameter_entered name (Some f) b = entered name (thing.Standard f) b

abbrev pub parameters_entered : List (List ℕ) → Block → Judged Block
parameters_entered [] b = Accepts b
parameters_entered (name ∷ names) b =
    when_accepted (parameters_entered names) (parameter_entered name (standard_file name) b)

-- nothing is declared yet in the block of a unit, which may use these standard files, and no name is around it
abbrev pub first_block : List ℕ → StandardFiles → Block
first_block name files =
    record {
      unit = name;
      files = files;
      scopes = row_in empty_region;
      types = [];
      constants = [];
      variables = [];
      declarations = 0;
      own = record { parameters = []; result = None; variables = []; enclosing = [] };
      routines = [];
      forwards = [];
      bodies = [];
      waits = None;
    }

-- ---- programs

-- a program that is accepted: what its block declares, and its statements
pub record ProgramForm : Type 0 where
  pub block : Block
  pub statements : Stmts

-- whether the list has the name
abbrev pub has_name : List ℕ → List (List ℕ) → Bool
has_name name names = list_any (λ other. bytes_eq other name) names

-- the standard files that are parameters
abbrev pub files_given : List (List ℕ) → StandardFiles
files_given names = record { input = has_name (codes "input") names; output = has_name (codes "output") names }

-- the block of a program, in which nothing is declared yet
abbrev pub program_block : Program → Block
program_block p = first_block p.name (files_given p.parameters)

-- the line of the first `forward` declaration whose routine has no body
abbrev pub first_missing : List Forward → List ℕ → Option ℕ
first_missing [] bodies = None
first_missing (f ∷ fs) bodies = if has_number f.number bodies then first_missing fs bodies else Some f.line

-- A routine that is declared `forward` has a body (ISO 10206, 6.7.1 and 6.7.2). It is tested only where all items
-- break no other rule (own).
abbrev pub unless_missing : {A : Type 0} → Option ℕ → Judgement A → Judgement A
unless_missing None row = row
unless_missing (Some line) (Passes form) = Fails line (rule.NO_BODY ∷ [])
unless_missing (Some line) (Waits other) = Fails line (rule.NO_BODY ∷ [])
unless_missing (Some line) (Fails other rules) = Fails other rules

-- declarations that break no rule
abbrev pub declarations_wait : Block → Option ℕ → Judgement Block
declarations_wait b None = Passes b
declarations_wait b (Some line) = Waits line

abbrev pub program_form : Block → Stmts → ProgramForm
program_form b ss = record { block = b; statements = ss }

-- the declarations, then the statements, and then the `forward` declarations once more
abbrev pub body_judged : Program → Standing → Judgement ProgramForm
body_judged p (Stands b) =
    unless_missing (first_missing b.forwards b.bodies)
    (after program_form (declarations_wait b b.waits) (statements_judged b p.body))
body_judged p (Falls line rules) = Fails line rules

abbrev pub program_judged : Program → Judgement ProgramForm
program_judged p =
    body_judged p
    (and_then (parts_declared p.parts) (at_line p.line (parameters_entered p.parameters (program_block p))))

-- no module is built
abbrev pub component_judged : Component → Judgement ProgramForm
component_judged (component_is.Program p) = program_judged p
component_judged _ = Fails 0 []

-- ---- typed units

-- the interface of a standard file
abbrev pub standard_interface : StandardFile → List ℕ
standard_interface file.Input = codes "standardinput"
standard_interface file.Output = codes "standardoutput"

-- its import
abbrev pub standard_import : List ℕ → ImportSpec
standard_import interface = record { interface = interface; qualified = false; only = false; pairs = [] }

abbrev pub import_if : Bool → List ℕ → List ImportSpec
import_if true interface = standard_import interface ∷ []
import_if false interface = []

-- in this order, whatever the order of the parameters
abbrev pub imports_of : List (List ℕ) → List ImportSpec
imports_of names =
    import_if (has_name (codes "input") names) (standard_interface file.Input)
    ++ import_if (has_name (codes "output") names) (standard_interface file.Output)

-- the typed unit of a program of this form
pub record IsUnitOf (p : Program) (form : ProgramForm) (u : TypedUnit) : Type 0 where
  pub name : u.name ≡ p.name
  pub program : u.program ≡ true
  pub interface : u.interface ≡ None
  pub imports : u.imports ≡ imports_of p.parameters
  pub types : u.types ≡ form.block.types
  pub constants : u.constants ≡ form.block.constants
  pub variables : u.variables ≡ form.block.variables
  pub routines : map routine_form u.routines ≡ form.block.routines
  pub start : stmt_of u.start ≡ Compound form.statements
  pub stop : stmt_of u.stop ≡ Empty

-- the typed unit of a program
pub record IsTypedProgram (p : Program) (u : TypedUnit) : Type 0 where
  pub form : ProgramForm
  pub passes : program_judged p ≡ Passes form
  pub unit : IsUnitOf p form u

-- the typed unit of a component
abbrev pub IsTyped : Component → TypedUnit → Type 0
IsTyped (component_is.Program p) u = IsTypedProgram p u
IsTyped _ u = ⊥

-- the first item that breaks a rule begins on this line, and the rule fails there
abbrev pub BreaksAt : Component → ℕ → ℕ → Type 0
BreaksAt c rule line = IsTrue (fails_at rule line (component_judged c))

-- no rule is broken, and the first item that is not built begins on this line
abbrev pub WaitsAt : Component → ℕ → Type 0
WaitsAt c line = component_judged c ≡ Waits line
