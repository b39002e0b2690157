-- What a check answers of a component.
use Rattle.std.specs.Prelude.{◌≡◌, ℕ, true, List, map, Option, Some, None, Result, Ok, Err, IsTrue, ⊤}
use Rattle.ep_tree.specs.declared.component.Component.{Component}
use Rattle.ep_typed.specs.declared.interface.ImportSpec.{ImportSpec}
use Rattle.ep_typed.specs.declared.tree.TypedStmt.{TypedStmt}
use Rattle.ep_typed.specs.declared.tree.TypedStmt.TheVariants as stmt
use Rattle.ep_typed.specs.declared.unit.Unit.{Unit as TypedUnit}
use Rattle.ep_scope.specs.declared.rule.TheConstants as rule
use Rattle.ep_stmt_rules.specs.Statements.{Judgement, Waits, fails_at}
use Rattle.ep_stmt_rules.specs.declared.outcome.CheckRefusal.{CheckRefusal}
use Rattle.ep_stmt_rules.specs.declared.outcome.CheckRefusal.TheVariants as refusal
use Rattle.ep_stmt_rules.specs.declared.outcome.Admission.{Admission}
use Rattle.ep_stmt_rules.specs.declared.outcome.Admission.TheVariants as outcome
use Rattle.ep_check_unit.specs.Units.{IsTyped, BreaksAt, WaitsAt}
use Rattle.ep_check_unit.specs.Blocks.{Block, routine_form}
use Rattle.ep_check_unit.specs.declared.component.Checked.{Checked}
use Rattle.ep_check_unit.specs.declared.component.Checked.TheVariants as checked

-- what is answered of a component that has a typed unit; there are only programs so far
abbrev pub IsChecked : Component → Checked → Type 0
IsChecked c (checked.Block u) = IsTyped c u
IsChecked c (checked.Heading i) = ⊥
IsChecked c (checked.Both i u) = ⊥

-- the typed unit, where there is one
abbrev pub unit_in : Checked → Option TypedUnit
unit_in (checked.Heading i) = None
unit_in (checked.Block u) = Some u
unit_in (checked.Both i u) = Some u

-- why a component has none
abbrev pub IsRefusal : Component → CheckRefusal → Type 0
IsRefusal c (refusal.Broken b) = BreaksAt c b.rule b.line
IsRefusal c (refusal.NotBuilt line) = WaitsAt c line
IsRefusal c refusal.NoMemory = ⊤

-- the same of what items come to
abbrev pub IsRefusalOf : {A : Type 0} → Judgement A → CheckRefusal → Type 0
IsRefusalOf row (refusal.Broken b) = IsTrue (fails_at b.rule b.line row)
IsRefusalOf row (refusal.NotBuilt line) = row ≡ Waits line
IsRefusalOf row refusal.NoMemory = ⊤

-- what is answered of the first `forward` declaration whose routine has no body
abbrev pub AnswersMissing : Option ℕ → Result (Unit {0}) CheckRefusal → Type 0
AnswersMissing None result = result ≡ Ok tt
AnswersMissing (Some line) result = result ≡ Err (refusal.Broken (record { rule = rule.NO_BODY; line = line }))

-- statements that are built, behind declarations that are
abbrev pub AnswersBuilt : Option ℕ → Admission (List TypedStmt) → Result (List TypedStmt) CheckRefusal → Type 0
AnswersBuilt None (outcome.Passes ss) result = result ≡ Ok ss
AnswersBuilt None (outcome.Waits line) result = result ≡ Err (refusal.NotBuilt line)
AnswersBuilt (Some line) found result = result ≡ Err (refusal.NotBuilt line)

-- the unit of a program whose block declares this, with these imports and statements
pub record IsUnitWith (b : Block) (imports : List ImportSpec) (ss : List TypedStmt) (u : TypedUnit) : Type 0 where
  pub name : u.name ≡ b.unit
  pub program : u.program ≡ true
  pub interface : u.interface ≡ None
  pub imports_are : u.imports ≡ imports
  pub types : u.types ≡ b.types
  pub constants : u.constants ≡ b.constants
  pub variables : u.variables ≡ b.variables
  pub routines : map routine_form u.routines ≡ b.routines
  pub start : u.start ≡ stmt.Compound ss
  pub stop : u.stop ≡ stmt.Empty
