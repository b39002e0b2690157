-- The routines of a block as plain data.
use Rattle.std.specs.Prelude.{ℕ, List, [], Option, Some, None, slice_get, slice_set}
use Rattle.ep_typed.specs.Trees.{Stmt}
use Rattle.ep_typed.specs.Viewed.{stmt_of}
use Rattle.ep_typed.specs.declared.interface.Formal.{Formal}
use Rattle.ep_typed.specs.declared.interface.RoutineResult.{RoutineResult}
use Rattle.ep_typed.specs.declared.unit.UnitRoutine.{UnitRoutine}
use Rattle.ep_typed.specs.declared.unit.UnitVariable.{UnitVariable}

-- a routine, whose block is a statement as plain data
pub record RoutineForm : Type 0 where
  pub name : List ℕ
  -- of the declaration that has its block
  pub line : ℕ
  pub formals : List Formal
  pub result : Option RoutineResult
  pub variables : List UnitVariable
  pub around : List ℕ
  pub block : Stmt

abbrev pub routine_form : UnitRoutine → RoutineForm
routine_form r =
    record {
      name = r.name;
      line = r.line;
      formals = r.formals;
      result = r.result;
      variables = r.variables;
      around = r.around;
      block = stmt_of r.block;
    }

-- the formal parameters of a routine, where there is one
abbrev pub formals_if : Option RoutineForm → List Formal
formals_if None = []
formals_if (Some r) = r.formals

-- a routine with the block that a declaration on this line has, and the variables that are declared there
abbrev pub with_its_block : ℕ → List UnitVariable → Stmt → RoutineForm → RoutineForm
with_its_block line variables s r = record r { line = line; variables = variables; block = s }

-- the item of a number in another form, where there is one
abbrev pub set_to : {A : Type 0} → List A → ℕ → (A → A) → Option A → List A
set_to xs n f None = xs
set_to xs n f (Some x) = slice_set xs n (f x)

-- the routines, of which that of this number has its block
abbrev pub block_set : ℕ → ℕ → List UnitVariable → Stmt → List RoutineForm → List RoutineForm
block_set number line variables s routines =
    set_to routines number (with_its_block line variables s) (slice_get routines number)
