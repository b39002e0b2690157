-- A call is judged to be a procedure statement, `halt` or a `write`.
use Rattle.std.proofs.Common.{ℕ, Bool, true, false, List, [], ◌∷◌, map, Option, Some, None}
use Rattle.std.specs.Prelude.{⊤}
use Rattle.std.specs.Option.{option_map}
use Rattle.ep_tree.specs.declared.expression.Argument.{Argument}
use Rattle.ep_typed.specs.Trees as tree
use Rattle.ep_typed.specs.Trees.{Actual, Callee, Item, Stmt}
use Rattle.ep_typed.specs.declared.tree.StandardFile.{StandardFile}
use Rattle.ep_typed.specs.declared.tree.StandardFile.TheVariants as file
use Rattle.ep_scope.specs.Scopes.{Meant, Declares, Standard, Requires, FieldOf, Nothing, depth_in, meant}
use Rattle.ep_scope.specs.declared.parameter.FormalParameter.{FormalParameter}
use Rattle.ep_scope.specs.declared.required.Procedure.{Procedure}
use Rattle.ep_scope.specs.declared.required.Procedure.TheVariants as procedure
use Rattle.ep_scope.specs.declared.required.Required.{Required}
use Rattle.ep_scope.specs.declared.required.Required.TheVariants as required
use Rattle.ep_scope.specs.declared.thing.Declaration.{Declaration}
use Rattle.ep_scope.specs.declared.thing.Declaration.TheVariants as declaration
use Rattle.ep_scope.specs.declared.thing.Declared.{Declared}
use Rattle.ep_rules.specs.Arguments.{arguments_judged, callee_at}
use Rattle.ep_check_expr.specs.Expressions.{given}
use Rattle.ep_rules.specs.Functions.{Given}
use Rattle.ep_rules.specs.Judgements.{Accepts}
use Rattle.ep_expr_laws.proofs.public.Passing.{IfForm}
use Rattle.ep_stmt_rules.specs.Statements.{Context, available, call_judged, declared_called, file_given, items_judged, name_called, own_called, procedure_called, required_called, something, to_file, usually_written, write_judged, written, written_or}
use Rattle.ep_stmt_rules.proofs.public.judged.Fits.{Any, Fits, fits_any, fits_both, fits_then}

-- the statement is one of these
abbrev pub IsSimple : Stmt → Type 0
IsSimple tree.Empty = ⊥
IsSimple (tree.Compound ss) = ⊥
IsSimple (tree.Assign line place x) = ⊤
IsSimple (tree.AssignTag line c place s x) = ⊥
IsSimple (tree.If line x a b) = ⊥
IsSimple (tree.While line x s) = ⊥
IsSimple (tree.Repeat line ss x) = ⊥
IsSimple (tree.For line control x y s) = ⊥
IsSimple (tree.ForIn line control x s) = ⊥
IsSimple (tree.With line variable of place s) = ⊥
IsSimple (tree.Procedure line callee given) = ⊤
IsSimple (tree.Case line x arms other) = ⊥
IsSimple (tree.Halt line) = ⊤
IsSimple (tree.Write line items ends_line) = ⊤

-- ---- `write` and `writeln`

file_simple : (f : StandardFile) (line : ℕ) (ends_line : Bool) (items : Option (List Item)) → IfForm IsSimple (to_file f (option_map (λ is. tree.Write line is ends_line) items))
file_simple file.Input line ends_line items = tt
file_simple file.Output line ends_line None = tt
file_simple file.Output line ends_line (Some items) = tt

written_simple : (f : StandardFile) (line : ℕ) (ends_line : Bool) (gs : List Given) → Fits (IfForm IsSimple) (written f line ends_line gs)
written_simple f line ends_line gs = fits_both Any Any (IfForm IsSimple) _ (something ends_line gs) (items_judged gs) (fits_any (something ends_line gs)) (fits_any (items_judged gs)) (λ a items p q. file_simple f line ends_line items)

module _ (c : Context) where
  usually_simple : (line : ℕ) (ends_line : Bool) (arguments : List Argument) → Fits (IfForm IsSimple) (usually_written c line ends_line arguments)
  usually_simple line ends_line arguments =
      fits_both (IfForm IsSimple) Any (IfForm IsSimple) (λ form there. Accepts form) (written file.Output line ends_line (map (given c.scopes) arguments)) (available c.files file.Output)
      (written_simple file.Output line ends_line (map (given c.scopes) arguments)) (fits_any (available c.files file.Output)) (λ form there p q. p)

  written_or_simple : (f : Option StandardFile) (line : ℕ) (ends_line : Bool) (first : Argument) (more : List Argument) → Fits (IfForm IsSimple) (written_or c f line ends_line first more)
  written_or_simple (Some f) line ends_line first more = written_simple f line ends_line (map (given c.scopes) more)
  written_or_simple None line ends_line first more = usually_simple line ends_line (first ∷ more)

  write_simple : (line : ℕ) (ends_line : Bool) (arguments : List Argument) → Fits (IfForm IsSimple) (write_judged c line ends_line arguments)
  write_simple line ends_line [] = usually_simple line ends_line []
  write_simple line ends_line (first ∷ more) = written_or_simple (file_given c first) line ends_line first more

  -- ---- calls

  procedure_simple : (line : ℕ) (p : Procedure) (arguments : List Argument) → Fits (IfForm IsSimple) (procedure_called c line p arguments)
  procedure_simple line procedure.Halt [] = tt
  procedure_simple line procedure.Halt (a ∷ arguments) = tt
  procedure_simple line procedure.Write arguments = write_simple line false arguments
  procedure_simple line procedure.WriteLine arguments = write_simple line true arguments

  required_simple : (line : ℕ) (r : Required) (arguments : List Argument) → Fits (IfForm IsSimple) (required_called c line r arguments)
  required_simple line (required.Constant k) arguments = tt
  required_simple line (required.«Type» t) arguments = tt
  required_simple line (required.Function f) arguments = tt
  required_simple line (required.Procedure p) arguments = procedure_simple line p arguments

  call_simple : (line : ℕ) (callee : Callee) (given : Option (List Actual)) → IfForm IsSimple (option_map (λ xs. tree.Procedure line callee (tree.actuals xs)) given)
  call_simple line callee None = tt
  call_simple line callee (Some given) = tt

  own_simple : (line : ℕ) (d : Declared) (parameters : List FormalParameter) (arguments : List Argument) → Fits (IfForm IsSimple) (own_called c line d parameters arguments)
  own_simple line d parameters arguments =
      fits_then Any (IfForm IsSimple) _ (arguments_judged parameters (map (given c.scopes) arguments)) (fits_any (arguments_judged parameters (map (given c.scopes) arguments))) (λ t p. call_simple line (callee_at (depth_in c.scopes) d) t.actuals)

  declared_simple : (line : ℕ) (d : Declared) (what : Declaration) (arguments : List Argument) → Fits (IfForm IsSimple) (declared_called c line d what arguments)
  declared_simple line d (declaration.Procedure parameters) arguments = own_simple line d parameters arguments
  declared_simple line d (declaration.Function parameters of h) arguments = tt
  declared_simple line d (declaration.Constant k v deep) arguments = tt
  declared_simple line d (declaration.«Type» of h nodes) arguments = tt
  declared_simple line d (declaration.Variable of k guarded) arguments = tt
  declared_simple line d (declaration.Own of k guarded) arguments = tt

  meant_simple : (line : ℕ) (name : List ℕ) (m : Meant) (arguments : List Argument) → Fits (IfForm IsSimple) (call_judged c line name m arguments)
  meant_simple line name (Declares d) arguments = declared_simple line d d.what arguments
  meant_simple line name (Standard f) arguments = tt
  meant_simple line name (Requires r) arguments = required_simple line r arguments
  meant_simple line name (FieldOf f) arguments = tt
  meant_simple line name Nothing arguments = tt

  pub called_simple : (line : ℕ) (name : List ℕ) (arguments : Option (List Argument)) → Fits (IfForm IsSimple) (name_called c line name arguments)
  called_simple line name None = tt
  called_simple line name (Some arguments) = meant_simple line name (meant c.scopes name) arguments
