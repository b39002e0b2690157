-- How code under construction grows.
use Rattle.std.specs.Prelude.{◌≡◌, ℕ, ◌*◌, ◌+◌, ◌≤◌, List, [], ◌∷◌, ◌++◌, Some, length, slice_get}
use Rattle.ep_object.specs.declared.code.Instr.{Instr}
use Rattle.ep_object.specs.declared.code.Reference.{Reference}
use Rattle.ep_typed.specs.Trees.{Element, Elements, Place, Expr, Actual, Actuals, Designator, Designators}
use Rattle.ep_gen_code.specs.Instructions.{◌▸◌, bare}
use Rattle.ep_gen_code.specs.Growth.{Grows}
use Rattle.ep_gen_expr.specs.ExprCode.{IsElementCode, AreElementsCode, AreIndexesCode, IsRangeCode, keep_code}
use Rattle.ep_gen_expr.specs.ExprCode.{IsPlaceCode, IsExprCode, IsActualCode, AreActualsCode, IsDesignatorCode}
use Rattle.ep_values.specs.declared.operations.ShortOperation.{ShortOperation}
use Rattle.ep_object.specs.declared.op.TheConstants as op
use Rattle.ep_typed.specs.Nodes.{place_nodes, expr_nodes}
use Rattle.ep_gen_code.specs.declared.code.Code.{Code}
pub use Rattle.ep_gen_code.specs.Instructions.{reference}

-- the text has this number, and no instruction is appended
pub record NumbersText (old new : Code) (bytes : List ℕ) (k : ℕ) : Type 0 where
  pub there : slice_get new.texts k ≡ Some bytes
  pub grows : Grows old new []

-- the reference has this number, and no instruction is appended
pub record NumbersReference (old new : Code) (r : Reference) (k : ℕ) : Type 0 where
  pub there : slice_get new.references k ≡ Some r
  pub grows : Grows old new []

-- a left operand is kept where it decides: the instruction at this place is to be replaced by a jump behind the right
-- one
pub record KeepsOperand (old new : Code) (operation : ShortOperation) (k : ℕ) : Type 0 where
  pub filler : Instr
  pub grows : Grows old new (keep_code old.line operation ++ filler ∷ bare old.line op.DROP ∷ [])
  pub is_place : k ≡ length old.instructions ▸ keep_code old.line operation

-- the code of the place is appended, at most 32 instructions for each typed node
pub record AppendsPlace (old new : Code) (p : Place) : Type 0 where
  pub code : List Instr
  pub is_code : IsPlaceCode new.texts new.references old.line (length old.instructions) p code
  pub grows : Grows old new code
  pub short : length code ≤ 32 * place_nodes p

-- the code of the expression is appended, at most 32 instructions for each typed node
pub record AppendsExpr (old new : Code) (x : Expr) : Type 0 where
  pub code : List Instr
  pub is_code : IsExprCode new.texts new.references old.line (length old.instructions) x code
  pub grows : Grows old new code
  pub short : length code ≤ 32 * expr_nodes x

-- the code of the actual parameter is appended
pub record AppendsActual (old new : Code) (a : Actual) : Type 0 where
  pub code : List Instr
  pub is_code : IsActualCode new.texts new.references old.line (length old.instructions) a code
  pub grows : Grows old new code

-- the code of the member designator is appended
pub record AppendsDesignator (old new : Code) (d : Designator) : Type 0 where
  pub code : List Instr
  pub is_code : IsDesignatorCode new.texts new.references old.line (length old.instructions) d code
  pub grows : Grows old new code

-- the code of what a component is given is appended
pub record AppendsElement (old new : Code) (e : Element) : Type 0 where
  pub code : List Instr
  pub is_code : IsElementCode new.texts new.references old.line (length old.instructions) e code
  pub grows : Grows old new code

-- the code of the indexes of a range is appended
pub record AppendsRange (old new : Code) (d : Designator) : Type 0 where
  pub code : List Instr
  pub is_code : IsRangeCode new.texts new.references old.line (length old.instructions) d code
  pub grows : Grows old new code

-- that of those of ranges is appended
pub record AppendsIndexes (old new : Code) (ds : Designators) : Type 0 where
  pub code : List Instr
  pub is_code : AreIndexesCode new.texts new.references old.line (length old.instructions) ds code
  pub grows : Grows old new code

-- the code of what components are given is appended
pub record AppendsElements (old new : Code) (es : Elements) : Type 0 where
  pub code : List Instr
  pub is_code : AreElementsCode new.texts new.references old.line (length old.instructions) es code
  pub grows : Grows old new code

-- the code of the actual parameters is appended
pub record AppendsActuals (old new : Code) (given : Actuals) : Type 0 where
  pub code : List Instr
  pub is_code : AreActualsCode new.texts new.references old.line (length old.instructions) given code
  pub grows : Grows old new code
