-- How code under construction grows by statements, whose lines differ.
use Rattle.std.specs.Prelude.{◌≡◌, ℕ, pos, ◌+◌, ◌*◌, ◌<◌, ◌≤◌, Bool, false, List, [], ◌∷◌, ◌++◌, length}
use Rattle.ep_gen_expr.specs.ExprCode.{IsExprCode, tests_code}
use Rattle.ep_gen_code.specs.Instructions.{◌▸◌, instr}
use Rattle.ep_gen_code.specs.Growth.{TableGrows, Grows, IsTable, AreDistinct}
use Rattle.ep_gen_code.specs.Jumps.{landed}
use Rattle.ep_gen_code.specs.declared.code.Code.{Code}
use Rattle.ep_gen_unit.specs.StmtCode.{IsItemCode, AreItemsCode, IsStmtCode, AreStmtsCode, AreBoundsCode, IsFirstCode}
use Rattle.ep_gen_unit.specs.StmtCode.{IsTestCode, IsUndefineCode, IsLeastCode, IsKeptCode, IsBindCode, AreBindsCode}
use Rattle.ep_gen_unit.specs.StmtCode.{make_all_code, return_code, end_code, AreArmsCode, IsOtherCode}
use Rattle.ep_gen_unit.specs.TagCode.{IsTriedCode, IsChangeCode, IsTakenCode}
use Rattle.ep_gen_unit.specs.UnitCode.{IsFillCode, IsShuffleCode, fill_code, range_code, spread_code, swap_code}
use Rattle.ep_gen_unit.specs.UnitCode.{AreRoutinesCode, AreTypesCode, elaborating_code, own_code, entry_of, its_end}
use Rattle.ep_object.specs.declared.code.CodeRoutine.{CodeRoutine}
use Rattle.ep_object.specs.declared.code.Instr.{Instr}
use Rattle.ep_object.specs.declared.code.Object.{Object}
use Rattle.ep_object.specs.declared.op.TheConstants as op
use Rattle.ep_typed.specs.Auxiliaries.{block_auxiliaries}
use Rattle.ep_meaning.specs.Controls.{has_more}
use Rattle.ep_typed.specs.Nodes.{stmt_nodes}
use Rattle.ep_typed.specs.Routines.{made_by_unit, made_variables, result_variable, variables_of}
use Rattle.ep_typed.specs.Viewed.{stmt_of}
use Rattle.ep_typed.specs.declared.unit.Unit.{Unit as TypedUnit}
use Rattle.ep_typed.specs.declared.unit.UnitRoutine.{UnitRoutine}
use Rattle.ep_typed.specs.declared.unit.UnitType.{UnitType}
use Rattle.ep_typed.specs.declared.unit.UnitVariable.{UnitVariable}
use Rattle.ep_object.specs.declared.code.Reference.{Reference}
use Rattle.ep_typed.specs.Trees.{Control, MemberControl, Tagging, Entire, Item, Place, Stmt, Stmts, Expr, Arms, Other}
use Rattle.ep_typed.specs.Trees.{WithRecord}
use Rattle.ep_typed.specs.declared.tree.CaseRange.{CaseRange}
use Rattle.ep_typed.specs.declared.tree.Selection.{Selection}

-- these instructions are appended, the line is any, and all else is as before but for new items of the two tables
pub record Follows (old new : Code) (is : List Instr) : Type 0 where
  pub instructions : new.instructions ≡ old.instructions ++ is
  pub texts : TableGrows old.texts new.texts
  pub references : TableGrows old.references new.references
  pub constant_types : new.constant_types ≡ old.constant_types

-- the code that writes the item is appended
pub record AppendsItem (old new : Code) (i : Item) : Type 0 where
  pub code : List Instr
  pub is_code : IsItemCode new.texts new.references old.line (length old.instructions) i code
  pub grows : Grows old new code

-- the code that writes the items is appended, and then the line end where there is one
pub record AppendsItems (old new : Code) (items : List Item) (ends_line : Bool) : Type 0 where
  pub code : List Instr
  pub is_code : AreItemsCode new.texts new.references old.line (length old.instructions) items ends_line code
  pub grows : Grows old new code

-- the code of the statement is appended, at most 32 instructions for each typed node
pub record AppendsStmt (old new : Code) (s : Stmt) : Type 0 where
  pub code : List Instr
  pub is_code : IsStmtCode new.texts new.references (length old.instructions) s code
  pub follows : Follows old new code
  pub short : length code ≤ 32 * stmt_nodes s

-- a part of the code of a statement is appended, which is such code under the tables and from the place where it
-- begins
pub record AppendsPart (Is : List (List ℕ) → List Reference → ℕ → List Instr → Type 0) (old new : Code) : Type 0 where
  pub code : List Instr
  pub is_code : Is new.texts new.references (length old.instructions) code
  pub follows : Follows old new code

-- the parts of a `for` on this line
abbrev pub AppendsBounds : ℕ → Code → Code → Control → Expr → Expr → Type 0
AppendsBounds line old new c x y =
    AppendsPart (λ texts references at is. AreBoundsCode texts references line at c x y is) old new

abbrev pub AppendsFirst : ℕ → Code → Code → Control → Type 0
AppendsFirst line old new c = AppendsPart (λ texts references at is. IsFirstCode texts references line at c is) old new

abbrev pub AppendsTest : ℕ → Code → Code → Control → Type 0
AppendsTest line old new c = AppendsPart (λ texts references at is. IsTestCode texts references line at c is) old new

abbrev pub AppendsUndefine : ℕ → Code → Code → Entire → Type 0
AppendsUndefine line old new v =
    AppendsPart (λ texts references at is. IsUndefineCode texts references line at v is) old new

-- the parts of a `for` over members on this line
abbrev pub AppendsMore : ℕ → Code → Code → MemberControl → Type 0
AppendsMore line old new c =
    AppendsPart (λ texts references at is. IsExprCode texts references line at (has_more c) is) old new

abbrev pub AppendsLeast : ℕ → Code → Code → MemberControl → Type 0
AppendsLeast line old new c = AppendsPart (λ texts references at is. IsLeastCode texts references line at c is) old new

abbrev pub AppendsKept : ℕ → Code → Code → MemberControl → Type 0
AppendsKept line old new c = AppendsPart (λ texts references at is. IsKeptCode texts references line at c is) old new

-- a part of the code of an assignment to a tag is appended, at the line that is set
pub record AppendsTagPart (Is : List (List ℕ) → List Reference → ℕ → ℕ → List Instr → Type 0) (old new : Code) : Type
    0 where
  pub code : List Instr
  pub is_code : Is new.texts new.references old.line (length old.instructions) code
  pub grows : Grows old new code

abbrev pub AppendsTried : Code → Code → Tagging → Selection → Type 0
AppendsTried old new c s =
    AppendsTagPart (λ texts references line at is. IsTriedCode texts references line at c s is) old new

abbrev pub AppendsChange : Code → Code → Tagging → Selection → Type 0
AppendsChange old new c s =
    AppendsTagPart (λ texts references line at is. IsChangeCode texts references line at c s is) old new

abbrev pub AppendsTaken : Code → Code → Tagging → Selection → Type 0
AppendsTaken old new c s =
    AppendsTagPart (λ texts references line at is. IsTakenCode texts references line at c s is) old new

-- a record that a `with` on this line opens
abbrev pub AppendsBind : ℕ → Code → Code → Entire → Place → Type 0
AppendsBind line old new v p =
    AppendsPart (λ texts references at is. IsBindCode texts references line at v p is) old new

-- all that it opens, one after another
abbrev pub AppendsBinds : ℕ → Code → Code → List WithRecord → Type 0
AppendsBinds line old new rs =
    AppendsPart (λ texts references at is. AreBindsCode texts references line at rs is) old new

-- the code of the statements is appended
pub record AppendsStmts (old new : Code) (ss : Stmts) : Type 0 where
  pub code : List Instr
  pub is_code : AreStmtsCode new.texts new.references (length old.instructions) ss code
  pub follows : Follows old new code

-- the code of arms of a `case` on this line is appended, which is left from this place
pub record AppendsArms (line leave : ℕ) (old new : Code) (arms : Arms) : Type 0 where
  pub code : List Instr
  pub is_code : AreArmsCode new.texts new.references line leave (length old.instructions) arms code
  pub follows : Follows old new code

-- the code of the `otherwise` part of a `case` on this line is appended
pub record AppendsOther (line : ℕ) (old new : Code) (other : Other) : Type 0 where
  pub code : List Instr
  pub is_code : IsOtherCode new.texts new.references line (length old.instructions) other code
  pub follows : Follows old new code

-- The beginning of a `case` on this line is appended: the selector, the jump over the place from which the `case` is
-- left, an instruction at that place that is to be replaced by a jump, and the arms.
pub record OpensCase (line leave : ℕ) (old new : Code) (x : Expr) (arms : Arms) : Type 0 where
  pub selector : List Instr
  pub filler : Instr
  pub code : List Instr
  pub is_selector : IsExprCode new.texts new.references line (length old.instructions) x selector
  pub is_code : AreArmsCode new.texts new.references line leave (length old.instructions ▸ selector + 2) arms
      code
  pub is_place : leave ≡ length old.instructions ▸ selector + 1
  pub inside : leave < length new.instructions
  pub follows : Follows old new
      (selector ++ instr op.JUMP (pos (length old.instructions ▸ selector + 2)) 0 line ∷ filler ∷ code)

-- the `otherwise` part is appended, and at the place from which the `case` is left stands the jump behind it
pub record ClosesCase (line leave : ℕ) (old new : Code) (other : Other) : Type 0 where
  pub last : Code
  pub appends : AppendsOther line old last other
  pub lands : new ≡ landed last leave op.JUMP line

-- The tests of an arm are appended. Its statement is to stand behind them and one more instruction.
abbrev pub AppendsTests : Code → Code → List CaseRange → Type 0
AppendsTests old new ranges =
    Grows old new
    (tests_code old.line (length old.instructions + 6 * length ranges + 1) (length old.instructions) ranges)

-- the code of a block is appended, and a `Return` behind it
pub record AppendsBlock (old new : Code) (block : Stmt) : Type 0 where
  pub code : List Instr
  pub is_code : IsStmtCode new.texts new.references (length old.instructions) block code
  pub follows : Follows old new (code ++ return_code ∷ [])

-- The code of the start and of the stop of a unit is appended. The start makes the variables and runs its statement;
-- the stop runs its own, and this is its entry.
pub record AppendsStart (old new : Code) (u : TypedUnit) (stop_entry : ℕ) : Type 0 where
  -- the code of the start's statement
  pub code : List Instr
  pub is_code : IsStmtCode new.texts new.references
      (length old.instructions ▸ make_all_code 0 (made_by_unit u)) (stmt_of u.start) code
  -- and of the stop's
  pub stop_code : List Instr
  pub is_stop_code : IsStmtCode new.texts new.references
      (length old.instructions ▸ make_all_code 0 (made_by_unit u) ▸ code + 1) (stmt_of u.stop) stop_code
  pub follows : Follows old new
      (make_all_code 0 (made_by_unit u) ++ (code ++ return_code ∷ (stop_code ++ return_code ∷ [])))
  pub stops : stop_entry ≡ length old.instructions ▸ make_all_code 0 (made_by_unit u) ▸ code + 1

-- the code of a routine of a unit with these types is appended: what makes its variables, its block, and its end
pub record AppendsRoutine (old new : Code) (types : List UnitType) (r : UnitRoutine) (x : CodeRoutine) : Type 0 where
  pub plain : x ≡ entry_of (length old.instructions) r
  pub code : List Instr
  pub is_code : IsStmtCode new.texts new.references (length old.instructions ▸ own_code r) (stmt_of r.block)
      code
  pub follows : Follows old new
      (own_code r ++ (code ++ its_end types (length old.instructions ▸ own_code r ▸ code) r))

-- the code of routines is appended, and these are their entries
pub record AppendsRoutines (old new : Code) (types : List UnitType) (rs : List UnitRoutine)
    (entries : List CodeRoutine) : Type 0 where
  pub code : List Instr
  pub follows : Follows old new code
  pub blocks : AreRoutinesCode new.texts new.references new.instructions types rs entries

-- The code that leaves two operands in the other order is appended, and this is its entry.
pub record AppendsSwap (old new : Code) (entry : ℕ) : Type 0 where
  pub starts : entry ≡ length old.instructions
  pub follows : Follows old new swap_code

-- The code that gives the value of a component of an array to others is appended, and this is its entry.
pub record AppendsFill (old new : Code) (entry : ℕ) : Type 0 where
  pub starts : entry ≡ length old.instructions
  pub follows : Follows old new (fill_code entry)

-- This code is appended, and this is its entry.
pub record AppendsShuffle (old new : Code) (its : List Instr) (entry : ℕ) : Type 0 where
  pub starts : entry ≡ length old.instructions
  pub follows : Follows old new its

-- The code of the routines that give values to components of arrays is appended, and their entries to those that there
-- were.
pub record AppendsArrays (old new : Code) (before after : List CodeRoutine) : Type 0 where
  pub code : List Instr
  pub follows : Follows old new code
  pub filling : CodeRoutine
  pub fills : IsFillCode new.instructions filling
  pub ranging : CodeRoutine
  pub ranges : IsShuffleCode new.instructions 3 range_code ranging
  pub spreading : CodeRoutine
  pub spreads : IsShuffleCode new.instructions 5 spread_code spreading
  pub are : after ≡ before ++ filling ∷ ranging ∷ spreading ∷ []

-- The code that elaborates a type is appended, and this is its entry.
pub record AppendsType (old new : Code) (t : UnitType) (entry : ℕ) : Type 0 where
  pub starts : entry ≡ length old.instructions
  pub follows : Follows old new (elaborating_code t)

-- the code that elaborates types is appended, and its entries to those that there were
pub record AppendsTypes (old new : Code) (ts : List UnitType) (before after : List CodeRoutine) : Type 0 where
  pub code : List Instr
  pub follows : Follows old new code
  pub entries : List CodeRoutine
  pub are : after ≡ before ++ entries
  pub types : AreTypesCode new.instructions ts entries

-- the tables and the code of an object have places that a field of 32 bits holds, and each text and reference is there
-- once
pub record IsCompact (o : Object) : Type 0 where
  pub few_texts : IsTable o.texts
  pub few_references : IsTable o.references
  pub few_instructions : IsTable o.instructions
  pub texts : AreDistinct o.texts
  pub references : AreDistinct o.references

-- the object of a program of this name, from its code, its routines, the number of those before its start, and the
-- number
-- of its variables
abbrev pub assembled : List ℕ → Code → List CodeRoutine → ℕ → ℕ → Object
assembled name code routines start slots = record {
  «module» = false;
  name = name;
  interface = [];
  imports = [];
  references = code.references;
  texts = code.texts;
  constant_types = code.constant_types;
  routines = routines;
  unit_slots = slots;
  start = start;
  stop = start + 1;
  instructions = code.instructions;
}

-- The code that makes the variables of a routine's own is appended, and the routine has so many slots, with those of
-- the variables that are not made.
pub record MakesOwn (old new : Code) (r : UnitRoutine) (slots : ℕ) : Type 0 where
  pub follows : Follows old new (make_all_code (length r.formals) (made_variables r))
  pub count : slots ≡ length (variables_of r)

-- The code that makes these variables, and the auxiliary ones of a block, is appended, from
-- this number on, and the first number behind them is that.
pub record MakesBlock (old new : Code) (first : ℕ) (vs : List UnitVariable) (block : Stmt) (behind : ℕ) : Type 0 where
  pub follows : Follows old new (make_all_code first (vs ++ block_auxiliaries block))
  pub count : behind ≡ first + length (vs ++ block_auxiliaries block)

-- The code that makes the variable of a routine's result is appended, where it has one, and the first variable behind
-- it
-- has this number.
pub record MakesResult (old new : Code) (r : UnitRoutine) (first : ℕ) : Type 0 where
  pub follows : Follows old new (make_all_code (length r.formals) (result_variable r.name r.line r.result))
  pub count : first ≡ (length r.formals + length (result_variable r.name r.line r.result))

-- the code with which a routine of a unit with these types ends is appended, where a function has its result in the
-- variable of this number
abbrev pub AppendsEnd : Code → Code → List UnitType → UnitRoutine → ℕ → Type 0
AppendsEnd old new types r number = Follows old new (end_code types r.line number (length old.instructions) r.result)
