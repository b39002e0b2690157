-- What holds of the code of every statement: it stays code when the tables grow, and is short.
use Rattle.std.specs.Prelude.{ℕ, ◌*◌, ◌≤◌, List, length}
use Rattle.ep_outside.specs.Known.{IsPrefix}
use Rattle.ep_gen_unit.specs.StmtCode.{IsStmtCode}
use Rattle.ep_typed.specs.Nodes.{stmt_nodes}
use Rattle.ep_object.specs.declared.code.Instr.{Instr}
use Rattle.ep_object.specs.declared.code.Reference.{Reference}
use Rattle.ep_typed.specs.Trees.{Stmt}

-- the code of a statement is that under larger tables too
abbrev pub StmtCodeStays : Type 0
StmtCodeStays =
    (ts us : List (List ℕ)) (rs ss : List Reference) (at : ℕ) (s : Stmt) (is : List Instr) → IsPrefix ts us
    → IsPrefix rs ss → IsStmtCode ts rs at s is → IsStmtCode us ss at s is

-- at most 32 instructions for each typed node
abbrev pub StmtCodeIsShort : Type 0
StmtCodeIsShort =
    (ts : List (List ℕ)) (rs : List Reference) (at : ℕ) (s : Stmt) (is : List Instr) → IsStmtCode ts rs at s is
    → length is ≤ 32 * stmt_nodes s
