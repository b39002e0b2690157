-- What statements without parts, and with lists of statements, are seen as.
use Rattle.std.proofs.Common.{◌≡◌, ℕ, List, Option, Some, None, map, sym, ap, ◌∙◌}
use Rattle.ep_typed.specs.Trees.{Stmt, Empty, Compound, Repeat, Case, Arm, stmts, arms, with_form}
use Rattle.ep_typed.specs.Viewed.{expr_of, stmt_of, stmt_step, arm_of, arm_step, other_of, with_record_of}
use Rattle.ep_typed.specs.declared.tree.CaseArm.{CaseArm, out-CaseArm}
use Rattle.ep_typed.specs.declared.tree.TypedExpr.{TypedExpr}
use Rattle.ep_typed.specs.declared.tree.TypedStmt.{TypedStmt}
use Rattle.ep_typed.specs.declared.tree.TypedStmt.TheVariants as typed
use Rattle.ep_typed.specs.declared.tree.TypedStmt.TheOpen as layer
use Rattle.ep_typed.specs.declared.tree.TypedStmt.TheFolds.{fold-roll-TypedStmt, fold_out-CaseArm}
use Rattle.ep_typed.specs.declared.tree.WithRecord.{WithRecord}

pub compound_is : (ss : List TypedStmt) → stmt_of (typed.Compound ss) ≡ Compound (stmts (map stmt_of ss))
compound_is ss = ap stmt_of (sym (typed.rolls-Compound ss)) ∙ fold-roll-TypedStmt Stmt Arm stmt_step arm_step (layer.Compound ss)

pub repeat_is : (line : ℕ) (ss : List TypedStmt) (x : TypedExpr) → stmt_of (typed.Repeat line ss x) ≡ Repeat line (stmts (map stmt_of ss)) (expr_of x)
repeat_is line ss x = ap stmt_of (sym (typed.rolls-Repeat line ss x)) ∙ fold-roll-TypedStmt Stmt Arm stmt_step arm_step (layer.Repeat line ss x)

pub case_is : (line : ℕ) (x : TypedExpr) (all : List CaseArm) (other : Option (List TypedStmt)) → stmt_of (typed.Case line x all other) ≡ Case line (expr_of x) (arms (map arm_of all)) (other_of other)
case_is line x all None = ap stmt_of (sym (typed.rolls-Case line x all None)) ∙ fold-roll-TypedStmt Stmt Arm stmt_step arm_step (layer.Case line x all None)
case_is line x all (Some ss) = ap stmt_of (sym (typed.rolls-Case line x all (Some ss))) ∙ fold-roll-TypedStmt Stmt Arm stmt_step arm_step (layer.Case line x all (Some ss))

-- an arm of a `case` by its parts
pub arm_is : (a : CaseArm) → arm_of a ≡ ((out-CaseArm a).ranges, stmt_of (out-CaseArm a).body)
arm_is a = fold_out-CaseArm Stmt Arm stmt_step arm_step a

pub empty_is : stmt_of typed.Empty ≡ Empty
empty_is = ap stmt_of (sym typed.rolls-Empty) ∙ fold-roll-TypedStmt Stmt Arm stmt_step arm_step layer.Empty

pub with_is : (line : ℕ) (records : List WithRecord) (body : TypedStmt) → stmt_of (typed.With line records body) ≡ with_form line (map with_record_of records) (stmt_of body)
with_is line records body = ap stmt_of (sym (typed.rolls-With line records body)) ∙ fold-roll-TypedStmt Stmt Arm stmt_step arm_step (layer.With line records body)
