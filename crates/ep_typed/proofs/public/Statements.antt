-- What statements of the code are seen as.
use Rattle.std.proofs.Common.{◌≡◌, ◌∙◌, ℕ, List, map, sym, ap}
use Rattle.ep_typed.specs.Trees.{Stmt, Arm, with_form}
use Rattle.ep_typed.specs.Viewed.{arm_step, stmt_of, stmt_step, with_record_of}
use Rattle.ep_typed.specs.declared.tree.TypedStmt.{TypedStmt}
use Rattle.ep_typed.specs.declared.tree.TypedStmt.TheVariants as typed
use Rattle.ep_typed.specs.declared.tree.TypedStmt.TheOpen as layer
use Rattle.ep_typed.specs.declared.tree.TypedStmt.TheFolds.{fold-roll-TypedStmt}
use Rattle.ep_typed.specs.declared.tree.WithRecord.{WithRecord}

pub with_is : (line : ℕ) (records : List WithRecord) (body : TypedStmt) → stmt_of (typed.With line records body) ≡ with_form line (map with_record_of records) (stmt_of body)
with_is line records body = ap stmt_of (sym (typed.rolls-With line records body)) ∙ fold-roll-TypedStmt Stmt Arm stmt_step arm_step (layer.With line records body)
