-- Compound statements as they are viewed.
use Rattle.std.proofs.Common.{◌≡◌, List, sym, ap, ◌∙◌}
use Rattle.ep_typed.specs.Trees.{Stmt, Stmts, Arm, Compound}
use Rattle.ep_typed.specs.Viewed.{arm_step, stmt_of, stmt_step}
use Rattle.ep_typed.specs.declared.tree.TypedStmt.{TypedStmt}
use Rattle.ep_typed.specs.declared.tree.TypedStmt.TheVariants as typed
use Rattle.ep_typed.specs.declared.tree.TypedStmt.TheOpen as layer
use Rattle.ep_typed.specs.declared.tree.TypedStmt.TheFolds.{fold-roll-TypedStmt}
use Rattle.ep_stmt_rules.specs.Answers.{stmts_of}
use Rattle.ep_stmt_rules.specs.Statements.{Judgement, Passes, formed}

compound_is : (ss : List TypedStmt) → stmt_of (typed.Compound ss) ≡ Compound (stmts_of ss)
compound_is ss = ap stmt_of (sym (typed.rolls-Compound ss)) ∙ fold-roll-TypedStmt Stmt Arm stmt_step arm_step (layer.Compound ss)

-- the form of a row that passes
pub compound_passes : (ss : List TypedStmt) (x : Judgement Stmts) → x ≡ Passes (stmts_of ss) → formed Compound x ≡ Passes (stmt_of (typed.Compound ss))
compound_passes ss x h = ap (formed Compound) h ∙ ap Passes (sym (compound_is ss))
