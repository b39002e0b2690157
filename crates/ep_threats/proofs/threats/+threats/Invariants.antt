use Rattle.std.proofs.Common.{◌≡◌, ◌+◌, ◌*◌, ◌≤◌, ℕ, drop, length, map}
use Rattle.ep_typed.specs.Trees.{arms, stmts, with_form}
use Rattle.ep_typed.specs.Viewed.{arm_of, stmt_of, with_record_of}
use Rattle.ep_typed.specs.declared.tree.CaseArm.{size-CaseArm}
use Rattle.ep_typed.specs.declared.tree.TypedStmt.{size-TypedStmt}
use Rattle.ep_threats.specs.Variables.{entire_of}
use Rattle.ep_threats.specs.Callees.{callees_of, formals_at}
use Rattle.ep_threats.specs.Threats.{arms_threaten, stmts_threaten, threatens}
use Rattle.ep_threats.proofs.threats.+threats.Given as goal

abbrev pub invariant-stmts_threaten-loop-s : goal.invariant-stmts_threaten-loop-s
invariant-stmts_threaten-loop-s l = stmts_threaten (formals_at (callees_of l.routines)) (entire_of l.variable) (stmts (map stmt_of (drop l.s-index l.all))) ≡ stmts_threaten (formals_at (callees_of l.routines)) (entire_of l.variable) (stmts (map stmt_of l.all))

abbrev pub invariant-arms_threaten-loop-a : goal.invariant-arms_threaten-loop-a
invariant-arms_threaten-loop-a l = arms_threaten (formals_at (callees_of l.routines)) (entire_of l.variable) (arms (map arm_of (drop l.a-index l.all))) ≡ arms_threaten (formals_at (callees_of l.routines)) (entire_of l.variable) (arms (map arm_of l.all))

abbrev pub invariant-opened_threatens-loop-record : goal.invariant-opened_threatens-loop-record
invariant-opened_threatens-loop-record l =
    (length l.left ≤ length l.records)
    × ((line : ℕ) → threatens (formals_at (callees_of l.routines)) (entire_of l.variable) (with_form line (map with_record_of l.left) (stmt_of l.body)) ≡ threatens (formals_at (callees_of l.routines)) (entire_of l.variable) (with_form line (map with_record_of l.records) (stmt_of l.body)))

abbrev pub decreases-opened_threatens-loop-record : goal.decreases-opened_threatens-loop-record
decreases-opened_threatens-loop-record l = length l.left

-- A slice has fewer elements than the factor says, so that a statement is above all rows of records of a statement in it.
abbrev pub decreases-statement_threatens : goal.decreases-statement_threatens
decreases-statement_threatens l = 18446744073709551617 * size-TypedStmt l.s.now

abbrev pub decreases-opened_threatens : goal.decreases-opened_threatens
decreases-opened_threatens l = 18446744073709551617 * size-TypedStmt l.body.now + 1 + length l.records.now

abbrev pub decreases-stmts_threaten : goal.decreases-stmts_threaten
decreases-stmts_threaten l = 18446744073709551617 * goal.size-stmts_threaten l + 1

abbrev pub decreases-arms_threaten : goal.decreases-arms_threaten
decreases-arms_threaten l = 18446744073709551617 * goal.size-arms_threaten l + 1

abbrev pub decreases-arm_threatens : goal.decreases-arm_threatens
decreases-arm_threatens l = 18446744073709551617 * size-CaseArm l.a.now
