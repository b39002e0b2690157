use Rattle.std.proofs.Common.{◌+◌, ◌*◌, max, map, take}
use Rattle.ep_typed.specs.Trees.{stmts, arms}
use Rattle.ep_typed.specs.Viewed.{stmt_of, arm_of}
use Rattle.ep_typed.specs.declared.tree.CaseArm.{size-CaseArm}
use Rattle.ep_typed.specs.declared.tree.TypedStmt.{size-TypedStmt}
use Rattle.ep_gen_unit.specs.StmtGrowth.{AppendsStmts, AppendsArms}
use Rattle.ep_gen_unit.proofs.statements.+statement.Given as goal

abbrev pub decreases-statement_code : goal.decreases-statement_code
decreases-statement_code l = 4 * size-TypedStmt l.s.now

abbrev pub decreases-compound_code : goal.decreases-compound_code
decreases-compound_code l = 4 * goal.size-compound_code l + 1

abbrev pub decreases-if_code : goal.decreases-if_code
decreases-if_code l = 4 * max (size-TypedStmt l.then_part.now) (size-TypedStmt l.else_part.now) + 1

abbrev pub decreases-while_code : goal.decreases-while_code
decreases-while_code l = 4 * size-TypedStmt l.body.now + 1

abbrev pub decreases-for_code : goal.decreases-for_code
decreases-for_code l = 4 * size-TypedStmt l.body.now + 1

abbrev pub decreases-for_in_code : goal.decreases-for_in_code
decreases-for_in_code l = 4 * size-TypedStmt l.body.now + 1

abbrev pub decreases-repeat_code : goal.decreases-repeat_code
decreases-repeat_code l = 4 * goal.size-repeat_code l + 2

abbrev pub invariant-compound_code-loop-s : goal.invariant-compound_code-loop-s
invariant-compound_code-loop-s l = AppendsStmts l.fn.code l.code (stmts (map stmt_of (take l.s-index l.statements)))

abbrev pub decreases-open_case : goal.decreases-open_case
decreases-open_case l = 4 * goal.size-open_case l + 3

abbrev pub decreases-otherwise_code : goal.decreases-otherwise_code
decreases-otherwise_code l = 4 * goal.size-otherwise_code l + 2

abbrev pub decreases-arms_code : goal.decreases-arms_code
decreases-arms_code l = 4 * goal.size-arms_code l + 1

abbrev pub decreases-arm_code : goal.decreases-arm_code
decreases-arm_code l = 4 * size-CaseArm l.arm.now

abbrev pub invariant-arms_code-loop-arm : goal.invariant-arms_code-loop-arm
invariant-arms_code-loop-arm l = AppendsArms l.line l.leave l.fn.code l.code (arms (map arm_of (take l.arm-index l.arms)))
