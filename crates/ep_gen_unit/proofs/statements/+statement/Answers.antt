use Rattle.std.proofs.Common.{◌≡◌, ◌+◌, [], ◌∷◌, Some, None, map, w64, arith, OnOk, subst, sym, ap, ◌∙◌}
use Rattle.std.proofs.lemmas.Int.{to_z_pos}
use Rattle.ep_typed.specs.Trees.{Empty, Compound, Repeat, Case, Arm, stmts, arms, no_other, otherwise_do, with_form}
use Rattle.ep_typed.specs.Viewed.{member_control_of, control_of, expr_of, stmt_of, arm_of, with_record_of}
use Rattle.ep_gen_code.proofs.public.Growing.{on_ok}
use Rattle.ep_gen_unit.specs.StmtGrowth.{AppendsArms, AppendsStmt}
use Rattle.ep_typed.specs.declared.tree.CaseArm.{out-CaseArm}
use Rattle.ep_typed.specs.declared.tree.TypedStmt.TheVariants as typed
use Rattle.ep_gen_unit.proofs.CaseForms.{appends_arm, arms_more, appends_otherwise, opens_case, closes_case, appends_case}
use Rattle.ep_gen_unit.proofs.ForForms.{appends_for}
use Rattle.ep_gen_unit.proofs.MemberForms.{appends_for_in}
use Rattle.ep_gen_unit.proofs.Compounds.{empty_is, arm_is, compound_is, repeat_is, with_is, case_is}
use Rattle.ep_gen_unit.proofs.StmtForms.{appends_empty, appends_compound, appends_if, appends_repeat, appends_while, stmts_more}
use Rattle.ep_gen_unit.proofs.WithForms.{appends_with}
use Rattle.ep_gen_unit.proofs.statements.+statement.Goals as goal

pub compound_code-loop-s-preserved : goal.compound_code-loop-s-preserved
compound_code-loop-s-preserved t c =
    stmts_more c.args.code.now stmt_of c.args.statements.now c.loop-s.s-index c.s-item.result c.loop-s-test.true c.s-item.is c.loop-s.invariant c.in_ok-statement_code.ensures

pub if_code-returns : goal.if_code-returns
if_code-returns t c =
    on_ok c.land-2.result (appends_if c.args.code.now c.args.line (expr_of c.args.condition.now) (stmt_of c.args.then_part.now) (stmt_of c.args.else_part.now) c.in_ok-skip.skip c.in_ok-leave.leave
    c.in_ok-expression_code.ensures c.in_ok-skip.ensures c.in_ok-statement_code.ensures c.in_ok-leave.ensures c.in_ok-land.ensures c.in_ok-statement_code-2.ensures) c.land-2.ensures

pub while_code-returns : goal.while_code-returns
while_code-returns t c =
    let start = to_z_pos w64 c.in_ok-start.start (omega (arith, c.in_ok-start.ensures.small)) in
    on_ok c.land.result (appends_while c.args.code.now c.statement_code.new.code c.args.line (expr_of c.args.condition.now) (stmt_of c.args.body.now) c.in_ok-start.start c.in_ok-leave.leave
    c.in_ok-start.ensures c.in_ok-expression_code.ensures c.in_ok-leave.ensures c.in_ok-statement_code.ensures (rw start at c.in_ok-emit.ensures)) c.land.ensures

pub for_code-returns : goal.for_code-returns
for_code-returns t c =
    let again = to_z_pos w64 c.in_ok-again.again (omega (arith, c.in_ok-again.ensures.small)) in
    on_ok c.undefine_code.result (appends_for c.args.code.now c.args.line c.in_ok-leave.leave c.in_ok-done.done c.in_ok-again.again (control_of c.args.control.now) (expr_of c.args.initial.now) (expr_of c.args.last.now) (stmt_of c.args.body.now)
    c.in_ok-bounds_code.ensures c.in_ok-leave.ensures c.in_ok-first_code.ensures c.in_ok-again.ensures c.in_ok-statement_code.ensures c.in_ok-test_code.ensures c.in_ok-done.ensures c.in_ok-next_code.ensures (rw again at c.in_ok-emit.ensures) c.in_ok-land.ensures c.in_ok-emit-2.ensures c.in_ok-land-2.ensures) c.undefine_code.ensures

pub for_in_code-returns : goal.for_in_code-returns
for_in_code-returns t c =
    let again = to_z_pos w64 c.in_ok-again.again (omega (arith, c.in_ok-again.ensures.small)) in
    on_ok c.undefine_code.result (appends_for_in c.args.code.now c.args.line c.in_ok-leave.leave c.in_ok-again.again (member_control_of c.args.control.now) (expr_of c.args.set.now) (stmt_of c.args.body.now)
    c.in_ok-assign_entire.ensures c.in_ok-again.ensures c.in_ok-more_code.ensures c.in_ok-leave.ensures c.in_ok-least_code.ensures c.in_ok-kept_code.ensures c.in_ok-statement_code.ensures c.in_ok-emit.ensures (rw again at c.in_ok-emit-2.ensures) c.in_ok-land.ensures) c.undefine_code.ensures

pub repeat_code-returns : goal.repeat_code-returns
repeat_code-returns t c =
    let start = to_z_pos w64 c.in_ok-start.start (omega (arith, c.in_ok-start.ensures.small)) in
    on_ok c.emit.result (appends_repeat c.args.code.now c.compound_code.new.code c.args.line (stmts (map stmt_of c.args.body.now)) (expr_of c.args.condition.now) c.in_ok-start.start c.in_ok-start.ensures c.in_ok-compound_code.ensures c.in_ok-expression_code.ensures) (rw start at c.emit.ensures)

pub statement_code-returns-in-Empty : goal.statement_code-returns-in-Empty
statement_code-returns-in-Empty t c =
    let is : stmt_of c.args.s.now ≡ Empty = ap stmt_of c.in-Empty.is ∙ empty_is in
    subst (λ s. AppendsStmt c.args.code.now c.args.code.now s) (sym is) (appends_empty c.args.code.now)

pub statement_code-returns-in-Repeat : goal.statement_code-returns-in-Repeat
statement_code-returns-in-Repeat t c =
    let body = c.in-Repeat.body in
    let is : stmt_of c.args.s.now ≡ Repeat c.in-Repeat.line (stmts (map stmt_of body)) (expr_of c.in-Repeat.condition) = ap stmt_of c.in-Repeat.is ∙ repeat_is c.in-Repeat.line body c.in-Repeat.condition in
    subst (λ s. OnOk c.repeat_code.result (AppendsStmt c.args.code.now c.repeat_code.new.code s)) (sym is) (rw (c.items-in-Repeat.ensures, c.get-in-Repeat.ensures) at c.repeat_code.ensures)

pub statement_code-returns-in-Compound : goal.statement_code-returns-in-Compound
statement_code-returns-in-Compound t c =
    let statements = c.in-Compound.statements in
    let is : stmt_of c.args.s.now ≡ Compound (stmts (map stmt_of statements)) = ap stmt_of c.in-Compound.is ∙ compound_is statements in
    subst (λ s. OnOk c.compound_code.result (AppendsStmt c.args.code.now c.compound_code.new.code s)) (sym is)
    (on_ok c.compound_code.result (appends_compound c.args.code.now (stmts (map stmt_of statements))) (rw c.items.ensures at c.compound_code.ensures))

pub arms_code-loop-arm-preserved : goal.arms_code-loop-arm-preserved
arms_code-loop-arm-preserved t c =
    arms_more c.args.line c.args.leave c.args.code.now arm_of c.args.arms.now c.loop-arm.arm-index c.arm-item.result c.loop-arm-test.true c.arm-item.is c.loop-arm.invariant c.in_ok-arm_code.ensures

pub arm_code-returns : goal.arm_code-returns
arm_code-returns t c =
    let leave = to_z_pos w64 c.args.leave (omega (arith, c.ranges.leave.fits)) in
    let is = arm_is c.args.arm.now in
    let over = c.emit-2.new.code in
    subst (λ (x : Arm). OnOk c.land.result (AppendsArms c.args.line c.args.leave c.args.code.now c.land.new.code (arms (x ∷ [])))) (sym is)
    (on_ok c.land.result (appends_arm c.args.code.now c.statement_code.new.code c.args.line c.args.leave c.in_ok-over.over (out-CaseArm c.args.arm.now).ranges (stmt_of (out-CaseArm c.args.arm.now).body)
    (rw c.items.ensures at c.in_ok-arm_tests_code.ensures) c.in_ok-over.ensures c.in_ok-emit.ensures (rw c.get.ensures at c.in_ok-statement_code.ensures) (rw leave at c.in_ok-emit-2.ensures)) c.land.ensures)

pub open_case-returns : goal.open_case-returns
open_case-returns t c =
    let start = to_z_pos w64 (c.in_ok-start.start + 2) (omega (arith, c.in_ok-start.ensures.small)) in
    opens_case c.args.code.now c.args.line c.in_ok-start.start c.in_ok-leave.leave (expr_of c.args.selector.now) (arms (map arm_of c.args.arms.now)) c.in_ok-expression_code.ensures c.in_ok-start.ensures (rw start at c.in_ok-emit.ensures) c.in_ok-leave.ensures c.in_ok-arms_code.ensures

pub otherwise_code-returns : goal.otherwise_code-returns
otherwise_code-returns t c =
    on_ok c.land.result (closes_case c.args.code.now c.args.line c.args.leave (otherwise_do (stmts (map stmt_of c.args.statements.now))) (appends_otherwise c.args.code.now c.args.line (stmts (map stmt_of c.args.statements.now)) c.in_ok-emit.ensures c.in_ok-compound_code.ensures)) c.land.ensures

pub statement_code-returns-in-None : goal.statement_code-returns-in-None
statement_code-returns-in-None t c =
    let line = c.in-Case.line in
    let leave = c.in_ok-leave-in-Case.leave in
    let is : stmt_of c.args.s.now ≡ Case line (expr_of c.in-Case.selector) (arms (map arm_of c.in-Case.arms)) no_other =
    ap stmt_of (c.in-Case.is ∙ ap (λ o. typed.Case line c.in-Case.selector c.in-Case.arms o) c.in-None.is) ∙ case_is line c.in-Case.selector c.in-Case.arms None in
    subst (λ s. OnOk c.fail_code.result (AppendsStmt c.args.code.now c.fail_code.new.code s)) (sym is)
    (on_ok c.fail_code.result (appends_case c.args.code.now line leave (expr_of c.in-Case.selector) (arms (map arm_of c.in-Case.arms)) no_other (rw (c.items-in-Case.ensures, c.get-in-Case.ensures) at c.in_ok-leave-in-Case.ensures)) c.fail_code.ensures)

pub statement_code-returns-in-Some : goal.statement_code-returns-in-Some
statement_code-returns-in-Some t c =
    let line = c.in-Case.line in
    let leave = c.in_ok-leave-in-Case.leave in
    let statements = c.in-Some.statements in
    let is : stmt_of c.args.s.now ≡ Case line (expr_of c.in-Case.selector) (arms (map arm_of c.in-Case.arms)) (otherwise_do (stmts (map stmt_of statements))) =
    ap stmt_of (c.in-Case.is ∙ ap (λ o. typed.Case line c.in-Case.selector c.in-Case.arms o) c.in-Some.is) ∙ case_is line c.in-Case.selector c.in-Case.arms (Some statements) in
    subst (λ s. OnOk c.otherwise_code.result (AppendsStmt c.args.code.now c.otherwise_code.new.code s)) (sym is)
    (on_ok c.otherwise_code.result (appends_case c.args.code.now line leave (expr_of c.in-Case.selector) (arms (map arm_of c.in-Case.arms)) (otherwise_do (stmts (map stmt_of statements))) (rw (c.items-in-Case.ensures, c.get-in-Case.ensures) at c.in_ok-leave-in-Case.ensures))
    (rw c.items-in-Some.ensures at c.otherwise_code.ensures))

pub statement_code-returns-in_ok-binds_code-in-With : goal.statement_code-returns-in_ok-binds_code-in-With
statement_code-returns-in_ok-binds_code-in-With t c =
    let x = c.in-With in
    let is : stmt_of c.args.s.now ≡ with_form x.line (map with_record_of x.records) (stmt_of x.body) = ap stmt_of x.is ∙ with_is x.line x.records x.body in
    subst (λ s. OnOk c.statement_code.result (AppendsStmt c.args.code.now c.statement_code.new.code s)) (sym is)
    (on_ok c.statement_code.result (appends_with c.args.code.now x.line (map with_record_of x.records) (stmt_of x.body) (rw c.items-in-With.ensures at c.in_ok-binds_code-in-With.ensures)) (rw c.get-in-With.ensures at c.statement_code.ensures))
