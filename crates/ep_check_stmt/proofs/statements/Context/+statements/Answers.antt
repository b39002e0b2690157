use Rattle.std.proofs.Common.{rules, ◌≡◌, ◌∙◌, ◌+◌, List, None, map, drop, ap, sym}
use Rattle.std.specs.Option.{option_map}
use Rattle.ep_tree.specs.declared.statement.Statement.TheVariants as statement
use Rattle.ep_tree.specs.declared.statement.Statement.TheViews.{the_lemmas}
use Rattle.ep_built.specs.Built.{arm_unbuilt, first_in, statement_unbuilt}
use Rattle.ep_typed.specs.Viewed.{arm_of, expr_of, other_of, stmt_of}
use Rattle.ep_typed.specs.Trees.{Arms, Entire, Stmt, Stmts}
use Rattle.ep_rules.specs.Judgements.{Accepts}
use Rattle.ep_check_stmt.specs.Contexts.{context_of}
use Rattle.ep_stmt_rules.specs.Answers.{AnswersRow, arms_of, counted_of, head_of, heads_of, labels_of, member_head_of, numbered, opened_of, passed, selector_of}
use Rattle.ep_threats.specs.Variables.{entire_of}
use Rattle.ep_stmt_rules.specs.Cases.{selector_judged}
use Rattle.ep_stmt_rules.specs.Statements.{Context, Judgement, arm_judged, arm_row, arms_in_order, at_item, condition_judged, control_judged, else_judged, expr_item, in_order, none_opened, other_judged, records_opened, statement_judged}
use Rattle.ep_check_stmt.proofs.CaseParts.{all_arms, arms_more, case_is, less_arms, more_arms, rest_judged, selector_falls}
use Rattle.ep_stmt_rules.proofs.public.judged.Rounds.{rest_built}
use Rattle.ep_check_stmt.proofs.Branches.{call_is, else_rest, for_in_is, for_is, if_is, opened_falls, other_built, repeat_is, then_built, while_is, with_is}
use Rattle.ep_check_stmt.proofs.BuiltParts.{body_built, end_built, inner_built, opened_built, records_built, set_built, start_built, target_built, turn_built, value_built}
use Rattle.ep_check_stmt.proofs.Rows.{all_together, assignment_is, item_answers, less_together, more_together, statements_more}
use Rattle.ep_check_stmt.proofs.statements.Context.+statements.Goals as goal
use Rattle.ep_check_stmt.proofs.statements.Context.+statements.Goals.{arms-in-Passes+in_ok-push-in-Passes, arms-in-Waits, statement-in-None, statement-in-None-other, statement-in-Some, statement-in-Some-other, statements-in-Passes+in_ok-push-in-Passes, statements-in-Waits}

pub statements-loop-s-preserved : goal.statements-loop-s-preserved
statements-loop-s-preserved t c =
    let context : Context = context_of c.args.self.now in
    let here : Context = numbered context c.loop-s.withs in
    let controls : List Entire = map entire_of c.args.controls.now in
    let whole : Judgement Stmts = in_order (map statement_judged c.args.all.now) context controls in
    let rest : first_in (map statement_unbuilt (drop (c.loop-s.s-index + 1) c.args.all.now)) ≡ None = rest_built statement_unbuilt c.args.all.now c.loop-s.s-index c.s-item.result c.loop-s-test.true c.s-item.is c.loop-s.invariant.built in
    let judged = rw c.numbered.ensures at c.in_ok-one.ensures in
    elim c.match-one-2.branch [
      | statements-in-Passes+in_ok-push-in-Passes w ↦ record {
        built = rest;
        same =
            rw (w.waits-is, w.found-is, w.in_ok-push-in-Passes.ensures.ok, statements_more, w.into_inner.ensures, c.in_ok-withs.ensures context, w.in-Passes.is)
            (more_together statement_judged controls c.args.all.now c.loop-s.s-index c.s-item.result c.loop-s-test.true c.s-item.is here (map stmt_of c.loop-s.found) c.loop-s.waits (stmt_of w.in-Passes.form) whole (judged ∙ ap (passed stmt_of) w.in-Passes.is) c.loop-s.invariant.same);
      }
      | statements-in-Waits w ↦ record {
        built = rest;
        same =
            rw (w.waits-is, w.found-is, w.or-waits.ensures, c.in_ok-withs.ensures context, w.in-Waits.is)
            (less_together statement_judged controls c.args.all.now c.loop-s.s-index c.s-item.result c.loop-s-test.true c.s-item.is here (map stmt_of c.loop-s.found) c.loop-s.waits w.in-Waits.line whole (judged ∙ ap (passed stmt_of) w.in-Waits.is) c.loop-s.invariant.same);
      }
    ]

pub statements-returns-in-None : goal.statements-returns-in-None
statements-returns-in-None t c =
    all_together statement_judged (numbered (context_of c.args.self.now) c.loop-s.withs) (map entire_of c.args.controls.now) c.args.all.now c.loop-s.s-index (map stmt_of c.loop-s.found) c.loop-s.waits (in_order (map statement_judged c.args.all.now) (context_of c.args.self.now) (map entire_of c.args.controls.now)) c.loop-s-test.false c.in-None.is c.loop-s.invariant.same

pub statement-returns-in-Assignment : goal.statement-returns-in-Assignment
statement-returns-in-Assignment t c =
    rw (c.item_at.ensures, c.in-Assignment.is, assignment_is)
    (item_answers stmt_of c.in-Assignment.line c.unless_statement_threatens.result _ (c.unless_statement_threatens.ensures _ c.assignment-form.ensures))

pub statement-returns-in-Repeat : goal.statement-returns-in-Repeat
statement-returns-in-Repeat t c =
    rw (c.in-Repeat.is, repeat_is) (c.repeat_form.ensures _ _ (rw c.get-in-Repeat.ensures at c.condition-in-Repeat.ensures) (rw c.items-in-Repeat.ensures at c.statements-inner.ensures))

pub statement-returns-in-Call : goal.statement-returns-in-Call
statement-returns-in-Call t c =
    rw (c.item_at-in-Call.ensures, c.in-Call.is, call_is)
    (item_answers stmt_of c.in-Call.line c.unless_statement_threatens-in-Call.result _ (c.unless_statement_threatens-in-Call.ensures _ c.call-form.ensures))

pub statement-counting-requires : goal.statement-counting-requires
statement-counting-requires t c =
    let built : statement_unbuilt (statement.For c.in-For.line c.in-For.name c.in-For.start c.in-For.direction c.in-For.end c.in-For.body) ≡ None = rw c.in-For.is at c.requires in
    (search (rules, the_lemmas), (rw c.get-in-For.ensures (inner_built c.in-For.line c.in-For.name c.in-For.start c.in-For.direction c.in-For.end c.in-For.body built), (rw c.get-in-For-2.ensures (start_built c.in-For.line c.in-For.name c.in-For.start c.in-For.direction c.in-For.end c.in-For.body built), rw c.get-in-For-3.ensures (end_built c.in-For.line c.in-For.name c.in-For.start c.in-For.direction c.in-For.end c.in-For.body built))))

pub statement-returns-in-For : goal.statement-returns-in-For
statement-returns-in-For t c = rw (c.in-For.is, for_is) (rw (c.get-in-For.ensures, c.get-in-For-2.ensures, c.get-in-For-3.ensures) at c.counting.ensures)

pub counting-returns : goal.counting-returns
counting-returns t c =
    let chosen : control_judged (context_of c.args.self.now) c.args.name.now ≡ Accepts (counted_of c.in-Ok.control) = c.in-Ok.ensures in
    let head : AnswersRow head_of c.item_at.result (at_item c.args.line _) =
    rw c.item_at.ensures (item_answers head_of c.args.line c.unless_head_threatens-form.result _ (c.unless_head_threatens-form.ensures _ (rw c.falls_by.ensures at c.head-head.ensures))) in
    rw chosen (c.for_form.ensures _ _ head c.statement_under-inner.ensures)

pub statement-over_members-requires : goal.statement-over_members-requires
statement-over_members-requires t c =
    let built : statement_unbuilt (statement.ForIn c.in-ForIn.line c.in-ForIn.name c.in-ForIn.set c.in-ForIn.body) ≡ None = rw c.in-ForIn.is at c.requires in
    (search (rules, the_lemmas), (rw c.get-in-ForIn.ensures (turn_built c.in-ForIn.line c.in-ForIn.name c.in-ForIn.set c.in-ForIn.body built), rw c.get-in-ForIn-2.ensures (set_built c.in-ForIn.line c.in-ForIn.name c.in-ForIn.set c.in-ForIn.body built)))

pub statement-returns-in-ForIn : goal.statement-returns-in-ForIn
statement-returns-in-ForIn t c = rw (c.in-ForIn.is, for_in_is) (rw (c.get-in-ForIn.ensures, c.get-in-ForIn-2.ensures) at c.over_members.ensures)

pub over_members-returns : goal.over_members-returns
over_members-returns t c =
    let chosen : control_judged (context_of c.args.self.now) c.args.name.now ≡ Accepts (counted_of c.in-Ok.control) = c.in-Ok.ensures in
    let head : AnswersRow member_head_of c.item_at.result (at_item c.args.line _) =
    rw c.item_at.ensures (item_answers member_head_of c.args.line c.unless_member_threatens-form.result _ (c.unless_member_threatens-form.ensures _ c.member_head-head.ensures)) in
    rw chosen (c.for_in_form.ensures _ _ head c.statement_under-inner.ensures)

pub statement-returns-in-While : goal.statement-returns-in-While
statement-returns-in-While t c =
    rw (c.in-While.is, while_is) (c.while_form.ensures _ _ (rw c.get-in-While-2.ensures at c.condition-in-While.ensures) (rw c.get-in-While.ensures at c.statement-inner.ensures))

pub statement-assignment-form-requires-clause-target : goal.statement-assignment-form-requires-clause-target
statement-assignment-form-requires-clause-target t c = target_built c.in-Assignment.line c.in-Assignment.access c.in-Assignment.value (rw c.in-Assignment.is at c.requires)

pub statement-assignment-form-requires-clause-value : goal.statement-assignment-form-requires-clause-value
statement-assignment-form-requires-clause-value t c = value_built c.in-Assignment.line c.in-Assignment.access c.in-Assignment.value (rw c.in-Assignment.is at c.requires)

pub statement-statement-inner-requires : goal.statement-statement-inner-requires
statement-statement-inner-requires t c =
    (search (rules, the_lemmas), rw c.get-in-While.ensures (body_built c.in-While.line c.in-While.e c.in-While.body (rw c.in-While.is at c.requires)))

pub statement-statement-first-requires : goal.statement-statement-first-requires
statement-statement-first-requires t c =
    (search (rules, the_lemmas), rw c.get.ensures (then_built c.in-If.line c.in-If.e c.in-If.then c.in-If.other (rw c.in-If.is at c.requires)))

pub statement-alternative-second-requires : goal.statement-alternative-second-requires
statement-alternative-second-requires t c =
    (search (rules, the_lemmas), rw c.get-in-Some.ensures (other_built c.in-If.line c.in-If.e c.in-If.then c.in-Some.other (rw (c.in-If.is, c.in-Some.is) at c.requires)))

pub statement-returns-after-other : goal.statement-returns-after-other
statement-returns-after-other t c =
    let context : Context = context_of c.args.self.now in
    let controls : List Entire = map entire_of c.args.controls.now in
    let then_part : Judgement Stmt = statement_judged c.in-If.then context controls in
    let first : AnswersRow stmt_of c.statement-first.result then_part = rw c.get.ensures at c.statement-first.ensures in
    let second : AnswersRow stmt_of c.match-other.second (else_judged (else_rest c.in-If.other) context controls then_part) =
    elim c.match-other.branch [
      | statement-in-None w ↦ rw (w.second-is, w.in-None.is) w.empty-second.ensures
      | statement-in-Some w ↦ rw (w.second-is, w.in-Some.is) (rw w.get-in-Some.ensures at w.alternative-second.ensures then_part first)
    ] in
    rw (c.in-If.is, if_is) (c.if_form.ensures (condition_judged context controls c.in-If.line c.in-If.e) then_part _ (rw c.get-in-If.ensures at c.condition.ensures) first second)

pub statement-with_records-requires : goal.statement-with_records-requires
statement-with_records-requires t c =
    let built : statement_unbuilt (statement.With c.in-With.line c.in-With.accesses c.in-With.body) ≡ None = rw c.in-With.is at c.requires in
    (search (rules, the_lemmas), (rw c.get-in-With.ensures (opened_built c.in-With.line c.in-With.accesses c.in-With.body built), rw c.items-in-With.ensures (records_built c.in-With.line c.in-With.accesses c.in-With.body built)))

pub statement-returns-in-With : goal.statement-returns-in-With
statement-returns-in-With t c = rw (c.in-With.is, with_is) (rw (c.get-in-With.ensures, c.items-in-With.ensures) at c.with_records.ensures)

pub with_records-returns : goal.with_records-returns
with_records-returns t c =
    let chosen : records_opened (context_of c.args.self.now) c.args.accesses.now (none_opened (context_of c.args.self.now)) ≡ Accepts (opened_of c.in-Ok.opened) = c.in-Ok.ensures in
    let heads : AnswersRow heads_of c.item_at.result (at_item c.args.line _) =
    rw c.item_at.ensures (item_answers heads_of c.args.line c.unless_places_threaten-heads.result _ (rw c.into_heads.ensures at c.unless_places_threaten-heads.ensures)) in
    rw chosen (c.with_form.ensures _ _ heads c.statement_inside-inner.ensures)

pub with_records-returns-in-Err : goal.with_records-returns-in-Err
with_records-returns-in-Err t c =
    rw c.refused_at.ensures (opened_falls (context_of c.args.self.now) (map entire_of c.args.controls.now) c.args.line _ _ c.in-Err.refusal c.in-Err.ensures)

pub statement_inside-returns : goal.statement_inside-returns
statement_inside-returns t c = rw c.view-scopes.ensures at c.statement.ensures

pub alternative-returns : goal.alternative-returns
alternative-returns t c x h =
    rw (c.numbered.ensures ∙ c.in_ok-withs.ensures (context_of c.args.self.now) x h) at c.statement.ensures

pub otherwise-returns : goal.otherwise-returns
otherwise-returns t c x h =
    c.otherwise_form.ensures _ (rw (c.items.ensures, c.numbered-context.ensures ∙ c.in_ok-withs.ensures (context_of c.args.self.now) x h) at c.statements.ensures)

pub arms-loop-a-preserved : goal.arms-loop-a-preserved
arms-loop-a-preserved t c =
    let context : Context = context_of c.args.self.now in
    let here : Context = numbered context c.loop-a.withs in
    let controls : List Entire = map entire_of c.args.controls.now in
    let whole : Judgement Arms = arms_in_order c.args.line c.args.host (map arm_judged c.args.all.now) context controls in
    let rest : first_in (map arm_unbuilt (drop (c.loop-a.a-index + 1) c.args.all.now)) ≡ None = rest_built arm_unbuilt c.args.all.now c.loop-a.a-index c.a-item.result c.loop-a-test.true c.a-item.is c.loop-a.invariant.built in
    let judged = sym (ap (λ k. arm_row c.args.line c.args.host (arm_judged c.a-item.result) k controls) c.numbered.ensures) ∙ c.in_ok-one.ensures in
    elim c.match-one-2.branch [
      | arms-in-Passes+in_ok-push-in-Passes w ↦ record {
        built = rest;
        same =
            rw (w.waits-is, w.found-is, w.in_ok-push-in-Passes.ensures.ok, arms_more, w.into_inner.ensures, c.in_ok-withs.ensures context, w.in-Passes.is)
            (more_arms arm_judged c.args.line c.args.host controls c.args.all.now c.loop-a.a-index c.a-item.result c.loop-a-test.true c.a-item.is here (map arm_of c.loop-a.found) c.loop-a.waits (arm_of w.in-Passes.form) whole (judged ∙ ap (passed arm_of) w.in-Passes.is) c.loop-a.invariant.same);
      }
      | arms-in-Waits w ↦ record {
        built = rest;
        same =
            rw (w.waits-is, w.found-is, w.or-waits.ensures, c.in_ok-withs.ensures context, w.in-Waits.is)
            (less_arms arm_judged c.args.line c.args.host controls c.args.all.now c.loop-a.a-index c.a-item.result c.loop-a-test.true c.a-item.is here (map arm_of c.loop-a.found) c.loop-a.waits w.in-Waits.line whole (judged ∙ ap (passed arm_of) w.in-Waits.is) c.loop-a.invariant.same);
      }
    ]

pub arms-returns-in-None : goal.arms-returns-in-None
arms-returns-in-None t c =
    all_arms arm_judged c.args.line c.args.host (numbered (context_of c.args.self.now) c.loop-a.withs) (map entire_of c.args.controls.now) c.args.all.now c.loop-a.a-index (map arm_of c.loop-a.found) c.loop-a.waits (arms_in_order c.args.line c.args.host (map arm_judged c.args.all.now) (context_of c.args.self.now) (map entire_of c.args.controls.now)) c.loop-a-test.false c.in-None.is c.loop-a.invariant.same

pub statement-returns-in-Err : goal.statement-returns-in-Err
statement-returns-in-Err t c =
    rw (c.refused_at.ensures, c.in-Case.is, case_is)
    (selector_falls c.in-Case.line _ _ _ _ c.in-Err.refusal (rw (c.get-in-Case.ensures, c.items.ensures) at c.in-Err.ensures))

pub statement-returns-after-other-2 : goal.statement-returns-after-other-2
statement-returns-after-other-2 t c =
    let line = c.in-Case.line in
    let context : Context = context_of c.args.self.now in
    let controls : List Entire = map entire_of c.args.controls.now in
    let chosen : selector_judged c.args.self.now.scopes.now c.in-Case.e (map labels_of c.in-Case.arms) ≡ Accepts (selector_of c.in-Ok.selector) = rw (c.get-in-Case.ensures, c.items.ensures) at c.in-Ok.ensures in
    let arms : Judgement Arms = arms_in_order line c.in-Ok.selector.host (map arm_judged c.in-Case.arms) context controls in
    let inner : AnswersRow arms_of c.arms-inner.result arms = rw c.items-in-Case.ensures at c.arms-inner.ensures in
    let rest : AnswersRow other_of c.match-other-2.rest (other_judged (rest_judged c.in-Case.other) context controls arms) =
    elim c.match-other-2.branch [
      | statement-in-None-other w ↦ rw (w.rest-is, w.in-None-other.is) w.no_otherwise-rest.ensures
      | statement-in-Some-other w ↦ rw (w.rest-is, w.in-Some-other.is) (w.otherwise-rest.ensures arms inner)
    ] in
    let form : AnswersRow expr_of c.item_at-in-Case.result (at_item line (expr_item context controls (Accepts (option_map expr_of c.in-Ok.selector.form)))) =
    rw c.item_at-in-Case.ensures
    (item_answers expr_of line c.unless_value_threatens-form.result _
    (c.unless_value_threatens-form.ensures (Accepts (option_map expr_of c.in-Ok.selector.form)) (ap (λ f. Accepts (option_map expr_of f)) (sym c.into_form.ensures)))) in
    rw (c.in-Case.is, case_is, chosen) (c.case_form.ensures _ arms (other_judged (rest_judged c.in-Case.other) context controls arms) form inner rest)
