use Rattle.std.proofs.Common.{◌≡◌, ◌∙◌, Some, map, sym}
use Rattle.ep_rules.specs.Judgements.{Accepts}
use Rattle.ep_stmt_rules.specs.Answers.{head_of}
use Rattle.ep_threats.specs.Variables.{entire_of}
use Rattle.ep_threats.specs.Callees.{callees_among}
use Rattle.ep_stmt_rules.specs.Statements.{head_threat}
use Rattle.ep_stmt_rules.proofs.Threatening.{is_kept, is_refused}
use Rattle.ep_stmt_rules.proofs.loops.unless_head_threatens.Goals as goal

pub returns : goal.returns
returns c j h =
    let is : j ≡ Accepts (Some (head_of c.in-Some.h)) = rw (c.in_ok-h.was, c.in-Some.is) at h in
    is_kept (head_threat (callees_among c.args.routines.now)) (map entire_of c.args.controls.now) j (head_of c.in-Some.h) is (rw c.callees.ensures at (sym c.head_threatens_one.ensures ∙ c.if-head_threatens_one.false))

pub returns-then-head_threatens_one : goal.returns-then-head_threatens_one
returns-then-head_threatens_one c j h =
    let is : j ≡ Accepts (Some (head_of c.in-Some.h)) = rw (c.in_ok-h.was, c.in-Some.is) at h in
    is_refused (head_threat (callees_among c.args.routines.now)) (map entire_of c.args.controls.now) j (head_of c.in-Some.h) is (rw c.callees.ensures at (sym c.head_threatens_one.ensures ∙ c.if-head_threatens_one.true))
