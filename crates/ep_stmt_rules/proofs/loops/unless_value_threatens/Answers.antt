use Rattle.std.proofs.Common.{◌≡◌, ◌∙◌, Some, map, sym}
use Rattle.ep_typed.specs.Viewed.{expr_of}
use Rattle.ep_rules.specs.Judgements.{Accepts}
use Rattle.ep_threats.specs.Variables.{entire_of}
use Rattle.ep_threats.specs.Callees.{callees_among}
use Rattle.ep_stmt_rules.specs.Statements.{expr_threat}
use Rattle.ep_stmt_rules.proofs.Threatening.{is_kept}
use Rattle.ep_stmt_rules.proofs.loops.unless_value_threatens.Goals as goal

pub returns : goal.returns
returns c j h =
    let is : j ≡ Accepts (Some (expr_of c.in-Some.x)) = rw (c.in_ok-x.was, c.in-Some.is) at h in
    is_kept (expr_threat (callees_among c.args.routines.now)) (map entire_of c.args.controls.now) j (expr_of c.in-Some.x) is (rw (c.get.ensures, c.callees.ensures) at (sym c.value_threatens_one.ensures ∙ c.if-value_threatens_one.false))
