use Rattle.std.proofs.Common.{◌≡◌, ◌∙◌, Some, map, sym}
use Rattle.ep_typed.specs.Viewed.{stmt_of}
use Rattle.ep_rules.specs.Judgements.{Accepts}
use Rattle.ep_threats.specs.Variables.{entire_of}
use Rattle.ep_threats.specs.Callees.{callees_among}
use Rattle.ep_stmt_rules.specs.Statements.{stmt_threat}
use Rattle.ep_stmt_rules.proofs.Threatening.{is_kept}
use Rattle.ep_stmt_rules.proofs.loops.unless_statement_threatens.Goals as goal

pub returns : goal.returns
returns c j h =
    let is : j ≡ Accepts (Some (stmt_of c.in-Some.s)) = rw (c.in_ok-s.was, c.in-Some.is) at h in
    is_kept (stmt_threat (callees_among c.args.routines.now)) (map entire_of c.args.controls.now) j (stmt_of c.in-Some.s) is (rw (c.get.ensures, c.callees.ensures) at (sym c.statement_threatens_one.ensures ∙ c.if-statement_threatens_one.false))
