use Rattle.std.proofs.Common.{◌≡◌}
use Rattle.ep_rules.specs.Answers.{typed_of}
use Rattle.ep_check_expr.specs.Expressions.{name_judged}
use Rattle.ep_rules.specs.Judgements.{Accepts}
use Rattle.ep_stmt_rules.proofs.records.named_record.Goals as goal

pub returns : goal.returns
returns c =
    let judged : name_judged c.args.inner.now c.args.access.now ≡ Accepts (typed_of c.in_ok-variable.variable) = rw c.view-view.ensures at c.in_ok-variable.ensures.typed in
    rw judged c.record_made.ensures
