use Rattle.std.proofs.lemmas.Result.{err_from_is_err_and}
use Rattle.ep_tree.specs.declared.expression.Label.{out-Label}
use Rattle.ep_stmt_rules.proofs.LabelEnds.{low_refused, high_refused}
use Rattle.ep_stmt_rules.proofs.cases.range.Goals as goal

pub returns-in_err-low : goal.returns-in_err-low
returns-in_err-low c =
    let p = err_from_is_err_and c.from_residual.result c.from_residual.ensures.1 in
    rw (p.1, p.2) (low_refused c.args.scopes.now c.args.host (out-Label c.args.label.now).low (out-Label c.args.label.now).high c.in_err-low.field-0.0 (rw c.get.ensures at c.in_err-low.ensures))

pub returns-in_err-end-in-Some : goal.returns-in_err-end-in-Some
returns-in_err-end-in-Some c =
    let p = err_from_is_err_and c.from_residual-in_err-end-in-Some.result c.from_residual-in_err-end-in-Some.ensures.1 in
    rw (p.1, p.2, c.in-Some.is)
    (high_refused c.args.scopes.now c.args.host (out-Label c.args.label.now).low c.in-Some.high c.in_err-end-in-Some.field-0.0 c.in_ok-low.low (rw c.get.ensures at c.in_ok-low.ensures) (rw c.get-in-Some.ensures at c.in_err-end-in-Some.ensures))
