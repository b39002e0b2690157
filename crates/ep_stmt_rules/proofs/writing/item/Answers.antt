use Rattle.std.proofs.lemmas.Result.{err_from_is_err_and}
use Rattle.ep_stmt_rules.proofs.Printing.{shown_falls}
use Rattle.ep_stmt_rules.proofs.writing.item.Goals as goal

pub returns-in_err-print : goal.returns-in_err-print
returns-in_err-print c =
    let p = err_from_is_err_and c.from_residual.result c.from_residual.ensures.1 in
    rw (p.1, p.2) (shown_falls c.args.scopes.now c.args.argument.now c.in_err-print.field-0.0 (rw c.get.ensures at c.in_err-print.ensures))
