use Rattle.std.specs.Option.{option_map}
use Rattle.std.proofs.lemmas.Result.{err_from_is_err_and}
use Rattle.ep_built.specs.Built.{written_unbuilt}
use Rattle.ep_check_expr.specs.Expressions.{given}
use Rattle.ep_stmt_rules.specs.Answers.{items_of}
use Rattle.ep_stmt_rules.proofs.Gathered.{next_written, one_falls, one_gathered}
use Rattle.ep_stmt_rules.proofs.public.judged.Rounds.{rest_built}
use Rattle.ep_stmt_rules.proofs.writing.items.Goals as goal

pub returns-in_err-items : goal.returns-in_err-items
returns-in_err-items c =
    let p = err_from_is_err_and c.from_residual.result c.from_residual.ensures.1 in
    let next = next_written (given c.args.scopes.now) c.args.arguments.now c.loop-argument.argument-index c.argument-item.result c.loop-argument-test.true c.argument-item.is in
    rw (p.1, p.2) (one_falls _ _ _ _ next (option_map items_of c.loop-argument.items) c.loop-argument.invariant.same c.in_err-items.field-0.0 c.in_err-items.ensures)

pub loop-argument-preserved : goal.loop-argument-preserved
loop-argument-preserved c =
    let next = next_written (given c.args.scopes.now) c.args.arguments.now c.loop-argument.argument-index c.argument-item.result c.loop-argument-test.true c.argument-item.is in
    record {
      built = rest_built written_unbuilt c.args.arguments.now c.loop-argument.argument-index c.argument-item.result c.loop-argument-test.true c.argument-item.is c.loop-argument.invariant.built;
      same = one_gathered _ _ _ _ next (option_map items_of c.loop-argument.items) c.loop-argument.invariant.same (option_map items_of c.in_ok-items.items) c.in_ok-items.ensures;
    }
