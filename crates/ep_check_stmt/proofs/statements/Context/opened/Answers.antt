use Rattle.std.proofs.lemmas.Result.{err_from_is_err_and}
use Rattle.ep_built.specs.Built.{access_unbuilt}
use Rattle.ep_stmt_rules.specs.Answers.{opened_of}
use Rattle.ep_check_stmt.specs.Contexts.{context_of}
use Rattle.ep_check_stmt.proofs.Openings.{one_further, one_refused}
use Rattle.ep_stmt_rules.proofs.public.judged.Rounds.{rest_built}
use Rattle.ep_check_stmt.proofs.statements.Context.opened.Goals as goal

pub returns-in_err-opened : goal.returns-in_err-opened
returns-in_err-opened c =
    let p = err_from_is_err_and c.from_residual-in_err-opened.result c.from_residual-in_err-opened.ensures.1 in
    rw (p.1, p.2)
    (one_refused (context_of c.args.self.now) c.args.accesses.now c.loop-access.access-index c.access-item.result c.loop-access-test.true c.access-item.is
    (opened_of c.loop-access.opened) _ c.in_err-opened.field-0.0 c.loop-access.invariant.same c.in_err-opened.ensures)

pub loop-access-preserved : goal.loop-access-preserved
loop-access-preserved c =
    record {
      built = rest_built access_unbuilt c.args.accesses.now c.loop-access.access-index c.access-item.result c.loop-access-test.true c.access-item.is c.loop-access.invariant.built;
      same =
          one_further (context_of c.args.self.now) c.args.accesses.now c.loop-access.access-index c.access-item.result c.loop-access-test.true c.access-item.is
          (opened_of c.loop-access.opened) _ (opened_of c.in_ok-opened.opened) c.loop-access.invariant.same c.in_ok-opened.ensures;
    }
