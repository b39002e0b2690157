use Rattle.ep_gen_code.proofs.public.Growing.{on_ok}
use Rattle.ep_gen_expr.proofs.RangeIndexes.{grows_tested}
use Rattle.ep_gen_expr.proofs.structured.test_range.Goals as goal

pub returns : goal.returns
returns c = on_ok c.emit-5.result (grows_tested c.in_ok-emit.ensures c.in_ok-emit-2.ensures c.in_ok-emit-3.ensures c.in_ok-emit-4.ensures) c.emit-5.ensures
