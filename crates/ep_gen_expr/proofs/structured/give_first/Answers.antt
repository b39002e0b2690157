use Rattle.ep_gen_code.proofs.public.Growing.{on_ok}
use Rattle.ep_gen_expr.proofs.RangeIndexes.{grows_given}
use Rattle.ep_gen_expr.proofs.structured.give_first.Goals as goal

pub returns : goal.returns
returns c = on_ok c.emit-4.result (grows_given c.in_ok-emit.ensures c.in_ok-emit-2.ensures c.in_ok-emit-3.ensures) c.emit-4.ensures
