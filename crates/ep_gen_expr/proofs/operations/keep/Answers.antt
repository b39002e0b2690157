use Rattle.ep_gen_code.proofs.public.Growing.{on_ok}
use Rattle.ep_gen_expr.proofs.Forms.{grows_kept}
use Rattle.ep_gen_expr.proofs.operations.keep.Goals as goal

pub returns : goal.returns
returns c = on_ok c.emit-2.result (grows_kept c.in_ok-emit.ensures) c.emit-2.ensures
