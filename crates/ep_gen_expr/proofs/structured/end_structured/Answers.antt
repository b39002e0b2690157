use Rattle.ep_gen_code.proofs.public.Growing.{on_ok}
use Rattle.ep_gen_expr.proofs.StructuredForms.{grows_ended}
use Rattle.ep_gen_expr.proofs.structured.end_structured.Goals as goal

pub returns : goal.returns
returns c = on_ok c.emit-3.result (grows_ended c.in_ok-emit.ensures c.in_ok-emit-2.ensures) c.emit-3.ensures
