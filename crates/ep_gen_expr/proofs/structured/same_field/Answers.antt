use Rattle.ep_gen_code.proofs.public.Growing.{on_ok}
use Rattle.ep_gen_expr.proofs.StructuredForms.{grows_same}
use Rattle.ep_gen_expr.proofs.structured.same_field.Goals as goal

pub returns : goal.returns
returns c =
    on_ok c.emit-4.result (grows_same c.args.from.now c.args.to.now c.in_ok-emit.ensures c.in_ok-reach_field.ensures c.in_ok-emit-2.ensures c.in_ok-follow_steps.ensures c.in_ok-emit-3.ensures) c.emit-4.ensures
