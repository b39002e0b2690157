use Rattle.ep_gen_code.proofs.public.Growing.{on_ok}
use Rattle.ep_gen_expr.proofs.StructuredForms.{grows_reached}
use Rattle.ep_gen_expr.proofs.structured.reach_field.Goals as goal

pub returns : goal.returns
returns c = on_ok c.follow_steps.result (grows_reached c.args.steps.now c.in_ok-emit.ensures) c.follow_steps.ensures
