use Rattle.ep_gen_code.proofs.public.Growing.{on_ok}
use Rattle.ep_gen_expr.proofs.RangeForms.{grows_variant}
use Rattle.ep_gen_expr.proofs.variants.active_code.Goals as goal

pub returns : goal.returns
returns c = on_ok c.selecting_code.result (grows_variant c.args.selection.now c.args.number c.in_ok-bad.bad c.in_ok-bad.ensures.0 c.in_ok-tag_code.ensures) c.selecting_code.ensures
