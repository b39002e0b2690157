use Rattle.ep_typed.specs.Viewed.{control_of, expr_of}
use Rattle.ep_gen_code.proofs.public.Growing.{on_ok}
use Rattle.ep_gen_unit.proofs.ForForms.{appends_bounds}
use Rattle.ep_gen_unit.proofs.loops.bounds_code.Goals as goal

pub returns : goal.returns
returns c = on_ok c.in_order_code.result (appends_bounds c.args.code.now c.args.line (control_of c.args.control.now) (expr_of c.args.initial.now) (expr_of c.args.last.now) c.in_ok-assign_entire.ensures c.in_ok-assign_entire-2.ensures) c.in_order_code.ensures
