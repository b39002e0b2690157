use Rattle.ep_typed.specs.Viewed.{control_of}
use Rattle.ep_gen_code.proofs.public.Growing.{on_ok}
use Rattle.ep_gen_unit.proofs.ForForms.{appends_first}
use Rattle.ep_gen_unit.proofs.loops.first_code.Goals as goal

pub returns : goal.returns
returns c = on_ok c.assign_read-2.result (appends_first c.args.code.now c.args.line (control_of c.args.control.now) c.in_ok-entire_value_code.ensures c.in_ok-assign_read.ensures) c.assign_read-2.ensures
