use Rattle.ep_typed.specs.Viewed.{control_of}
use Rattle.ep_gen_code.proofs.public.Growing.{on_ok}
use Rattle.ep_gen_unit.proofs.ForForms.{appends_test}
use Rattle.ep_gen_unit.proofs.loops.test_code.Goals as goal

pub returns : goal.returns
returns c = on_ok c.apply_binary.result (appends_test c.args.code.now c.args.line (control_of c.args.control.now) c.in_ok-emit.ensures c.in_ok-entire_value_code.ensures) c.apply_binary.ensures
