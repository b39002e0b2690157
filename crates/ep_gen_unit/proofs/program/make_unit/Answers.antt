use Rattle.ep_gen_code.proofs.public.Growing.{on_ok}
use Rattle.ep_gen_unit.proofs.ProgramForms.{makes_unit}
use Rattle.ep_gen_unit.proofs.program.make_unit.Goals as goal

pub returns : goal.returns
returns c =
    on_ok c.make_all-2.result
    (makes_unit c.args.code.now c.args.u.now c.items-variables.result.now c.in_ok-auxiliaries.auxiliaries c.items.result.now c.items-variables.ensures c.in_ok-auxiliaries.ensures c.items.ensures c.in_ok-make_all.ensures) c.make_all-2.ensures
