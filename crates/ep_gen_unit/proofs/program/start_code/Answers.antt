use Rattle.ep_gen_unit.proofs.ProgramForms.{appends_start}
use Rattle.ep_gen_unit.proofs.program.start_code.Goals as goal

pub returns : goal.returns
returns c = appends_start c.args.u.now c.in_ok-make_unit.ensures c.in_ok-block_code.ensures c.in_ok-stop_entry.stop_entry c.in_ok-stop_entry.ensures c.in_ok-block_code-2.ensures
