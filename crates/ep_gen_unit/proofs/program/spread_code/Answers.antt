use Rattle.ep_gen_code.proofs.public.Growing.{grows_at}
use Rattle.ep_gen_unit.proofs.ProgramForms.{appends_shuffle}
use Rattle.ep_simulation.specs.Promises.{first_code, spreading_code}
use Rattle.ep_gen_unit.proofs.program.spread_code.Goals as goal

pub returns : goal.returns
returns c = appends_shuffle c.args.code.now spreading_code c.in_ok-entry.entry c.in_ok-entry.ensures (grows_at first_code c.in_ok-leave_row.ensures c.in_ok-leave_first.ensures)
