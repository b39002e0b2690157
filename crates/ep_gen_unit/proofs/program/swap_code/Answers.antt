use Rattle.ep_gen_unit.proofs.ProgramForms.{appends_swap}
use Rattle.ep_gen_unit.proofs.program.swap_code.Goals as goal

pub returns : goal.returns
returns c = appends_swap c.args.code.now c.in_ok-entry.entry c.in_ok-entry.ensures c.in_ok-emit.ensures c.in_ok-emit-2.ensures c.in_ok-emit-3.ensures
