use Rattle.ep_gen_unit.proofs.ProgramForms.{appends_shuffle, grows_ranging}
use Rattle.ep_simulation.specs.Promises.{ranging_code}
use Rattle.ep_gen_unit.proofs.program.range_code.Goals as goal

pub returns : goal.returns
returns c = appends_shuffle c.args.code.now ranging_code c.in_ok-entry.entry c.in_ok-entry.ensures (grows_ranging c.in_ok-emit.ensures c.in_ok-emit-2.ensures c.in_ok-emit-3.ensures c.in_ok-emit-4.ensures c.in_ok-emit-5.ensures c.in_ok-emit-6.ensures c.in_ok-emit-7.ensures c.in_ok-emit-8.ensures c.in_ok-emit-9.ensures c.in_ok-emit-10.ensures)
