use Rattle.ep_gen_code.proofs.public.Growing.{on_ok}
use Rattle.ep_gen_unit.proofs.ProgramForms.{grows_first}
use Rattle.ep_gen_unit.proofs.program.leave_first.Goals as goal

pub returns : goal.returns
returns c = on_ok c.emit-6.result (grows_first c.in_ok-emit.ensures c.in_ok-emit-2.ensures c.in_ok-emit-3.ensures c.in_ok-emit-4.ensures c.in_ok-emit-5.ensures c.in_ok-apply_binary.ensures) c.emit-6.ensures
