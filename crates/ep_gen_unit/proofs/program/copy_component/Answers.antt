use Rattle.ep_gen_code.proofs.public.Growing.{on_ok}
use Rattle.ep_gen_unit.proofs.ProgramForms.{grows_copying}
use Rattle.ep_gen_unit.proofs.program.copy_component.Goals as goal

pub returns : goal.returns
returns c =
    on_ok c.emit-9.result (grows_copying c.in_ok-emit.ensures c.in_ok-emit-2.ensures c.in_ok-emit-3.ensures c.in_ok-emit-4.ensures c.in_ok-emit-5.ensures c.in_ok-emit-6.ensures c.in_ok-emit-7.ensures c.in_ok-emit-8.ensures) c.emit-9.ensures
