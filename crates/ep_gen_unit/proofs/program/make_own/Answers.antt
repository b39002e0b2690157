use Rattle.ep_gen_unit.proofs.ProgramForms.{if_ok_then, makes_own}
use Rattle.ep_gen_unit.proofs.program.make_own.Goals as goal

pub returns : goal.returns
returns c =
    if_ok_then c.with_slots.result (λ slots whole. makes_own c.args.code.now c.args.routine.now c.items-variables.result.now c.in_ok-first.first c.in_ok-made.made slots c.items-variables.ensures c.in_ok-first.ensures c.in_ok-made.ensures whole) c.with_slots.ensures
