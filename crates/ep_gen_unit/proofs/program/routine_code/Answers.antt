use Rattle.ep_gen_unit.proofs.ProgramForms.{appends_routine}
use Rattle.ep_gen_unit.proofs.program.routine_code.Goals as goal

pub returns : goal.returns
returns c =
    appends_routine c.args.code.now c.args.types.now c.args.routine.now c.items-formals.result.now c.in_ok-entry.entry c.in_ok-arguments.arguments c.in_ok-slots.slots c.routine_at.result c.items-formals.ensures c.in_ok-arguments.ensures.0
    c.in_ok-entry.ensures c.in_ok-take_all.ensures c.in_ok-slots.ensures c.in_ok-statement_code.ensures c.in_ok-end_routine.ensures c.routine_at.ensures
