use Rattle.ep_gen_unit.proofs.ProgramForms.{takes_more}
use Rattle.ep_gen_unit.proofs.program.take_all.Goals as goal

pub loop-number-preserved : goal.loop-number-preserved
loop-number-preserved c =
    takes_more c.args.formals.now c.loop-number.number c.in_ok-slot.slot c.index-formals-number.result c.loop-number-test.true c.index-formals-number.is c.in_ok-slot.ensures.0 c.loop-number.invariant c.in_ok-take_argument.ensures
