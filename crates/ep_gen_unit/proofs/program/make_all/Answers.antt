use Rattle.ep_gen_unit.proofs.ProgramForms.{makes_more}
use Rattle.ep_gen_unit.proofs.program.make_all.Goals as goal

pub loop-number-preserved : goal.loop-number-preserved
loop-number-preserved c =
    makes_more c.args.first c.args.variables.now c.loop-number.number c.in_ok-slot.slot c.index-variables-number.result c.loop-number-test.true c.index-variables-number.is c.in_ok-slot.ensures c.loop-number.invariant c.in_ok-make_variable.ensures
