use Rattle.ep_linkable.proofs.OneProgram.{no_program}
use Rattle.ep_linkable.proofs.programs.one_program.Goals as goal

pub returns-in-None-clause-other : goal.returns-in-None-clause-other
returns-in-None-clause-other c = no_program c.args.units.now c.in-None.ensures
