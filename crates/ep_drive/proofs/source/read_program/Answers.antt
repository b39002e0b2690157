use Rattle.ep_drive.proofs.Sources.{accepted}
use Rattle.ep_drive.proofs.source.read_program.Goals as goal

pub returns-clause-accepted : goal.returns-clause-accepted
returns-clause-accepted c = accepted c.args.text.now c.read.result _ c.read.ensures
