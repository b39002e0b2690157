use Rattle.ep_imports.proofs.Sequencing.{no_memory}
use Rattle.ep_imports.proofs.exports.GivenExports.open.Goals as goal

pub returns-in-Err : goal.returns-in-Err
returns-in-Err c = no_memory c.args.spec.now _
