use Rattle.ep_outside.proofs.Fronts.{front_appended}
use Rattle.ep_outside.proofs.mem_files.MemFilesFiles.append.Goals as goal

pub returns-then-next_fails-clause-appends : goal.returns-then-next_fails-clause-appends
returns-then-next_fails-clause-appends c = front_appended c.append.result c.args.name.now c.args.bytes.now _ _ _ c.append.ensures.ok c.append.ensures.err
