use Rattle.ep_imports.proofs.Sequencing.{next_kept}
use Rattle.ep_imports.proofs.imports.open_next.Goals as goal

pub returns-in-Ok : goal.returns-in-Ok
returns-in-Ok c =
    next_kept c.args.spec.now c.args.given.now c.args.imports.now c.keep.new.imports c.args.spelled.now c.keep.new.spelled c.in-Ok.imported
    c.keep.result c.told.result c.told.ensures c.in-Ok.ensures c.keep.ensures.imports c.keep.ensures.spelled
