use Rattle.ep_imports.proofs.Sequencing.{plain_more, plainly}
use Rattle.ep_imports.proofs.imports.spell_plainly.Goals as goal

pub returns-then-qualified : goal.returns-then-qualified
returns-then-qualified c = plainly c.args.spelled.now c.args.name.now c.args.qualified c.if-qualified.true

pub returns-in_ok-add : goal.returns-in_ok-add
returns-in_ok-add c = plain_more c.args.spelled.now c.add.new.self c.args.name.now c.bytes.result.now c.args.qualified c.if-qualified.false c.bytes.ensures.bytes c.in_ok-add.ensures
