use Rattle.std.proofs.Common.{◌∙◌}
use Rattle.ep_imports.proofs.Sequencing.{long_more}
use Rattle.ep_imports.proofs.imports.spell_name.Goals as goal

pub returns : goal.returns
returns c =
    long_more c.args.spelled.now c.add.new.self c.spell_plainly.new.spelled c.args.interface.now c.args.name.now c.items.result.now c.args.qualified
    (c.items.ensures ∙ c.in_ok-long.ensures) c.in_ok-add.ensures c.in_ok-spell_plainly.ensures
