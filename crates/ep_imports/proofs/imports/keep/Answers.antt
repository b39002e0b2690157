use Rattle.ep_imports.proofs.imports.keep.Goals as goal

pub returns-clause-spelled : goal.returns-clause-spelled
returns-clause-spelled c = rw c.items-names.ensures at c.in_ok-spell.ensures
