use Rattle.std.proofs.Common.{◌++◌, take}
use Rattle.ep_imports.specs.Parts.{HaveSame}
use Rattle.ep_imports.specs.Sequences.{spellings_of}
use Rattle.ep_imports.proofs.imports.spell.Given as goal

abbrev pub invariant-loop-one : goal.invariant-loop-one
invariant-loop-one l = HaveSame l.spelled (l.fn.spelled ++ spellings_of l.interface l.qualified (take l.one-index l.brought))
