use Rattle.std.proofs.Common.{take}
use Rattle.ep_imports.specs.Parts.{AreUnderway}
use Rattle.ep_imports.proofs.imports.opened.Given as goal

abbrev pub invariant-loop-place : goal.invariant-loop-place
invariant-loop-place l = AreUnderway (take l.place l.specs) l.given l.imports l.spelled
