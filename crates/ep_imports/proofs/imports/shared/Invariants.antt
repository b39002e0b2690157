use Rattle.std.proofs.Common.{◌≡◌, drop}
use Rattle.ep_imports.specs.Sequences.{first_shared}
use Rattle.ep_imports.proofs.imports.shared.Given as goal

abbrev pub invariant-loop-one : goal.invariant-loop-one
invariant-loop-one l =
    first_shared l.spelled l.interface l.qualified (drop l.one-index l.brought)
    ≡ first_shared l.spelled l.interface l.qualified l.brought
