use Rattle.std.proofs.Common.{◌≡◌, ◌++◌}
use Rattle.ep_gen_code.specs.Tables.{references_of}
use Rattle.ep_gen_code.proofs.tables.ReferenceTable.into_references.Given as goal

abbrev pub invariant-loop-key : goal.invariant-loop-key
invariant-loop-key l = l.references ++ references_of l.key-iterator ≡ l.fn.self
