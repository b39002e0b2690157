use Rattle.std.proofs.Common.{◌≡◌, ◌++◌}
use Rattle.ep_gen_code.specs.Tables.{texts_of}
use Rattle.ep_gen_code.proofs.tables.TextTable.into_texts.Given as goal

abbrev pub invariant-loop-text : goal.invariant-loop-text
invariant-loop-text l = l.texts ++ texts_of l.text-iterator ≡ l.fn.self
