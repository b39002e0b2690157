use Rattle.std.proofs.Common.{◌≡◌, ◌++◌, drop, option_map}
use Rattle.ep_object.specs.Types.{entries_of, starts_joined}
use Rattle.ep_rows.specs.Records.{starts_of_all}
use Rattle.ep_rows.proofs.records.starts_of_all.Given as goal

abbrev pub invariant-loop-number : goal.invariant-loop-number
invariant-loop-number l = starts_of_all l.types l.numbers ≡ option_map (λ ns. l.words.items ++ starts_joined ns) (entries_of l.types (drop l.number-index l.numbers))
