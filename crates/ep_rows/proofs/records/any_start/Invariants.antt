use Rattle.std.proofs.Common.{◌≡◌, drop}
use Rattle.ep_rows.specs.Records.{has_start, one_passes}
use Rattle.ep_rows.proofs.records.any_start.Given as goal

abbrev pub invariant-loop-number : goal.invariant-loop-number
invariant-loop-number l = one_passes has_start l.types l.numbers ≡ one_passes has_start l.types (drop l.number-index l.numbers)
