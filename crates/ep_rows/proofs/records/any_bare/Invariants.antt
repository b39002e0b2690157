use Rattle.std.proofs.Common.{◌≡◌, drop}
use Rattle.ep_rows.specs.Records.{has_bare, one_passes}
use Rattle.ep_rows.proofs.records.any_bare.Given as goal

abbrev pub invariant-loop-number : goal.invariant-loop-number
invariant-loop-number l = one_passes has_bare l.types l.numbers ≡ one_passes has_bare l.types (drop l.number-index l.numbers)
