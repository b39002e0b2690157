use Rattle.std.proofs.Common.{◌≡◌}
use Rattle.ep_object.specs.Types.{repeated}
use Rattle.ep_rows.proofs.types.repeat.Given as goal

abbrev pub invariant-loop : goal.invariant-loop
invariant-loop l = l.all.items ≡ repeated l.counter l.words
