use Rattle.std.proofs.Common.{◌≡◌, ◌++◌, replicate}
use Rattle.ep_object.specs.State.{undefined}
use Rattle.ep_rows.proofs.records.append_undefined.Given as goal

abbrev pub invariant-loop : goal.invariant-loop
invariant-loop l = l.words.items ≡ l.fn.words.items ++ replicate l.counter undefined
