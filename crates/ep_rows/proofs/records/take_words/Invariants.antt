use Rattle.std.proofs.Common.{◌≡◌, ◌-◌, [], reverse}
use Rattle.ep_object.specs.Types.{lowest_first}
use Rattle.ep_rows.proofs.records.take_words.Given as goal

abbrev pub invariant-loop : goal.invariant-loop
invariant-loop l = lowest_first l.count [] l.fn.stack ≡ lowest_first (l.count - l.counter) (reverse l.words.items) l.stack
