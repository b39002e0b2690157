use Rattle.std.proofs.Common.{◌≡◌, ◌||◌, [], pos}
use Rattle.ep_values.specs.Sets.{has, is_between, passing}
use Rattle.ep_rules.proofs.sets.span.Given as goal

abbrev pub invariant-loop-ordinal : goal.invariant-loop-ordinal
invariant-loop-ordinal l = l.all ≡ passing (λ n. is_between (pos n) l.low l.high || has n []) 0 l.ordinal
