use Rattle.std.proofs.Common.{◌≡◌, ◌||◌, [], pos, arith, w64}
use Rattle.std.proofs.lemmas.Int.{to_z-of_z}
use Rattle.ep_values.specs.Sets.{has, is_between, member_limit}
use Rattle.ep_rules.proofs.Taking.{all_taken}
use Rattle.ep_rules.proofs.sets.span.Goals as goal

pub returns : goal.returns
returns c =
    let all : c.loop-ordinal.ordinal ≡ member_limit = omega (arith, c.loop-ordinal-test.false, c.loop-ordinal.auto.ordinal-end) in
    let low = to_z-of_z w64 c.args.low c.ranges.low in
    let high = to_z-of_z w64 c.args.high c.ranges.high in
    let taken = rw (low, high) at c.loop-ordinal.invariant in
    all_taken (λ n. is_between (pos n) c.args.low c.args.high || has n []) c.loop-ordinal.ordinal c.loop-ordinal.all taken all
