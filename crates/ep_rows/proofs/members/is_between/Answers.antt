use Rattle.std.proofs.Common.{arith, w64}
use Rattle.std.proofs.lemmas.Int.{to_z-of_z}
use Rattle.ep_rows.proofs.SetWords.{next_place, words_inside, words_outside}
use Rattle.ep_rows.proofs.members.is_between.Goals as goal

pub loop-place-init : goal.loop-place-init
loop-place-init c k less = absurd (omega (arith, less))

pub returns-then-not-word_is_between : goal.returns-then-not-word_is_between
returns-then-not-word_is_between c =
    let low = to_z-of_z w64 c.args.lo c.ranges.lo in
    let high = to_z-of_z w64 c.args.hi c.ranges.hi in
    let some = rw c.if-not-word_is_between.true at c.word_is_between.ensures in
    words_outside c.args.lo c.args.hi c.args.set c.loop-place.place c.loop-place-test.true (rw (low, high) at some)

pub loop-place-preserved : goal.loop-place-preserved
loop-place-preserved c =
    let here = rw c.if-not-word_is_between.false at c.word_is_between.ensures in
    next_place _ c.loop-place.place c.loop-place.invariant here

pub returns : goal.returns
returns c =
    let low = to_z-of_z w64 c.args.lo c.ranges.lo in
    let high = to_z-of_z w64 c.args.hi c.ranges.hi in
    words_inside c.args.lo c.args.hi c.args.set (λ k less. rw (low, high) at (c.loop-place.invariant k (omega (arith, less, c.loop-place-test.false))))
