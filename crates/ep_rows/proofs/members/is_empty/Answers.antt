use Rattle.std.proofs.Common.{arith}
use Rattle.ep_rows.proofs.SetBits.{none_in, told_at, next_zero}
use Rattle.ep_rows.proofs.members.is_empty.Goals as goal

pub loop-place-init : goal.loop-place-init
loop-place-init c k less = absurd (omega (arith, less))

pub returns-then-not-is_zero : goal.returns-then-not-is_zero
returns-then-not-is_zero c =
    let x = rw c.if-not-is_zero.true at c.is_zero.ensures in
    told_at c.args.set.words c.loop-place.place x.0 c.loop-place-test.true x.1 x.2

pub loop-place-preserved : goal.loop-place-preserved
loop-place-preserved c =
    let zero = rw c.if-not-is_zero.false at c.is_zero.ensures in
    next_zero c.args.set.words c.loop-place.place c.loop-place.invariant zero

pub returns : goal.returns
returns c n less = none_in c.args.set.words (λ k lt. c.loop-place.invariant k (omega (arith, lt, c.loop-place-test.false))) n less
