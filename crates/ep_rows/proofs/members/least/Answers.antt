use Rattle.std.proofs.Common.{◌≡◌, pos, to_z, of_z, ◌∙◌, arith, rules, w64}
use Rattle.ep_rows.proofs.SetWords.{next_place, words_least, words_none}
use Rattle.ep_rows.proofs.members.least.Goals as goal

pub loop-place-init : goal.loop-place-init
loop-place-init c k less = absurd (omega (arith, less))

pub returns-in-Some : goal.returns-in-Some
returns-in-Some c =
    let some = rw c.in-Some.is at c.least_in.ensures in
    let shown : to_z w64 (of_z w64 c.from.result) ≡ pos c.in-Some.member = search rules in
    shown ∙ words_least (pos c.args.from) c.args.set c.loop-place.place c.in-Some.member c.loop-place-test.true c.loop-place.invariant some

pub loop-place-preserved : goal.loop-place-preserved
loop-place-preserved c =
    let here = rw c.in-None.is at c.least_in.ensures in
    next_place _ c.loop-place.place c.loop-place.invariant here

pub returns : goal.returns
returns c = words_none (pos c.args.from) c.args.set (λ k less. c.loop-place.invariant k (omega (arith, less, c.loop-place-test.false)))
