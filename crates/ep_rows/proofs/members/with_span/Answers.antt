use Rattle.std.proofs.Common.{◌≡◌, ◌+◌, ap, ◌∙◌, ◌||◌, ◌==◌, arith}
use Rattle.ep_frames.specs.Members.{is_told}
use Rattle.ep_rows.specs.Members.{is_in_span}
use Rattle.ep_rows.proofs.SetBits.{span_begins, span_goes_on, span_set}
use Rattle.ep_rows.proofs.members.with_span.Goals as goal

pub loop-member-init : goal.loop-member-init
loop-member-init c n less = span_begins c.args.lo n (is_told c.args.set.words n)

pub loop-member-preserved : goal.loop-member-preserved
loop-member-preserved c n less =
    c.with-all.ensures.told n less
    ∙ (ap (λ b. c.loop-member.member == n || b) (c.loop-member.invariant n less)
    ∙ span_goes_on c.args.lo c.loop-member.member n (is_told c.args.set.words n) c.loop-member.auto.member)

pub returns : goal.returns
returns c =
    let most = c.loop-member.auto.member-end (omega (arith, c.requires.ordered)) in
    let end : c.loop-member.member ≡ c.args.hi + 1 = omega (arith, c.loop-member-test.false, most) in
    span_set c.args.set c.loop-member.all c.args.lo c.args.hi (λ n less. c.loop-member.invariant n less ∙ ap (λ m. is_in_span c.args.lo m c.args.set.words n) end)
