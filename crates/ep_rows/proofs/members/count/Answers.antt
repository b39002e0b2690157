use Rattle.std.proofs.Common.{◌≡◌, ◌*◌, ap, sym, ◌∙◌, arith}
use Rattle.ep_frames.specs.Members.{is_told}
use Rattle.ep_object.specs.Sets.{member_limit}
use Rattle.ep_object.proofs.public.Sets.{count_all, count_below, count_none}
use Rattle.ep_rows.proofs.SetWords.{words_counted}
use Rattle.ep_rows.proofs.members.count.Goals as goal

pub loop-place-init : goal.loop-place-init
loop-place-init c = record { count = sym (count_none (is_told c.args.set.words)); few = omega arith }

pub overflow_add-members : goal.overflow_add-members
overflow_add-members c = omega (arith, c.loop-place.invariant.few, c.loop-place-test.true, c.ones-members.ensures.few)

pub loop-place-preserved : goal.loop-place-preserved
loop-place-preserved c =
    let more = words_counted c.args.set.words c.loop-place.place c.ones-members.ensures.fits in
    record {
      count = omega (arith, more, c.loop-place.invariant.count, c.ones-members.ensures.ones);
      few = omega (arith, c.loop-place.invariant.few, c.ones-members.ensures.few);
    }

pub returns : goal.returns
returns c =
    let all : c.loop-place.place * 32 ≡ member_limit = omega (arith, c.loop-place-test.false, c.loop-place.auto.place-end) in
    c.loop-place.invariant.count ∙ (ap (count_below (is_told c.args.set.words)) all ∙ count_all (is_told c.args.set.words))
