use Rattle.std.proofs.Common.{sym, ap, get_or, take, slice_get, slice_set, None, ◌∙◌, ◌-◌}
use Rattle.ep_memory.specs.Stores.{live}
use Rattle.ep_object.specs.Calls.{words_in, words_of}
use Rattle.ep_rows.proofs.Endings.{ended_one, weight_at, words_one}
use Rattle.ep_rows.proofs.segments.end.Goals as goal

pub loop-number-preserved : goal.loop-number-preserved
loop-number-preserved c =
    let h = c.loop-number.invariant in
    let made = c.args.made.now in
    let i = c.loop-number.number-index in
    let n = get_or made i 0 in
    let m = c.loop-number.memory in
    let all = c.args.memory.now in
    let left = live all - words_of (take i made) all.segments in (
      ap (λ s. s.segments) c.release.ensures.store ∙ (ap (λ ss. slice_set ss n None) h.0 ∙ sym (ended_one made i (live all) all.segments c.loop-number-test.true)),
      c.release.ensures.live
          ∙ (ap (λ w. live m - w) (weight_at m n)
          ∙ (ap (λ k. k - words_in (slice_get m.segments n)) h.1
          ∙ (ap (λ ss. left - words_in (slice_get ss n)) h.0
          ∙ sym (words_one made i (live all) all.segments c.loop-number-test.true)))),
    )
