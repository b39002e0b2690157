use Rattle.std.proofs.Common.{◌≡◌, ◌<◌, ℕ, slice_get, refl, ◌∙◌, arith}
use Rattle.std.proofs.lemmas.List.{length-set}
use Rattle.ep_object.specs.Sets.{tells, word_members}
use Rattle.ep_rows.specs.Members.{is_one}
use Rattle.ep_rows.proofs.SetBits.{set_each, read_is}
use Rattle.ep_rows.proofs.members.read.Goals as goal

pub loop-place-init : goal.loop-place-init
loop-place-init c = record { size = refl; done = λ k less. absurd (omega (arith, less)) }

pub loop-place-preserved : goal.loop-place-preserved
loop-place-preserved c =
    let words = c.args.words.now in
    let low = rw c.word_at.ensures at c.low.ensures in
    record {
      size = length-set c.loop-place.read c.loop-place.place c.low.result ∙ c.loop-place.invariant.size;
      done =
          set_each (λ k w. (i : ℕ) → i < word_members → is_one w i ≡ tells i (slice_get words k)) c.loop-place.read c.loop-place.place c.low.result 0
          (omega (arith, c.loop-place.invariant.size, c.loop-place-test.true)) c.loop-place.invariant.done low;
    }

pub returns : goal.returns
returns c = read_is _ c.args.words.now (λ k less. c.loop-place.invariant.done k (omega (arith, less, c.loop-place-test.false)))
