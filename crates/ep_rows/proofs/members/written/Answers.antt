use Rattle.std.proofs.Common.{◌≡◌, ◌<◌, ◌^◌, pos, get_or, to_z, of_z, w64, refl, ◌∙◌, arith, rules}
use Rattle.std.proofs.lemmas.List.{length-set}
use Rattle.ep_rows.proofs.SetBits.{set_each, written_is}
use Rattle.ep_rows.proofs.members.written.Goals as goal

pub loop-place-init : goal.loop-place-init
loop-place-init c = record { size = refl; done = λ k less. absurd (omega (arith, less)) }

pub loop-place-preserved : goal.loop-place-preserved
loop-place-preserved c =
    let words = c.args.set.words in
    let shown : to_z w64 (of_z w64 c.wide.result) ≡ pos (get_or words c.loop-place.place 0) = search rules in
    rw shown (record {
      size = length-set c.loop-place.words c.loop-place.place (pos (get_or words c.loop-place.place 0)) ∙ c.loop-place.invariant.size;
      done =
          set_each (λ k w. (w ≡ pos (get_or words k 0)) × (get_or words k 0 < 2 ^ 32)) c.loop-place.words c.loop-place.place (pos (get_or words c.loop-place.place 0)) (pos 0)
          (omega (arith, c.loop-place.invariant.size, c.loop-place-test.true)) c.loop-place.invariant.done (refl, c.wide.ensures.small);
    })

pub returns : goal.returns
returns c = written_is c.args.set c.loop-place.words c.loop-place.invariant.size (λ k less. c.loop-place.invariant.done k (omega (arith, less, c.loop-place-test.false)))
